use Rattle.std.proofs.Common.{◌∙◌}
use Rattle.csv.specs.Records.{fields_of}
use Rattle.mesa_parse.proofs.FieldAt.{field_behind_first}
use Rattle.mesa_parse.proofs.records.RowFieldsWords.word.Goals as goal

pub returns : goal.returns
returns c = c.field.ensures ∙ field_behind_first c.args.place (fields_of c.args.self.now.fields.now)
