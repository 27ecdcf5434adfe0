use Rattle.std.proofs.Common.{sym}
use Rattle.csv.specs.Records.{fields_of}
use Rattle.mesa_parse.proofs.FieldAt.{field_behind, field_there}
use Rattle.mesa_parse.proofs.records.field.Goals as goal

pub returns-in-Some : goal.returns-in-Some
returns-in-Some c = sym (field_there c.args.place (fields_of c.args.fields.now) _ (sym c.in-Some.ensures.value))

pub returns-in-None : goal.returns-in-None
returns-in-None c = sym (field_behind c.args.place (fields_of c.args.fields.now) (sym c.in-None.ensures.value))
