use Rattle.std.proofs.Common.{◌∙◌, ap, ◌++◌}
use Rattle.csv.specs.Records.{fields_of}
use Rattle.csv.specs.Writing.{writer_setup}
use Rattle.mesa_print.specs.Writing.{lines_written}
use Rattle.mesa_print.proofs.RowTexts.{looks_at_none, row_as_default}
use Rattle.mesa_print.proofs.writing.write_row.Goals as goal
use Rattle.mesa_print.proofs.writing.write_row.Goals.{in-Ok, in-Err}

pub returns-clause-line : goal.returns-clause-line
returns-clause-line c =
    elim c.match-write_byte_record.branch [
      | in-Ok w ↦ rw w.result-is (w.in-Ok.ensures.bytes c.requires.none c.requires.clean (looks_at_none _ c.requires.setup) ∙ ap (λ text. lines_written c.args.writer.now ++ text) (row_as_default (writer_setup c.args.writer.now) (fields_of c.args.fields.now) c.requires.setup))
      | in-Err w ↦ rw w.result-is tt
    ]
