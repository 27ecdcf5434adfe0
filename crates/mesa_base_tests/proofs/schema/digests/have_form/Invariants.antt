use Rattle.std.proofs.Common.{take}
use Rattle.mesa_print.specs.mesa_columns.Rows.{AreRowsOf}
use Rattle.mesa_base_tests.proofs.schema.digests.have_form.Given as goal

abbrev pub invariant-loop-row : goal.invariant-loop-row
invariant-loop-row l = AreRowsOf l.schema (take l.row-index l.rows)
