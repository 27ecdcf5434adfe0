use Rattle.std.proofs.Common.{◌≤◌, ◌*◌}
use Rattle.mesa_open_files.specs.mesa_columns.Columns.{Columns}
use Rattle.mesa_open_files.specs.mesa_columns.Rows.{AreRowsOf}
use Rattle.mesa_batch.specs.Totals.{abs_total}
use Rattle.mesa_bench.specs.Made.{HasColumns}
use Rattle.mesa_bench.proofs.rows.make_rows.Given as goal

-- the rows so far have the form, and each counts once
abbrev pub invariant-loop-number : goal.invariant-loop-number
invariant-loop-number l = record {
  form : (s : Columns) → HasColumns s → AreRowsOf s l.made.items;
  few : abs_total 0 l.made.items ≤ l.number * 999;
}
