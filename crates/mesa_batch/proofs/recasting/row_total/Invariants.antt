use Rattle.std.proofs.Common.{◌≡◌, min, take}
use Rattle.mesa_batch.specs.Totals.{abs_total, sum_bound}
use Rattle.mesa_batch.proofs.recasting.row_total.Given as goal

-- the rows so far are added up
abbrev pub invariant-rows : goal.invariant-rows
invariant-rows l = l.total ≡ min sum_bound (abs_total l.column (take l.row-index l.rows))
