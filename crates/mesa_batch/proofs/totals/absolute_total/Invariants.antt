use Rattle.std.proofs.Common.{◌≡◌, min, take}
use Rattle.mesa_batch.specs.Flat.{rows_over}
use Rattle.mesa_batch.specs.Totals.{abs_total, sum_bound}
use Rattle.mesa_batch.proofs.totals.absolute_total.Given as goal

-- the rows so far are added up
abbrev pub invariant-places : goal.invariant-places
invariant-places l = l.total ≡ min sum_bound (abs_total l.column (rows_over l.rows (take l.place-index l.places)))
