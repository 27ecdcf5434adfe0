use Rattle.std.proofs.Common.{◌≡◌, take}
use Rattle.mesa_batch.specs.Gathered.{rows_at}
use Rattle.mesa_batch.proofs.batch.Batch.rows.Given as goal

-- the rows so far
abbrev pub invariant-places : goal.invariant-places
invariant-places l = l.rows ≡ take l.place (rows_at l.table l.self)
