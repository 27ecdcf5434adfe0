use Rattle.std.proofs.Common.{◌≡◌, take}
use Rattle.mesa_batch.specs.Shared.{shared_columns}
use Rattle.mesa_batch.proofs.shared.shared_again.Given as goal

-- the columns so far
abbrev pub invariant-tables : goal.invariant-tables
invariant-tables l = shared_columns l.again ≡ shared_columns (take l.evolving-index l.evolving-items)
