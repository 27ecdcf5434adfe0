use Rattle.std.proofs.Common.{◌≡◌, map, take}
use Rattle.mesa_schema.specs.Changes.{columns_of}
use Rattle.mesa_batch.specs.declared.glance.Glanced.{Glanced}
use Rattle.mesa_batch.specs.Shared.{shared_columns}
use Rattle.mesa_batch.proofs.glance.Glance.columns.Given as goal

-- the columns of the tables so far
abbrev pub invariant-tables : goal.invariant-tables
invariant-tables l = shared_columns l.columns ≡ take l.table-index (map (λ (t : Glanced). columns_of t.evolving.value) l.table-items)
