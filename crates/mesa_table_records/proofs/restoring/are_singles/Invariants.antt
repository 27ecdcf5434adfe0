use Rattle.std.proofs.Common.{◌≡◌, drop}
use Rattle.mesa_catalog_table.specs.mesa_store_spec.CheckpointFits.{are_singles}
use Rattle.mesa_table_records.proofs.restoring.are_singles.Given as goal

-- the singletons that are left decide
abbrev pub invariant-loop-single : goal.invariant-loop-single
invariant-loop-single l = are_singles l.least l.next (drop l.single-index l.singles) ≡ are_singles l.fn.from l.next l.singles
