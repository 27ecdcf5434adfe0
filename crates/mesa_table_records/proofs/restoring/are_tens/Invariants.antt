use Rattle.std.proofs.Common.{◌≡◌, ◌^◌, ◌≤◌, drop}
use Rattle.mesa_catalog_table.specs.mesa_store_spec.CheckpointFits.{are_tens}
use Rattle.mesa_table_records.proofs.restoring.are_tens.Given as goal

-- the ranges that are left decide
abbrev pub invariant-loop-range : goal.invariant-loop-range
invariant-loop-range l = record {
  left : are_tens l.from (drop l.range-index l.ranges) ≡ are_tens l.fn.start l.ranges;
  small : l.from ≤ 2 ^ 32;
}
