use Rattle.std.proofs.Common.{◌≡◌, ◌+◌, ◌*◌, map, take}
use Rattle.mesa_catalog_table.specs.mesa_store_spec.Checkpoint.{stating_range}
use Rattle.mesa_catalog_table.specs.Meaning.{tens_from}
use Rattle.mesa_table_records.proofs.stating.state_cumulatives.Given as goal

-- what is stated of the cumulatives so far
abbrev pub invariant-loop-delta : goal.invariant-loop-delta
invariant-loop-delta l = record {
  behind : l.behind ≡ l.fn.start + 10 * l.delta-index;
  stated : l.stated.items ≡ map stating_range (tens_from l.fn.start (take l.delta-index l.cumulatives));
}
