use Rattle.std.proofs.Common.{◌≡◌, take}
use Rattle.std.specs.Prelude.{flat_map}
use Rattle.mesa_table_records.specs.Stated.{stating_loaded}
use Rattle.mesa_table_records.proofs.stating.state_singles.Given as goal

-- what is stated of the versions so far
abbrev pub invariant-loop-single : goal.invariant-loop-single
invariant-loop-single l = l.stated.items ≡ flat_map stating_loaded (take l.single-index l.loaded)
