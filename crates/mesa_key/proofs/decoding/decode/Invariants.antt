use Rattle.std.proofs.Common.{◌≡◌, ◌≤◌, ◌++◌, length}
use Rattle.mesa_key.specs.Faults.{fault_of_key}
use Rattle.mesa_key.specs.Spelling.{key_of}
use Rattle.mesa_key.proofs.Reading.{after_key, begins_with_key}
use Rattle.mesa_key.proofs.decoding.decode.Given as goal

-- what was read, and what the rest begins with, are what the bytes begin with
abbrev pub invariant-loop-column : goal.invariant-loop-column
invariant-loop-column l = record {
  read : key_of l.types l.bytes ≡ l.key ++ key_of l.columns.kinds l.columns.bytes;
  begins : begins_with_key l.types l.bytes ≡ begins_with_key l.columns.kinds l.columns.bytes;
  after : after_key l.types l.bytes ≡ after_key l.columns.kinds l.columns.bytes;
  fault : fault_of_key l.types l.bytes ≡ fault_of_key l.columns.kinds l.columns.bytes;
  within : length l.columns.bytes ≤ length l.bytes;
}

abbrev pub decreases-loop-column : goal.decreases-loop-column
decreases-loop-column l = length l.columns.kinds
