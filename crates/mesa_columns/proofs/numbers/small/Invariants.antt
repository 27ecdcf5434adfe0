use Rattle.std.proofs.Common.{◌≡◌, ◌<◌, ◌^◌, drop}
use Rattle.mesa_columns.specs.Numbers.{digits_from}
use Rattle.mesa_columns.proofs.numbers.small.Given as goal

-- the digits that are left go on from the number so far
abbrev pub invariant-digits : goal.invariant-digits
invariant-digits l = record {
  same : digits_from l.number (drop l.byte-index l.bytes) ≡ digits_from 0 l.bytes;
  below : l.number < 2 ^ 63;
}
