use Rattle.std.proofs.Common.{◌≡◌, ◌≤◌, drop}
use Rattle.mesa_columns.specs.Numbers.{digits_from}
use Rattle.mesa_parse.proofs.numbers.number_in.Given as goal

-- the digits that are left go on from the number so far
abbrev pub invariant-digits : goal.invariant-digits
invariant-digits l = record {
  same : digits_from l.number (drop l.byte-index l.word) ≡ digits_from 0 l.word;
  within : l.number ≤ l.high;
}
