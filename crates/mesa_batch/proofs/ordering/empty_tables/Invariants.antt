use Rattle.std.proofs.Common.{◌≡◌, ℕ, [], length, slice_index_or}
use Rattle.mesa_batch.proofs.ordering.empty_tables.Given as goal

-- as many tables as were counted, and no place in any
abbrev pub invariant-tables : goal.invariant-tables
invariant-tables l = record {
  count : length l.tables ≡ l.counter;
  empty : (table : ℕ) → slice_index_or l.tables table [] ≡ [];
}
