use Rattle.std.proofs.Common.{◌≡◌, ℕ, [], length, slice_index_or, take}
use Rattle.mesa_batch.specs.Heads.{places_for}
use Rattle.mesa_batch.proofs.ordering.parted.Given as goal

-- each table's places so far
abbrev pub invariant-order : goal.invariant-order
invariant-order l = record {
  count : length l.tables ≡ l.fn.count;
  parts : (table : ℕ) → slice_index_or l.tables table [] ≡ places_for table (take l.spot-index l.order);
}
