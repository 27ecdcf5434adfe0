use Rattle.std.proofs.Common.{◌≡◌, ◌*◌, take, length}
use Rattle.std.specs.Prelude.{flat_map}
use Rattle.std.specs.List.{AllByRecursion}
use Rattle.mesa_delta_format.specs.Places.{spelled, HasWidths}
use Rattle.mesa_delta_format.proofs.place.read_entries.Given as goal

abbrev pub invariant-loop-i : goal.invariant-loop-i
invariant-loop-i l = record {
  spelled : flat_map spelled l.entries.items ≡ take (60 * l.i) l.bytes;
  widths : AllByRecursion HasWidths l.entries.items;
  count : length l.entries.items ≡ l.i;
}
