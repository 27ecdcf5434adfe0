use Rattle.std.proofs.Common.{◌≡◌, length, map, take}
use Rattle.mesa_batch.specs.Numbers.{known_of}
use Rattle.mesa_catalog.specs.Lookups.{known_in}
use Rattle.mesa_catalog.proofs.lookups.glanced.Given as goal

-- the tables so far
abbrev pub invariant-loop-table : goal.invariant-loop-table
invariant-loop-table l = record {
  known : map known_of l.known.items ≡ map known_in (take l.table-index l.tables);
  len : length l.known.items ≡ l.table-index;
}
