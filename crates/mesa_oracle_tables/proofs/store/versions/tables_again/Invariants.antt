use Rattle.std.proofs.Common.{◌≡◌, length, map, take}
use Rattle.mesa_batch.specs.Numbers.{known_of}
use Rattle.mesa_oracle_tables.proofs.store.versions.tables_again.Given as goal

-- the tables so far
abbrev pub invariant-tables : goal.invariant-tables
invariant-tables l = record {
  known : map known_of l.again.items ≡ map known_of (take l.table-index l.tables);
  len : length l.again.items ≡ l.table-index;
}
