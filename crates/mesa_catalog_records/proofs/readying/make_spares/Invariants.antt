use Rattle.std.proofs.Common.{take}
use Rattle.std.specs.List.{AllByRecursion}
use Rattle.mesa_catalog_records.specs.Readied.{AreRoomier}
use Rattle.mesa_table_records.specs.mesa_catalog_table.Room.{HasSpare}
use Rattle.mesa_catalog_records.proofs.readying.make_spares.Given as goal

-- the tables so far have room
abbrev pub invariant-loop-table : goal.invariant-loop-table
invariant-loop-table l = record {
  roomier : AreRoomier l.initial.tables l.tables;
  spare : AllByRecursion HasSpare (take l.table-index l.tables);
}
