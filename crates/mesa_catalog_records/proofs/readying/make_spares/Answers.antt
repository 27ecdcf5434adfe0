use Rattle.std.proofs.Common.{◌<◌, sym, subst, arith, length, take}
use Rattle.std.specs.List.{AllByRecursion}
use Rattle.std.proofs.lemmas.List.{take_all, take_more_set}
use Rattle.mesa_table_records.specs.mesa_catalog_table.Room.{HasSpare}
use Rattle.mesa_catalog_records.proofs.Roomier.{roomier_all, roomier_set}
use Rattle.mesa_catalog_records.proofs.TableMetas.{all_pushed}
use Rattle.mesa_catalog_records.proofs.readying.make_spares.Goals as goal

pub loop-table-init : goal.loop-table-init
loop-table-init c = record { roomier = roomier_all c.args.tables.now; spare = tt }

pub returns-in_err-make_spare-clause-roomier : goal.returns-in_err-make_spare-clause-roomier
returns-in_err-make_spare-clause-roomier c =
    let within : c.loop-table.table-index < length c.loop-table.tables = omega arith in
    roomier_set c.args.tables.now c.loop-table.tables c.loop-table.table-index c.table-item.result c.make_spare.new.table c.loop-table.invariant.roomier within c.make_spare.ensures.roomier

pub loop-table-preserved : goal.loop-table-preserved
loop-table-preserved c =
    let within : c.loop-table.table-index < length c.loop-table.tables = omega arith in
    record {
      roomier = roomier_set c.args.tables.now c.loop-table.tables c.loop-table.table-index c.table-item.result c.make_spare.new.table c.loop-table.invariant.roomier within c.make_spare.ensures.roomier;
      spare = subst (AllByRecursion HasSpare) (sym (take_more_set c.loop-table.tables c.loop-table.table-index c.make_spare.new.table within)) (all_pushed HasSpare (take c.loop-table.table-index c.loop-table.tables) c.make_spare.new.table c.loop-table.invariant.spare c.in_ok-make_spare.ensures.spare);
    }

pub returns-clause-roomier : goal.returns-clause-roomier
returns-clause-roomier c = c.loop-table.invariant.roomier

pub returns-clause-spare : goal.returns-clause-spare
returns-clause-spare c = subst (AllByRecursion HasSpare) (take_all c.loop-table.table-index c.loop-table.tables (omega arith)) c.loop-table.invariant.spare
