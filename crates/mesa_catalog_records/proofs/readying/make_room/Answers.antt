use Rattle.std.proofs.Common.{◌∙◌, ap, sym, subst, arith, length, map}
use Rattle.std.specs.List.{AllByRecursion}
use Rattle.std.proofs.lemmas.List.{with_items_is}
use Rattle.mesa_table_records.specs.mesa_catalog_table.Meaning.{IsTable, meta_of}
use Rattle.mesa_table_records.specs.mesa_catalog_table.Room.{HasSpare}
use Rattle.mesa_catalog_records.proofs.Roomier.{roomier_length, roomier_spares, roomier_metas, roomier_tables}
use Rattle.mesa_catalog_records.proofs.readying.make_room.Goals as goal

pub returns-clause-same : goal.returns-clause-same
returns-clause-same c =
    let s = c.args.catalog_tables.now in
    let items = with_items_is c.reserve.new.self c.make_spares.new.tables (omega arith) in
    let old = c.deref_mut.ensures.value ∙ c.in_ok-reserve.ensures.items in
    let tables = ap (map (meta_of s.next)) items ∙ roomier_metas s.next c.deref_mut.result.now c.make_spares.new.tables c.make_spares.ensures.roomier ∙ ap (map (meta_of s.next)) old in
    λ i. record { tables = tables i; floor = s.floor; next = s.next; run = s.run }

pub returns-clause-live_files : goal.returns-clause-live_files
returns-clause-live_files c =
    let s = c.args.catalog_tables.now in
    let items = with_items_is c.reserve.new.self c.make_spares.new.tables (omega arith) in
    let old = c.deref_mut.ensures.value ∙ c.in_ok-reserve.ensures.items in
    let count = ap length items ∙ roomier_length c.deref_mut.result.now c.make_spares.new.tables c.make_spares.ensures.roomier ∙ ap length old in
    let few = c.requires.few in
    record {
      few = omega arith;
      most = c.requires.most;
      floor = c.requires.floor;
      tables = subst (AllByRecursion (IsTable s.next)) (sym items) (roomier_tables s.next c.deref_mut.result.now c.make_spares.new.tables c.make_spares.ensures.roomier (subst (AllByRecursion (IsTable s.next)) (sym old) c.requires.tables));
    }

pub returns-clause-kept : goal.returns-clause-kept
returns-clause-kept c = λ room.
    let items = with_items_is c.reserve.new.self c.make_spares.new.tables (omega arith) in
    let old = c.deref_mut.ensures.value ∙ c.in_ok-reserve.ensures.items in
    let more = c.in_ok-reserve.ensures.ok in
    record {
      table = omega arith;
      deltas = subst (AllByRecursion HasSpare) (sym items) (roomier_spares c.deref_mut.result.now c.make_spares.new.tables c.make_spares.ensures.roomier (subst (AllByRecursion HasSpare) (sym old) room.deltas));
    }
