use Rattle.std.proofs.Common.{◌≡◌, ◌<◌, ◌≤◌, ◌∙◌, ap, sym, subst, length, arith, None, Some}
use Rattle.std.specs.Prelude.{option_map, slice_get}
use Rattle.std.specs.List.{AllByRecursion}
use Rattle.mesa_store_spec.proofs.Lists.{all_flat, all_unflat, meta_found}
use Rattle.mesa_store_spec.specs.Catalog.{TableMeta, no_meta, meta_at}
use Rattle.mesa_store_spec.specs.Fitting.{LiveFile, meta_live}
use Rattle.mesa_store_spec.specs.Shape.{IsShaped}
use Rattle.mesa_catalog_table.specs.Meaning.{meta_of}
use Rattle.mesa_check.specs.Found.{AreFound, IsFoundAs}
use Rattle.mesa_check.specs.Faults.{table_faults}
use Rattle.mesa_check.specs.Held.{IsHeld}
use Rattle.mesa_check.specs.Shown.{shown_fault}
use Rattle.mesa_check.specs.Tested.{HasRows}
use Rattle.mesa_compare.proofs.mesa_open_files.Counts.{counted_more, unmoved_more}
use Rattle.mesa_check.proofs.Lists.{all_item, all_more, all_whole, flat_end, flat_first, flat_none, got_same, none_first}
use Rattle.mesa_check.proofs.store.check_tables.Goals as goal

pub table_fault-requires-after_bounds : goal.table_fault-requires-after_bounds
table_fault-requires-after_bounds g c = λ _ _.
    let cat = c.args.catalog.now.catalogue in
    let n = c.metas.number in
    let count = c.tables-number-end.ensures in
    let test = c.metas-test.true in
    let h : n < length cat.tables = omega (arith, count, test) in
    (cat.next, record { table = c.table-table.ensures.held; few = c.table-table.ensures.few; floor = cat.floor; shaped = subst (IsShaped cat.floor cat.next) (sym c.table-table.ensures.meta) (meta_found (IsShaped cat.floor cat.next) cat.tables n h c.requires.tables) })

pub returns-in-Some-clause-first : goal.returns-in-Some-clause-first
returns-in-Some-clause-first g c = λ i found told are.
    let cat = c.args.catalog.now.catalogue in
    let n = c.metas.number in
    let inv = c.metas.invariant in
    let count = c.tables-number-end.ensures in
    let test = c.metas-test.true in
    let h : n < length cat.tables = omega (arith, count, test) in
    let x = meta_at cat n in
    let is = got_same cat.tables n no_meta h in
    let meta = c.table-table.ensures.meta in
    let held : IsHeld cat.next c.table-table.result.now = record { table = c.table-table.ensures.held; few = c.table-table.ensures.few; floor = cat.floor; shaped = subst (IsShaped cat.floor cat.next) (sym meta) (meta_found (IsShaped cat.floor cat.next) cat.tables n h c.requires.tables) } in
    let mine = all_item (λ (t : TableMeta). AreFound i found (meta_live t)) cat.tables n x h is (all_unflat (λ (y : LiveFile). IsFoundAs i y (found y.file.id)) meta_live cat.tables are) in
    let first = c.in_ok-shown.ensures.first cat.next i found held (inv.unmoved.told ∙ told) (subst (λ (t : TableMeta). AreFound i found (meta_live t)) (sym meta) mine) in
    flat_first (table_faults found) cat.tables n x _ h is (inv.none i found told are) (ap (λ (t : TableMeta). slice_get (table_faults found t) 0) (sym meta) ∙ first ∙ ap (option_map (shown_fault (meta_of cat.next c.table-table.result.now))) c.in-Some.is)
    ∙ sym (c.in_ok-unsound.ensures cat.next)

pub returns-in-Some-clause-there : goal.returns-in-Some-clause-there
returns-in-Some-clause-there g c = λ none. absurd (let e : Some (shown_fault (meta_of c.args.catalog.now.catalogue.next c.table-table.result.now) c.in-Some.shown) ≡ None = sym (c.in_ok-unsound.ensures c.args.catalog.now.catalogue.next) ∙ none in cc)

pub metas-preserved : goal.metas-preserved
metas-preserved g c =
    let cat = c.args.catalog.now.catalogue in
    let n = c.metas.number in
    let inv = c.metas.invariant in
    let count = c.tables-number-end.ensures in
    let test = c.metas-test.true in
    let h : n < length cat.tables = omega (arith, count, test) in
    let x = meta_at cat n in
    let is = got_same cat.tables n no_meta h in
    let meta = c.table-table.ensures.meta in
    let held : IsHeld cat.next c.table-table.result.now = record { table = c.table-table.ensures.held; few = c.table-table.ensures.few; floor = cat.floor; shaped = subst (IsShaped cat.floor cat.next) (sym meta) (meta_found (IsShaped cat.floor cat.next) cat.tables n h c.requires.tables) } in
    record {
      unmoved = unmoved_more _ _ _ inv.unmoved c.in_ok-shown.ensures.unmoved;
      counted = counted_more _ _ _ _ inv.counted c.in_ok-shown.ensures.counted;
      none = λ i found told are.
          let mine = all_item (λ (t : TableMeta). AreFound i found (meta_live t)) cat.tables n x h is (all_unflat (λ (y : LiveFile). IsFoundAs i y (found y.file.id)) meta_live cat.tables are) in
          let first = c.in_ok-shown.ensures.first cat.next i found held (inv.unmoved.told ∙ told) (subst (λ (t : TableMeta). AreFound i found (meta_live t)) (sym meta) mine) in
          flat_none (table_faults found) cat.tables n x h is (inv.none i found told are)
          (none_first (table_faults found x) (ap (λ (t : TableMeta). slice_get (table_faults found t) 0) (sym meta) ∙ first ∙ ap (option_map (shown_fault (meta_of cat.next c.table-table.result.now))) c.in_default.is));
      there = λ i told.
          all_more (λ (t : TableMeta). AllByRecursion (HasRows i) (meta_live t)) cat.tables n x h is (inv.there i told)
          (subst (λ (t : TableMeta). AllByRecursion (HasRows i) (meta_live t)) meta (c.in_ok-shown.ensures.there cat.next i held (inv.unmoved.told ∙ told) c.in_default.is));
    }

pub returns-clause-first : goal.returns-clause-first
returns-clause-first g c = λ i found told are.
    let cat = c.args.catalog.now.catalogue in
    let n = c.metas.number in
    let count = c.tables-number-end.ensures in
    let test = c.metas-test.false in
    let h : length cat.tables ≤ n = omega (arith, count, test) in
    ap (λ fs. slice_get fs 0) (flat_end (table_faults found) cat.tables n h (c.metas.invariant.none i found told are))

pub returns-clause-there : goal.returns-clause-there
returns-clause-there g c = λ none i told.
    let cat = c.args.catalog.now.catalogue in
    let n = c.metas.number in
    let count = c.tables-number-end.ensures in
    let test = c.metas-test.false in
    let h : length cat.tables ≤ n = omega (arith, count, test) in
    all_flat (HasRows i) meta_live cat.tables (all_whole (λ (t : TableMeta). AllByRecursion (HasRows i) (meta_live t)) cat.tables n h (c.metas.invariant.there i told))
