use Rattle.std.proofs.Common.{◌<◌, ◌≤◌, ◌∙◌, ap, sym, subst, length, get_or, arith, false}
use Rattle.mesa_schema.specs.Changes.{epoch_of}
use Rattle.mesa_validate.specs.mesa_store_spec.Catalog.{Delta}
use Rattle.mesa_catalog_table.specs.Meaning.{meta_of}
use Rattle.mesa_open_files.proofs.Counts.{counted_more, counted_none, unmoved_more, unmoved_none}
use Rattle.mesa_pick_files.specs.Ranges.{HoldsAt, IsDamagedAs, Ranged}
use Rattle.mesa_pick_files.proofs.Ranging.{all_singles, damaged_then, longer, more_none, one_single, single_has, single_more, single_range, single_step, singles_held, singles_kept}
use Rattle.mesa_pick_files.proofs.ranges.gather_singles.Goals as goal

pub singles-init : goal.singles-init
singles-init g c = record {
  unmoved = unmoved_none (g.D.Disk.story c.args.disk.now);
  counted = counted_none (g.D.Disk.story c.args.disk.now);
  place = omega arith;
  more = λ next is. more_none g.D.Reader.FileReader.bytes g.D.Reader.FileReader.faults (g.D.Disk.story c.args.disk.now).told (meta_of next c.args.table.now) c.args.ranges.now.items;
  held = tt;
}

pub hold_range-requires-after_bounds : goal.hold_range-requires-after_bounds
hold_range-requires-after_bounds g c κs within =
    let t = c.args.table.now in
    let items = c.deref-single-items.ensures.value in
    let i = c.singles.single-index in
    let there : i < length t.loaded.items = omega (arith, c.singles-test.true, ap length items) in
    let at = c.single-item.is ∙ ap (λ ls. get_or ls i c.single-item.result) items in
    subst (λ (d : Delta). d.epoch ≤ epoch_of t.evolving.value) (sym c.deref-in-singles.ensures) (single_has (λ (d : Delta). d.epoch ≤ epoch_of t.evolving.value) c.requires.0 t i c.single-item.result c.requires.2 there at)

-- ---- a file can't be opened

pub returns-in-Err-clause-unmoved : goal.returns-in-Err-clause-unmoved
returns-in-Err-clause-unmoved g c = unmoved_more _ _ _ c.singles.invariant.unmoved c.hold_range.ensures.unmoved

pub returns-in-Err-clause-counted : goal.returns-in-Err-clause-counted
returns-in-Err-clause-counted g c = counted_more _ _ _ _ c.singles.invariant.counted c.in-Err.ensures.counted

pub returns-in-Err-clause-more : goal.returns-in-Err-clause-more
returns-in-Err-clause-more g c = λ next is.
    let t = c.args.table.now in
    let items = c.deref-single-items.ensures.value in
    let i = c.singles.single-index in
    let l = c.single-item.result in
    let r : Ranged = record { from = l.version; to = l.version; delta = c.deref-in-singles.result.now } in
    let there : i < length t.loaded.items = omega (arith, c.singles-test.true, ap length items) in
    let at = c.single-item.is ∙ ap (λ ls. get_or ls i l) items in
    single_step g.D.Reader.FileReader.bytes g.D.Reader.FileReader.faults (g.D.Disk.story c.args.disk.now).told (g.D.Disk.story c.singles.disk).told c.singles.invariant.unmoved.told next t i l r c.args.ranges.now.items c.singles.ranges.items c.hold_range.new.ranges.items
    is there at (ap (λ (d : Delta). record { from = l.version; to = l.version; delta = d }) c.deref-in-singles.ensures) (c.singles.invariant.more next is) c.hold_range.ensures.more

-- ---- a file isn't the recorded one

pub returns-in-Some-clause-unmoved : goal.returns-in-Some-clause-unmoved
returns-in-Some-clause-unmoved g c = unmoved_more _ _ _ c.singles.invariant.unmoved c.hold_range.ensures.unmoved

pub returns-in-Some-clause-counted : goal.returns-in-Some-clause-counted
returns-in-Some-clause-counted g c = counted_more _ _ _ false c.singles.invariant.counted c.in-Ok.ensures.counted

pub returns-in-Some-clause-more : goal.returns-in-Some-clause-more
returns-in-Some-clause-more g c = λ next is.
    let t = c.args.table.now in
    let items = c.deref-single-items.ensures.value in
    let i = c.singles.single-index in
    let l = c.single-item.result in
    let r : Ranged = record { from = l.version; to = l.version; delta = c.deref-in-singles.result.now } in
    let there : i < length t.loaded.items = omega (arith, c.singles-test.true, ap length items) in
    let at = c.single-item.is ∙ ap (λ ls. get_or ls i l) items in
    single_step g.D.Reader.FileReader.bytes g.D.Reader.FileReader.faults (g.D.Disk.story c.args.disk.now).told (g.D.Disk.story c.singles.disk).told c.singles.invariant.unmoved.told next t i l r c.args.ranges.now.items c.singles.ranges.items c.hold_range.new.ranges.items
    is there at (ap (λ (d : Delta). record { from = l.version; to = l.version; delta = d }) c.deref-in-singles.ensures) (c.singles.invariant.more next is) c.hold_range.ensures.more

pub returns-in-Some-clause-damaged : goal.returns-in-Some-clause-damaged
returns-in-Some-clause-damaged g c = λ next is.
    let t = c.args.table.now in
    let items = c.deref-single-items.ensures.value in
    let i = c.singles.single-index in
    let l = c.single-item.result in
    let u = meta_of next t in
    let told = (g.D.Disk.story c.args.disk.now).told in
    let then = (g.D.Disk.story c.singles.disk).told in
    let there : i < length t.loaded.items = omega (arith, c.singles-test.true, ap length items) in
    let at = c.single-item.is ∙ ap (λ ls. get_or ls i l) items in
    let met = rw c.in-Some.is at c.in-Ok.ensures.damaged in
    damaged_then g.D.Reader.FileReader.bytes g.D.Reader.FileReader.faults told then c.singles.invariant.unmoved.told u (single_range l) c.in-Some.damage (one_single next t i l is there at)
    (subst (λ (d : Delta). IsDamagedAs then u.lineage d c.in-Some.damage) c.deref-in-singles.ensures met)

-- ---- one more is held

pub singles-preserved : goal.singles-preserved
singles-preserved g c =
    let t = c.args.table.now in
    let items = c.deref-single-items.ensures.value in
    let i = c.singles.single-index in
    let l = c.single-item.result in
    let then = (g.D.Disk.story c.singles.disk).told in
    let r : Ranged = record { from = l.version; to = l.version; delta = c.deref-in-singles.result.now } in
    let new = c.hold_range.new.ranges.items in
    let more = c.hold_range.ensures.more in
    let there : i < length t.loaded.items = omega (arith, c.singles-test.true, ap length items) in
    let at = c.single-item.is ∙ ap (λ ls. get_or ls i l) items in
    let placed : c.place_from-place.result ≤ length c.singles.ranges.items = omega (arith, c.place_from-place.ensures, ap length c.deref.ensures.value) in
    let one = subst (λ (d : Delta). HoldsAt new l.version l.version d.files) c.deref-in-singles.ensures (c.in-Ok.ensures.holds c.in_default.is) in
    record {
      unmoved = unmoved_more _ _ _ c.singles.invariant.unmoved c.hold_range.ensures.unmoved;
      counted = counted_more _ _ _ false c.singles.invariant.counted c.in-Ok.ensures.counted;
      place = longer c.singles.ranges.items new more.0 c.place_from-place.result more.1 placed;
      more = λ next is.
          single_step g.D.Reader.FileReader.bytes g.D.Reader.FileReader.faults (g.D.Disk.story c.args.disk.now).told then c.singles.invariant.unmoved.told next t i l r c.args.ranges.now.items c.singles.ranges.items new
          is there at (ap (λ (d : Delta). record { from = l.version; to = l.version; delta = d }) c.deref-in-singles.ensures) (c.singles.invariant.more next is) more;
      held = single_more new t.loaded.items i l there at (singles_kept c.singles.ranges.items new more.0 _ more.1 c.singles.invariant.held) one;
    }

pub returns-clause-holds : goal.returns-clause-holds
returns-clause-holds g c = λ next is none.
    let t = c.args.table.now in
    let past : length t.loaded.items ≤ c.singles.single-index = omega (arith, c.singles-test.false, ap length c.deref-single-items.ensures.value) in
    singles_held c.singles.ranges.items next t is (all_singles c.singles.ranges.items t.loaded.items c.singles.single-index past c.singles.invariant.held)
