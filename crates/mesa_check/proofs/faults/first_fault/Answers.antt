use Rattle.std.proofs.Common.{◌≡◌, ◌∙◌, ◌+◌, ◌&&◌, ap, sym, subst, arith, true}
use Rattle.std.specs.Prelude.{option_map, slice_get, IfSome}
use Rattle.mesa_pick_files.specs.Lent.{now_if_any}
use Rattle.mesa_catalog_table.specs.Meaning.{meta_of}
use Rattle.mesa_check.specs.Faults.{fault_of, range_faults}
use Rattle.mesa_check.specs.Ranges.{is_range}
use Rattle.mesa_check.specs.Shown.{is_found_in, tested_range}
use Rattle.mesa_check.specs.Tested.{IsRead}
use Rattle.mesa_check.specs.declared.testing.Test.{Test}
use Rattle.mesa_check.proofs.Earlier.{IsEarlier, earlier_agrees, earlier_ends, earlier_epoch, earlier_more}
use Rattle.mesa_compare.proofs.mesa_open_files.Counts.{counted_more, unmoved_more}
use Rattle.mesa_check.proofs.Lists.{all_item, all_more, flat_end, flat_first, flat_none, none_first}
use Rattle.mesa_check.proofs.Told.{meta_read, told_as}
use Rattle.mesa_check.proofs.faults.first_fault.Goals as goal

pub returns-in-Some-clause-first : goal.returns-in-Some-clause-first
returns-in-Some-clause-first g c = λ next i found held told all ex.
    let t = c.args.table.now in
    let u = meta_of next t in
    let tests = c.args.tests.now in
    let x = c.one-item.result in
    let n = c.faults.one-index in
    let inv = c.faults.invariant in
    let h = c.faults-test.true in
    let is = c.one-item.is in
    let which = ap (option_map tested_range) c.totals_range-told.ensures ∙ told_as next t tests c.requires.ranges held.table in
    let over = c.is_over-over.ensures ∙ (λ k. is_range (which k) (tested_range x) && ex k) in
    let files = meta_read i found next t tests c.requires.ranges all in
    let below = c.in_ok-asked.ensures next i found held all in
    let agrees = earlier_agrees i found u tests n (now_if_any c.faults.before) (omega (arith, h)) inv.before all inv.there (inv.none next i found held told all ex) in
    let first = c.in_ok-key.ensures.first next i found held (inv.unmoved.told ∙ told) files below agrees (all_item (IsRead i found t.evolving.value) tests n x h is all) over in
    flat_first (λ (y : Test). range_faults found u (tested_range y)) tests n x _ h is (inv.none next i found held told all ex) (first ∙ ap (option_map (fault_of u (tested_range x))) c.in-Some.is)

pub range_fault-requires-clause-order : goal.range_fault-requires-clause-order
range_fault-requires-clause-order g c κs within =
    earlier_ends c.args.table.now c.args.tests.now c.faults.one-index (now_if_any c.faults.before) c.one-item.result c.requires.ranges c.faults-test.true c.one-item.is c.faults.invariant.before

pub range_fault-requires-clause-epoch_before : goal.range_fault-requires-clause-epoch_before
range_fault-requires-clause-epoch_before g c κs within =
    let h = c.faults-test.true in
    earlier_epoch c.args.table.now c.args.tests.now c.faults.one-index (now_if_any c.faults.before) (omega (arith, h)) c.requires.epochs c.faults.invariant.before

pub faults-preserved : goal.faults-preserved
faults-preserved g c =
    let t = c.args.table.now in
    let tests = c.args.tests.now in
    let x = c.one-item.result in
    let n = c.faults.one-index in
    let inv = c.faults.invariant in
    let h = c.faults-test.true in
    let is = c.one-item.is in
    record {
      unmoved = unmoved_more _ _ _ inv.unmoved c.in_ok-key.ensures.unmoved;
      counted = counted_more _ _ _ _ inv.counted c.in_ok-key.ensures.counted;
      none = λ next i found held told all ex.
          let u = meta_of next t in
          let which = ap (option_map tested_range) c.totals_range-told.ensures ∙ told_as next t tests c.requires.ranges held.table in
          let over = c.is_over-over.ensures ∙ (λ k. is_range (which k) (tested_range x) && ex k) in
          let files = meta_read i found next t tests c.requires.ranges all in
          let below = c.in_ok-asked.ensures next i found held all in
          let agrees = earlier_agrees i found u tests n (now_if_any c.faults.before) (omega (arith, h)) inv.before all inv.there (inv.none next i found held told all ex) in
          let first = c.in_ok-key.ensures.first next i found held (inv.unmoved.told ∙ told) files below agrees (all_item (IsRead i found t.evolving.value) tests n x h is all) over in
          flat_none (λ (y : Test). range_faults found u (tested_range y)) tests n x h is (inv.none next i found held told all ex) (none_first (range_faults found u (tested_range x)) (first ∙ ap (option_map (fault_of u (tested_range x))) c.in_default.is));
      before = subst (λ o. IfSome o (IsEarlier tests (n + 1))) (sym c.last_cumulative-before.ensures) (earlier_more tests n x (now_if_any c.faults.before) is inv.before);
      there = all_more (λ y. is_found_in y ≡ true) tests n x h is inv.there (c.in_ok-key.ensures.there c.in_default.is);
    }

pub returns-clause-first : goal.returns-clause-first
returns-clause-first g c = λ next i found held told all ex.
    ap (λ ks. slice_get ks 0) (flat_end (λ (y : Test). range_faults found (meta_of next c.args.table.now) (tested_range y)) c.args.tests.now c.faults.one-index c.faults-test.false (c.faults.invariant.none next i found held told all ex))
