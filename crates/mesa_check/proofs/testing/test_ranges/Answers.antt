use Rattle.std.proofs.Common.{◌++◌, ◌∙◌, ◌∷◌, [], ap, sym, subst, map}
use Rattle.std.specs.List.{AllByRecursion}
use Rattle.std.proofs.lemmas.List.{map_push}
use Rattle.mesa_schema.proofs.mesa_columns.Lists.{all_append}
use Rattle.mesa_check.specs.Tested.{IsTestOf, range_of}
use Rattle.mesa_compare.proofs.mesa_open_files.Counts.{counted_more, unmoved_more}
use Rattle.mesa_check.proofs.Lists.{taken_more}
use Rattle.mesa_check.proofs.testing.test_ranges.Goals as goal

pub each-preserved : goal.each-preserved
each-preserved g c =
    let told = (g.D.Disk.story c.args.disk.now).told in
    let l = c.args.evolving.now.value in
    let inv = c.each.invariant in
    let x = c.range-item.result in
    let n = c.each.range-index in
    let test = c.in_ok-test.test in
    let P = IsTestOf told l in
    let items = c.in_ok-push.ensures.items in
    record {
      unmoved = unmoved_more _ _ _ inv.unmoved c.in_ok-test.ensures.unmoved;
      counted = counted_more _ _ _ _ inv.counted c.in_ok-test.ensures.counted;
      ranges = ap (map range_of) items ∙ map_push range_of c.each.tests.items test ∙ (λ k. inv.ranges k ++ c.in_ok-test.ensures.range k ∷ []) ∙ sym (taken_more c.args.ranges.now n x c.each-test.true c.range-item.is);
      tests = subst (AllByRecursion P) (sym items) (all_append P c.each.tests.items (test ∷ []) inv.tests (subst (λ o. IsTestOf o l test) inv.unmoved.told c.in_ok-test.ensures.test, tt));
    }
