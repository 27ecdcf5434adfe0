use Rattle.std.proofs.Common.{◌≡◌, ◌+◌, [], ◌∷◌, inl, inr, length, sym, ◌∙◌, ap, subst, arith, length-append}
use Rattle.std.specs.Prelude.{slice_get, Some, IfSome}
use Rattle.std.specs.List.{AllByRecursion}
use Rattle.mesa_open_files.specs.mesa_columns.declared.views.View.{View}
use Rattle.mesa_schema.specs.Changes.{columns_of}
use Rattle.mesa_answer.specs.Regrouping.{places_seen}
use Rattle.mesa_compact.specs.Sources.{ArePlaces}
use Rattle.mesa_compact.proofs.Viewing.{all_pushed, some_pushed}
use Rattle.mesa_compact.proofs.gatherers.regroupings.Goals as goal

pub each-preserved : goal.each-preserved
each-preserved c =
    let inv = c.each.invariant in
    let s = columns_of c.args.evolving.now in
    let vs = c.args.evolving.now.views in
    let items = c.in_ok-push.ensures.items in
    let r = c.in_ok-of.field-0 in
    record {
      count = ap length items ∙ length-append c.each.seen.items (r ∷ []) ∙ ap (λ n. n + 1) inv.count;
      each = λ i v p at has. elim (some_pushed c.each.seen.items r p i (subst (λ ps. slice_get ps i ≡ Some p) items has)) [
        | inl before ↦ inv.each i v p at before
        | inr last ↦ last.1 ∙ subst (λ o. IfSome o (λ (w : View). r ≡ places_seen s w)) (ap (slice_get vs) (sym (last.0 ∙ inv.count)) ∙ at) c.in_ok-of.ensures.seen
      ];
      places = subst (AllByRecursion (ArePlaces s)) (sym items) (all_pushed (ArePlaces s) c.each.seen.items r inv.places (c.in_ok-of.ensures.columns_there, c.in_ok-of.ensures.values_there));
    }

pub returns-clause-seen : goal.returns-clause-seen
returns-clause-seen c = record { count = omega (arith, c.each.invariant.count, c.each-test.false, c.each.auto.view-end, c.views-view-end.ensures); each = c.each.invariant.each }

pub returns-clause-places : goal.returns-clause-places
returns-clause-places c = c.each.invariant.places
