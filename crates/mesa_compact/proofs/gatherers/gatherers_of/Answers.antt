use Rattle.std.proofs.Common.{◌≡◌, ◌+◌, [], ◌∷◌, inl, inr, length, sym, ◌∙◌, ap, subst, arith, length-append}
use Rattle.std.specs.Prelude.{slice_get, Some}
use Rattle.std.specs.List.{AllByRecursion}
use Rattle.mesa_answer.specs.Gathered.{HasPut, wanted_of}
use Rattle.mesa_answer.specs.declared.groups.Groups.{Groups}
use Rattle.mesa_view.specs.SumDamage.{view_groups}
use Rattle.mesa_compact.specs.Grouping.{TakesRows}
use Rattle.mesa_compact.specs.Sources.{ArePlaces}
use Rattle.mesa_compact.proofs.Putting.{all_at}
use Rattle.mesa_compact.proofs.Viewing.{all_pushed, get_some, some_pushed}
use Rattle.mesa_compact.proofs.gatherers.gatherers_of.Goals as goal

pub gatherer-requires : goal.gatherer-requires
gatherer-requires c = subst (ArePlaces c.args.schema.now) (sym c.places-item.is) (all_at (ArePlaces c.args.schema.now) c.args.seen.now c.views.places-index c.places-item.result c.requires c.views-test.true)

pub views-preserved : goal.views-preserved
views-preserved c =
    let inv = c.views.invariant in
    let s = c.args.schema.now in
    let i = c.views.places-index in
    let items = c.in_ok-push.ensures.items in
    let one = c.in_ok-gatherer.field-0 in
    let seen : slice_get c.args.seen.now i ≡ Some c.places-item.result = get_some c.args.seen.now i c.places-item.result c.views-test.true ∙ ap Some (sym c.places-item.is) in
    record {
      count = ap length items ∙ length-append c.views.groups.items (one ∷ []) ∙ ap (λ n. n + 1) inv.count;
      each = λ views all j v x at has. elim (some_pushed c.views.groups.items one x j (subst (λ xs. slice_get xs j ≡ Some x) items has)) [
        | inl before ↦ inv.each views all j v x at before
        | inr last ↦
            let its : slice_get views i ≡ Some v = subst (λ n. slice_get views n ≡ Some v) (last.0 ∙ inv.count) at in
            subst (λ (y : Groups). wanted_of y ≡ view_groups s v) (sym last.1) (c.in_ok-gatherer.ensures.source v (all.each i v c.places-item.result its seen))
      ];
      none = subst (AllByRecursion (λ (x : Groups). HasPut x [])) (sym items) (all_pushed (λ (x : Groups). HasPut x []) c.views.groups.items one inv.none c.in_ok-gatherer.ensures.none);
      takes = subst (AllByRecursion (TakesRows s)) (sym items) (all_pushed (TakesRows s) c.views.groups.items one inv.takes c.in_ok-gatherer.ensures.takes);
    }

pub returns-clause-sources : goal.returns-clause-sources
returns-clause-sources c = λ views all. record { count = omega (arith, c.views.invariant.count, c.views-test.false, c.views.auto.places-index-end, all.count); each = c.views.invariant.each views all }

pub returns-clause-none : goal.returns-clause-none
returns-clause-none c = c.views.invariant.none

pub returns-clause-takes : goal.returns-clause-takes
returns-clause-takes c = c.views.invariant.takes
