use Rattle.std.proofs.Common.{◌∙◌, ◌<◌, [], ap, refl, sym, subst, List, ℕ}
use Rattle.std.specs.Prelude.{IfSome, Option}
use Rattle.std.specs.List.{AllByRecursion}
use Rattle.mesa_batch.specs.Totals.{abs_totals, sum_bound}
use Rattle.mesa_schema.specs.Changes.{columns_at, columns_of}
use Rattle.mesa_compare.specs.mesa_examine.Sums.{counted}
use Rattle.mesa_check.specs.Faults.{agrees_if_any}
use Rattle.mesa_check.specs.Held.{delta_of}
use Rattle.mesa_check.proofs.Recorded.{without_files}
use Rattle.mesa_check.proofs.testing.test_none.Goals as goal

pub returns-clause-test : goal.returns-clause-test
returns-clause-test c = λ told.
    let l = c.args.evolving.now.value in
    let d = delta_of c.args.range in
    let own_is = c.in_ok-own.ensures ∙ (λ k. columns_at (c.deref.ensures k) (c.epoch.ensures k)) in
    let xs = abs_totals (columns_at l d.epoch) [] in
    let now_is = c.present.ensures.columns ∙ ap columns_of c.deref-2.ensures in
    without_files told l d _ c.requires.none refl
    (c.agree-totalled.ensures xs (c.deref-3.ensures.value ∙ c.in_ok-sums.ensures ∙ (λ k. counted (abs_totals (own_is k) []))) ∙ ap (λ (o : Option (List ℕ)). agrees_if_any o xs) c.totals.ensures)
    (c.from_vec.ensures ∙ c.in_ok-now.ensures ∙ (λ k. counted (abs_totals (now_is k) [])))

pub agree-totalled-requires : goal.agree-totalled-requires
agree-totalled-requires c = subst (λ (o : Option (List ℕ)). IfSome o (λ totals. AllByRecursion (λ total. total < sum_bound) totals)) (sym c.totals.ensures) c.requires.totals
