use Rattle.std.proofs.Common.{◌≡◌, ℕ, List, length, map, sym, ap, subst, ◌∙◌}
use Rattle.std.proofs.lemmas.Bool.{false≢true}
use Rattle.mesa_schema.specs.Changes.{columns_of}
use Rattle.mesa_open_files.specs.mesa_columns.Columns.{Columns}
use Rattle.mesa_open_files.specs.mesa_columns.Lifting.{lifted_with}
use Rattle.mesa_open_files.specs.mesa_batch.Totals.{abs_totals}
use Rattle.mesa_examine.specs.Sums.{AreTotals, counted}
use Rattle.mesa_examine.specs.Tallies.{IsToldOf}
use Rattle.mesa_examine.proofs.examining.judge.Goals as goal

pub returns-then-not-are_of-clause-judged : goal.returns-then-not-are_of-clause-judged
returns-then-not-are_of-clause-judged g c =
    let own : Columns = c.in_ok-own.own in
    let own_is : own ≡ columns_of c.args.input.now.evolving.value = c.in_ok-own.ensures ∙ c.present.ensures.columns ∙ ap columns_of c.deref.ensures in
    let start = c.in_ok-tally.ensures own c.args.lift.now (ap length (sym c.values.ensures.same)) in
    let all = c.in_ok-tally_rows.ensures.tallied _ start in
    (all.0, all.1, λ told. absurd (false≢true (sym c.if-not-are_of.true ∙ (c.are_of.ensures own all.0 all.2.ends).1 (subst (λ (s : Columns). IsToldOf s all.0 c.args.file.now) (sym own_is) told))))

pub sum_totals-requires : goal.sum_totals-requires
sum_totals-requires g c =
    let own : Columns = c.in_ok-own.own in
    let start = c.in_ok-tally.ensures own c.args.lift.now (ap length (sym c.values.ensures.same)) in
    let all = c.in_ok-tally_rows.ensures.tallied _ start in
    ap length c.deref-2.ensures.value ∙ all.2.own.len

pub sum_totals-requires-2 : goal.sum_totals-requires-2
sum_totals-requires-2 g c =
    let own : Columns = c.in_ok-own.own in
    let start = c.in_ok-tally.ensures own c.args.lift.now (ap length (sym c.values.ensures.same)) in
    let all = c.in_ok-tally_rows.ensures.tallied _ start in
    ap length c.deref-3.ensures.value ∙ all.2.present.len ∙ ap length c.values-2.ensures.same

pub returns-clause-judged : goal.returns-clause-judged
returns-clause-judged g c =
    let own : Columns = c.in_ok-own.own in
    let own_is : own ≡ columns_of c.args.input.now.evolving.value = c.in_ok-own.ensures ∙ c.present.ensures.columns ∙ ap columns_of c.deref.ensures in
    let start = c.in_ok-tally.ensures own c.args.lift.now (ap length (sym c.values.ensures.same)) in
    let all = c.in_ok-tally_rows.ensures.tallied _ start in
    let sums = c.in_ok-sum_totals.ensures all.0 (subst (λ (l : List ℕ). AreTotals (length own.values) l all.0) (sym c.deref-2.ensures.value) all.2.own) in
    let present = c.in_ok-sum_totals-2.ensures (map (lifted_with c.args.lift.now) all.0)
    (subst (λ (n : ℕ). AreTotals n c.deref-3.result.now (map (lifted_with c.args.lift.now) all.0)) (ap length c.values-2.ensures.same)
    (subst (λ (l : List ℕ). AreTotals (length c.values-2.result.now) l (map (lifted_with c.args.lift.now) all.0)) (sym c.deref-3.ensures.value) all.2.present)) in (
      all.0,
      all.1,
      (subst (λ (s : Columns). IsToldOf s all.0 c.args.file.now) own_is ((c.are_of.ensures own all.0 all.2.ends).0 c.if-not-are_of.false), sums ∙ (λ k. counted (abs_totals (own_is k) all.0)), present),
    )
