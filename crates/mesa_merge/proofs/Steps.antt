-- One row taken from an input.
use Rattle.std.proofs.Common.{◌≡◌, ◌≢◌, inl, inr, ℕ, ◌+◌, ◌<◌, ◌≤◌, List, [], ◌∷◌, ◌++◌, refl, sym, ◌∙◌, ap, subst, length, get_or, set, arith}
use Rattle.mesa_value.specs.declared.Agg.{Agg}
use Rattle.mesa_scan.specs.mesa_columns.declared.rows.Row.{Row}
use Rattle.mesa_scan.specs.mesa_fold.Folded.{folded, row_combined}
use Rattle.mesa_scan.specs.mesa_fold.Laws.{AreUnder, PutsGiven}
use Rattle.mesa_merge.specs.Hands.{IsAhead, IsLeastAt, IsLeastOf}
use Rattle.mesa_merge.specs.Merging.{AreAbove, IsStage}
use Rattle.mesa_merge.proofs.Trees.{beyond}
use Rattle.mesa_merge.proofs.Stages.{fold_first, fold_next, stage_first, stage_later, stage_next, under_all}

pub heads_same : (x y : Row) (xs ys : List Row) → x ∷ xs ≡ y ∷ ys → x ≡ y
heads_same x y xs ys e = cc

-- the first row of a key
pub first_step : PutsGiven → (aggs : List Agg) (i : ℕ) (hands after givens : List (List Row)) (row : Row) (rows : List Row) → AreAbove hands givens → IsLeastAt i hands → get_or hands i [] ≡ row ∷ rows → i < length givens
    → IsAhead row.key (get_or after i []) → ((j : ℕ) → j ≢ i → get_or after j [] ≡ get_or hands j [])
    → IsStage row.key (i + 1) after (set givens i (get_or givens i [] ++ row ∷ [])) × (folded aggs (set givens i (get_or givens i [] ++ row ∷ [])) ≡ folded aggs givens ++ row ∷ []) × AreUnder row.key (folded aggs givens)
first_step laws aggs i hands after givens row rows above least there lt ahead others =
    let same : least.row ≡ row = heads_same _ _ _ _ (sym least.there ∙ there) in
    let stage : IsStage row.key i hands givens = subst (λ (r : Row). IsStage r.key i hands givens) same (stage_first i hands givens least above) in
    let under : (j : ℕ) → AreUnder row.key (get_or givens j []) = above i row rows there in (
      stage_next row.key i i hands after givens row stage (omega arith) lt stage.done refl ahead others,
      fold_first laws aggs i givens row lt under,
      laws.under aggs givens row.key (under_all row.key givens under),
    )

-- a further row of a key
pub next_step : PutsGiven → (aggs : List Agg) (key : List ℕ) (i m : ℕ) (hands after now : List (List Row)) (front : List Row) (row more next : Row) (rows : List Row) → IsStage key m hands now → IsLeastOf key i hands → get_or hands i [] ≡ more ∷ rows → i < length now
    → IsAhead more.key (get_or after i []) → ((j : ℕ) → j ≢ i → get_or after j [] ≡ get_or hands j [])
    → folded aggs now ≡ front ++ row ∷ [] → AreUnder key front → row.key ≡ key → next ≡ record row { values = row_combined aggs row.values more.values }
    → IsStage key (i + 1) after (set now i (get_or now i [] ++ more ∷ [])) × (folded aggs (set now i (get_or now i [] ++ more ∷ [])) ≡ front ++ next ∷ [])
next_step laws aggs key i m hands after now front row more next rows stage least there lt ahead others is under e made =
    let same : more.key ≡ key = ap (λ (r : Row). r.key) (heads_same _ _ _ _ (sym there ∙ least.least.there)) ∙ least.is in
    let le : m ≤ i = elim (beyond i m) [ inl less ↦ absurd (stage_later key m i hands now stage least.least least.is less) | inr le ↦ le ] in
    let before : (j : ℕ) → j < i → IsAhead key (get_or hands j []) = λ j less. subst (λ k. IsAhead k (get_or hands j [])) least.is (least.least.before j less) in (
      stage_next key m i hands after now more stage le lt before same (subst (λ k. IsAhead k (get_or after i [])) same ahead) others,
      fold_next laws aggs i now front row more lt (λ j less. subst (λ k. AreUnder k (get_or now j [])) (sym same) (stage.under j (omega (arith, le, less)))) is (e ∙ sym same) (subst (λ k. AreUnder k front) (sym same) under)
          ∙ ap (λ r. front ++ r ∷ []) (sym made),
    )
