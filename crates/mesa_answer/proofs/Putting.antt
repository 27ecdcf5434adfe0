-- A row put into the first groups.
use Rattle.std.proofs.Common.{◌≡◌, ◌∙◌, ◌∷◌, ◌++◌, [], List, Some, take, ap, sym, subst, true}
use Rattle.std.specs.Prelude.{ℤ, slice_get}
use Rattle.mesa_value.specs.declared.Agg.{Agg}
use Rattle.mesa_model.specs.mesa_columns.declared.rows.Row.{Row}
use Rattle.mesa_model.specs.mesa_columns.Columns.{aggs_of, chosen}
use Rattle.mesa_model.specs.mesa_fold.Folded.{AllCombine, regrouped}
use Rattle.mesa_model.specs.mesa_fold.Put.{put_row}
use Rattle.mesa_model.specs.mesa_columns.Rows.{AreRowsOf, IsRowOf}
use Rattle.mesa_filter.specs.Query.{are_places}
use Rattle.mesa_answer.specs.Answering.{KeepsSums}
use Rattle.mesa_answer.specs.Gathering.{Wanted, first_groups}
use Rattle.mesa_answer.specs.Held.{is_behind, value_at}
use Rattle.mesa_answer.specs.Sums.{SumLeaves}
use Rattle.mesa_answer.proofs.Seeking.{group_at}
use Rattle.mesa_answer.proofs.Steps.{first_groups-behind, group_combines}

-- What is put in and what is held, as the groups wanted of the rows have them.
pub record IsPutIn (w : Wanted) (given : List Row) (row part : Row) (aggs : List Agg) (held : List Row) : Type 0 where
  pub its_part : part ≡ regrouped w.schema w.columns w.values row
  pub its_aggs : aggs ≡ chosen w.values (aggs_of w.schema)
  pub firsts : held ≡ first_groups w given

-- the groups with the row
pub held_with : (w : Wanted) (given : List Row) (row part : Row) (aggs : List Agg) (held new : List Row) → IsPutIn w given row part aggs held → is_behind w.inclusive w.resume part.key ≡ true
    → new ≡ take w.most (put_row aggs part held) → new ≡ first_groups w (given ++ row ∷ [])
held_with w given row part aggs held new h behind is =
    is ∙ (λ i. take w.most (put_row (h.its_aggs i) (h.its_part i) (h.firsts i)))
    ∙ sym (first_groups-behind w given row (ap (λ (r : Row). is_behind w.inclusive w.resume r.key) (sym h.its_part) ∙ behind))

-- what a group refused
abbrev pub IsRefused : List Agg → Row → List Row → Type 0
IsRefused aggs part held = (old : List ℤ) × (value_at part.key held ≡ Some old) × (AllCombine aggs old part.values → ⊥)

-- A sum leaves its type,
pub sum_leaves : (w : Wanted) (given : List Row) (row part : Row) (aggs : List Agg) (held : List Row) → IsPutIn w given row part aggs held → IsRefused aggs part held → SumLeaves w given row part.key
sum_leaves w given row part aggs held h group =
    let there = group_at held part.key group.0 group.1 in
    record {
      of_group = sym (ap (λ (r : Row). r.key) h.its_part);
      place = there.0;
      old = group.0;
      group = subst (λ (rows : List Row). slice_get rows there.0 ≡ Some (record { key = part.key; values = group.0 })) h.firsts there.1;
      leaves = λ combine. group.2 (subst (λ (vs : List ℤ). AllCombine aggs group.0 vs) (sym (ap (λ (r : Row). r.values) h.its_part)) (subst (λ (gs : List Agg). AllCombine gs group.0 (chosen w.values row.values)) (sym h.its_aggs) combine));
    }

-- which none does where the rows keep their sums.
pub none_leaves : (w : Wanted) (given : List Row) (row part : Row) (aggs : List Agg) (held : List Row) → IsPutIn w given row part aggs held → IsRefused aggs part held
    → are_places w.schema.values w.values ≡ true → AreRowsOf w.schema given → IsRowOf w.schema row → KeepsSums w.schema (given ++ row ∷ []) → ⊥
none_leaves w given row part aggs held h group places form this keeps =
    let combine = group_combines w given row held part.key group.0 places form this keeps h.firsts group.1 in
    group.2 (subst (λ (vs : List ℤ). AllCombine aggs group.0 vs) (sym (ap (λ (r : Row). r.values) h.its_part))
    (subst (λ (gs : List Agg). AllCombine gs group.0 (regrouped w.schema w.columns w.values row).values) (sym h.its_aggs) combine))
