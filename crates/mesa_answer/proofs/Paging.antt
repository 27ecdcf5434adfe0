-- Pages of rows.
use Rattle.std.proofs.Common.{◌≡◌, ℕ, zero, suc, ◌+◌, ◌-◌, ◌<◌, List, [], ◌∷◌, length, take, get_or, cond, false, refl, sym, ◌∙◌, ap, subst, add-one, arith, Some, None, inl, inr}
use Rattle.std.specs.Prelude.{nat_lt, slice_get}
use Rattle.std.specs.List.{AllByRecursion}
use Rattle.std.proofs.lemmas.Bool.{cases_lt, le-ltb, lt-ltb}
use Rattle.std.proofs.lemmas.Option.{get_or_from_slice_get, slice_get_within}
use Rattle.mesa_model.specs.mesa_columns.declared.rows.Row.{Row}
use Rattle.mesa_model.specs.mesa_columns.Columns.{Columns}
use Rattle.mesa_model.specs.mesa_fold.Folded.{grouped}
use Rattle.mesa_model.specs.mesa_columns.Rows.{AreRowsOf, IsRowOf}
use Rattle.mesa_model.proofs.mesa_fold.GroupKeys.{groups_form}
use Rattle.mesa_filter.specs.Query.{BuiltQuery}
use Rattle.mesa_model.specs.declared.replies.Page.{Page}
use Rattle.mesa_model.specs.Page.{last_key, page_from, page_of, rows_after}
use Rattle.mesa_answer.specs.Answering.{grouped_columns}
use Rattle.mesa_answer.specs.Gathering.{Wanted, first_groups, wanted_by}
use Rattle.mesa_answer.proofs.Firsts.{take-shorter}
use Rattle.mesa_answer.proofs.Steps.{all_after, all_taken, behind_after}

-- the last row's key
pub last_row : (rows : List Row) (d : Row) → 0 < length rows → (get_or rows (length rows - 1) d).key ≡ last_key rows
last_row [] d l = absurd (omega arith)
last_row (row ∷ []) d l = refl
last_row (row ∷ next ∷ rows) d l =
    let later : length (row ∷ next ∷ rows) - 1 ≡ suc (length (next ∷ rows) - 1) = omega arith in
    ap (λ k. (get_or (row ∷ next ∷ rows) k d).key) later ∙ last_row (next ∷ rows) d (omega arith)

-- the last row that was found
pub last_found : (rows found : List Row) (row : Row) → found ≡ rows → Some row ≡ slice_get found (length found - 1) → row.key ≡ last_key rows
last_found rows found row same e =
    let within : length found - 1 < length found = slice_get_within found (length found - 1) row (sym e) in
    ap (λ (r : Row). r.key) (sym (get_or_from_slice_get found (length found - 1) row row (sym e))) ∙ last_row found row (omega arith) ∙ ap last_key same

suc_lt : (a b : ℕ) → nat_lt (suc a) (suc b) ≡ nat_lt a b
suc_lt a b = elim (cases_lt a b) [
  | inl lt ↦ lt-ltb (suc a) (suc b) (omega arith) ∙ sym (lt-ltb a b lt)
  | inr le ↦ le-ltb (suc a) (suc b) (omega arith) ∙ sym (le-ltb a b le)
]

more_there : (n : ℕ) (rows : List Row) → nat_lt n (length (take (suc n) rows)) ≡ nat_lt n (length rows)
more_there zero [] = refl
more_there zero (row ∷ rows) = sym (lt-ltb 0 (suc (length rows)) (omega arith))
more_there (suc n) [] = refl
more_there (suc n) (row ∷ rows) = suc_lt n (length (take (suc n) rows)) ∙ more_there n rows ∙ sym (suc_lt n (length rows))

-- A page of the first rows, one more than it shows, is the page of all.
pub page_of_first : (version limit : ℕ) (rows : List Row) → page_from version limit (take (suc limit) rows) ≡ page_from version limit rows
page_of_first version limit rows = λ i. record {
  version = version;
  rows = take-shorter limit rows i;
  resume = cond (more_there limit rows i) (Some (last_key (take-shorter limit rows i))) None;
}

-- The page of the first groups is the page of the groups.
pub page_found : (w : Wanted) (s : Columns) (q : BuiltQuery) (rows given : List Row) (page : Page) → w ≡ wanted_by s q → rows ≡ first_groups w given → page ≡ page_from q.version q.limit rows
    → page ≡ page_of q.version q.limit q.resume (grouped s q.asked.columns q.asked.values given)
page_found w s q rows given page wanted first made =
    let groups : List Row = rows_after q.resume (grouped s q.asked.columns q.asked.values given) in
    made ∙ ap (page_from q.version q.limit) (first ∙ ap (λ v. first_groups v given) wanted ∙ ap (take (q.limit + 1)) (behind_after q.resume (grouped s q.asked.columns q.asked.values given)) ∙ ap (λ n. take n groups) (add-one q.limit)) ∙ page_of_first q.version q.limit groups

-- Its rows have the form of the group columns and the chosen value columns.
pub page_form : (s : Columns) (q : BuiltQuery) (given : List Row) (page : Page) → AreRowsOf s given → page ≡ page_of q.version q.limit q.resume (grouped s q.asked.columns q.asked.values given)
    → AreRowsOf (grouped_columns s q.asked.columns q.asked.values) page.rows
page_form s q given page form made =
    let wide : Columns = grouped_columns s q.asked.columns q.asked.values in
    let groups : List Row = grouped s q.asked.columns q.asked.values given in
    subst (λ (p : Page). AreRowsOf wide p.rows) (sym made) (all_taken (IsRowOf wide) q.limit (rows_after q.resume groups) (subst (AllByRecursion (IsRowOf wide)) (behind_after q.resume groups) (all_after (IsRowOf wide) false q.resume groups (groups_form s q.asked.columns q.asked.values given form))))
