-- Groups that are joined.
use Rattle.std.proofs.Common.{◌≡◌, ◌<◌, ◌≤◌, ◌+◌, ℕ, zero, suc, List, [], ◌∷◌, ◌++◌, get_or, length, map, take, refl, sym, ◌∙◌, ap, arith, Bool, Option, Some, None}
use Rattle.std.proofs.lemmas.List.{map-append, take_all}
use Rattle.std.proofs.lemmas.List.Elements.{filter-append}
use Rattle.mesa_value.specs.declared.Agg.{Agg}
use Rattle.mesa_model.specs.mesa_columns.declared.rows.Row.{Row}
use Rattle.mesa_model.specs.mesa_columns.Columns.{Columns, aggs_of, chosen}
use Rattle.mesa_model.specs.mesa_columns.Rows.{AreRowsOf}
use Rattle.mesa_model.specs.mesa_fold.Folded.{folded, regrouped}
use Rattle.mesa_model.specs.mesa_fold.Laws.{AreFull}
use Rattle.mesa_model.specs.mesa_fold.Put.{put_row, put_rows}
use Rattle.mesa_batch.proofs.Sums.{AreFull-put_row}
use Rattle.mesa_answer.specs.Gathering.{JoinsFirst, first_groups, rows_behind}
use Rattle.mesa_answer.specs.Held.{is_behind}
use Rattle.mesa_answer.proofs.Firsts.{take-put_row}
use Rattle.mesa_answer.proofs.Joining.{firsts_joined, puts_append}
use Rattle.mesa_answer.proofs.Passing.{one_more_row}
use Rattle.mesa_answer.proofs.Steps.{after_folded, all_taken}

behind_append : (closed : Bool) (resume : Option (List ℕ)) (xs ys : List Row) → rows_behind closed resume (xs ++ ys) ≡ rows_behind closed resume xs ++ rows_behind closed resume ys
behind_append closed None xs ys = refl
behind_append closed (Some key) xs ys = filter-append (λ (row : Row). is_behind closed (Some key) row.key) xs ys

-- THE LAW: the first groups of a whole are those of its parts' first groups.
pub joins_first : JoinsFirst
joins_first w older newer =
    let aggs : List Agg = chosen w.values (aggs_of w.schema) in
    let f : Row → Row = regrouped w.schema w.columns w.values in
    let behind : List Row → List Row = rows_behind w.inclusive w.resume in
    let firsts : (rows : List Row) → take w.most (folded aggs (behind (map f rows) ∷ [])) ≡ first_groups w rows =
    λ (rows : List Row). ap (take w.most) (sym (after_folded w.inclusive w.resume aggs (map f rows))) in
    sym (firsts (older ++ newer))
    ∙ ap (λ (rows : List Row). take w.most (folded aggs (behind rows ∷ []))) (map-append f older newer)
    ∙ ap (λ (rows : List Row). take w.most (folded aggs (rows ∷ []))) (behind_append w.inclusive w.resume (map f older) (map f newer))
    ∙ firsts_joined w.most aggs (behind (map f older)) (behind (map f newer))
    ∙ (λ i. take w.most (put_rows aggs (firsts older i) (firsts newer i)))

-- ---- rows put one after the other

pub put_start : (n : ℕ) (rows : List Row) → length rows ≤ n → rows ≡ take n rows
put_start n rows le = sym (take_all n rows le)

-- one row more is put
pub put_next : (n : ℕ) (aggs : List Agg) (start held rows : List Row) (i : ℕ) (row : Row) → held ≡ take n (put_rows aggs start (take i rows)) → i < length rows → row ≡ get_or rows i row → take n (put_row aggs row held) ≡ take n (put_rows aggs start (take (i + 1) rows))
put_next n aggs start held rows i row is lt at =
    ap (λ (xs : List Row). take n (put_row aggs row xs)) is
    ∙ take-put_row n aggs row (put_rows aggs start (take i rows))
    ∙ ap (take n) (sym (puts_append aggs start (take i rows) (row ∷ [])))
    ∙ ap (λ (xs : List Row). take n (put_rows aggs start xs)) (sym (one_more_row i rows row lt at))

pub put_short : (n : ℕ) (rows : List Row) → length (take n rows) ≤ n
put_short zero rows = omega arith
put_short (suc n) [] = omega arith
put_short (suc n) (row ∷ rows) = omega (arith, put_short n rows)

pub put_full : (n : ℕ) (aggs : List Agg) (row : Row) (held : List Row) → AreFull aggs held → length row.values ≡ length aggs → AreFull aggs (take n (put_row aggs row held))
put_full n aggs row held full own = all_taken (λ (r : Row). length r.values ≡ length aggs) n (put_row aggs row held) (AreFull-put_row aggs row held own full)

pub forms_append : (s : Columns) (xs ys : List Row) → AreRowsOf s xs → AreRowsOf s ys → AreRowsOf s (xs ++ ys)
forms_append s [] ys all more = more
forms_append s (x ∷ xs) ys all more = (all.0, forms_append s xs ys all.1 more)
