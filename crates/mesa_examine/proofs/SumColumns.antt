-- The totals of the sum columns, one after another.
use Rattle.std.proofs.Common.{◌≡◌, ℕ, ◌+◌, ◌<◌, List, [], ◌∷◌, ◌++◌, length, map, drop, get_or, Bool, true, false, cond, refl, sym, ◌∙◌, ap, subst, add-one, suc, append_assoc}
use Rattle.std.proofs.lemmas.List.{get_or-map, length-map}
use Rattle.std.proofs.Math.Seq.{drop-cons}
use Rattle.mesa_schema.specs.mesa_value.declared.Agg.{Agg}
use Rattle.mesa_schema.specs.mesa_value.declared.Agg.TheVariants as agg
use Rattle.mesa_open_files.specs.mesa_columns.declared.columns.ValueColumn.{ValueColumn}
use Rattle.mesa_open_files.specs.mesa_batch.Totals.{is_sum, sum_places}
use Rattle.mesa_examine.specs.Sums.{counted}

-- the first column's place, where it is a sum, before the others'
places_first : (i : ℕ) (a : Agg) (rest : List Agg) → sum_places i (a ∷ rest) ≡ cond (is_sum a) (i ∷ []) [] ++ sum_places (i + 1) rest
places_first i agg.Sum rest = refl
places_first i agg.Min rest = refl
places_first i agg.Max rest = refl
places_first i agg.Replace rest = refl

counted_first : (f : ℕ → ℕ) (b : Bool) (i total : ℕ) (places : List ℕ) → counted (f i ∷ []) ≡ total ∷ [] → counted (map f (cond b (i ∷ []) [] ++ places)) ≡ cond b (total ∷ []) [] ++ counted (map f places)
counted_first f true i total places is = ap (λ l. l ++ counted (map f places)) is
counted_first f false i total places is = refl

-- one column more: the totals so far grow by its total, where it is a sum
pub sums_next : (f : ℕ → ℕ) (columns items : List ValueColumn) (sums more all : List ℕ) (i total : ℕ) (column : ValueColumn) → items ≡ columns → i < length items → column ≡ get_or items i column
    → counted (f i ∷ []) ≡ total ∷ []
    → more ≡ sums ++ cond (is_sum column.agg) (total ∷ []) []
    → sums ++ counted (map f (sum_places i (drop i (map (λ (c : ValueColumn). c.agg) columns)))) ≡ all
    → more ++ counted (map f (sum_places (i + 1) (drop (i + 1) (map (λ (c : ValueColumn). c.agg) columns)))) ≡ all
sums_next f columns items sums more all i total column same h e is grown before =
    let aggs = map (λ (c : ValueColumn). c.agg) items in
    let rest : ℕ → List ValueColumn → List ℕ = λ n cs. counted (map f (sum_places n (drop n (map (λ (c : ValueColumn). c.agg) cs)))) in
    let within : i < length aggs = subst (λ n. i < n) (sym (length-map items (λ (c : ValueColumn). c.agg))) h in
    let at : get_or aggs i column.agg ≡ column.agg = get_or-map (λ (c : ValueColumn). c.agg) items i column column.agg h ∙ ap (λ (c : ValueColumn). c.agg) (sym e) in
    let cut : drop i aggs ≡ column.agg ∷ drop (i + 1) aggs = rw add-one (drop-cons aggs i column.agg within ∙ ap (λ x. x ∷ drop (suc i) aggs) at) in
    let here : rest i items ≡ cond (is_sum column.agg) (total ∷ []) [] ++ rest (i + 1) items =
    ap (λ l. counted (map f (sum_places i l))) cut ∙ ap (λ places. counted (map f places)) (places_first i column.agg (drop (i + 1) aggs)) ∙ counted_first f (is_sum column.agg) i total (sum_places (i + 1) (drop (i + 1) aggs)) is in
    let next : rest i columns ≡ cond (is_sum column.agg) (total ∷ []) [] ++ rest (i + 1) columns =
    ap (rest i) (sym same) ∙ here ∙ ap (λ cs. cond (is_sum column.agg) (total ∷ []) [] ++ rest (i + 1) cs) same in
    ap (λ l. l ++ rest (i + 1) columns) grown ∙ append_assoc sums (cond (is_sum column.agg) (total ∷ []) []) (rest (i + 1) columns) ∙ ap (λ l. sums ++ l) (sym next) ∙ before
