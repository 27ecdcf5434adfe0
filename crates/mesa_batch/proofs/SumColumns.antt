-- The sum columns, one after another.
use Rattle.std.proofs.Common.{◌≡◌, ℕ, ◌+◌, ◌<◌, List, [], ◌∷◌, ◌++◌, length, map, drop, get_or, Bool, true, false, cond, refl, sym, ◌∙◌, ap, subst, add-one, suc, append_assoc}
use Rattle.std.proofs.lemmas.List.{get_or-map, length-map}
use Rattle.std.proofs.Math.Seq.{drop-cons}
use Rattle.mesa_schema.specs.mesa_value.declared.Agg.{Agg}
use Rattle.mesa_schema.specs.mesa_value.declared.Agg.TheVariants as agg
use Rattle.mesa_schema.specs.mesa_columns.declared.columns.ValueColumn.{ValueColumn}
use Rattle.mesa_batch.specs.Totals.{capped, is_sum, sum_places}

-- the first column's place, where it is a sum, before the others'
places_first : (i : ℕ) (a : Agg) (rest : List Agg) → sum_places i (a ∷ rest) ≡ cond (is_sum a) (i ∷ []) [] ++ sum_places (i + 1) rest
places_first i agg.Sum rest = refl
places_first i agg.Min rest = refl
places_first i agg.Max rest = refl
places_first i agg.Replace rest = refl

capped_first : (f : ℕ → ℕ) (b : Bool) (i : ℕ) (places : List ℕ) → capped (map f (cond b (i ∷ []) [] ++ places)) ≡ capped (cond b (f i ∷ []) []) ++ capped (map f places)
capped_first f true i places = refl
capped_first f false i places = refl

-- what the columns from place i on give is what column i gives, and then what the others give
pub places_next : (f : ℕ → ℕ) (columns : List ValueColumn) (i : ℕ) (column : ValueColumn) → i < length columns → column ≡ get_or columns i column
    → let aggs = map (λ (c : ValueColumn). c.agg) columns in
    capped (map f (sum_places i (drop i aggs))) ≡ capped (cond (is_sum column.agg) (f i ∷ []) []) ++ capped (map f (sum_places (i + 1) (drop (i + 1) aggs)))
places_next f columns i column h e =
    let aggs = map (λ (c : ValueColumn). c.agg) columns in
    let within : i < length aggs = subst (λ n. i < n) (sym (length-map columns (λ (c : ValueColumn). c.agg))) h in
    let at : get_or aggs i column.agg ≡ column.agg = get_or-map (λ (c : ValueColumn). c.agg) columns i column column.agg h ∙ ap (λ (c : ValueColumn). c.agg) (sym e) in
    let cut : drop i aggs ≡ column.agg ∷ drop (i + 1) aggs = rw add-one (drop-cons aggs i column.agg within ∙ ap (λ x. x ∷ drop (suc i) aggs) at) in
    ap (λ l. capped (map f (sum_places i l))) cut ∙ ap (λ places. capped (map f places)) (places_first i column.agg (drop (i + 1) aggs)) ∙ capped_first f (is_sum column.agg) i (sum_places (i + 1) (drop (i + 1) aggs))

-- one column more: the totals so far grow by what it gives
pub totals_next : (f : ℕ → ℕ) (columns items : List ValueColumn) (totals more all : List ℕ) (i : ℕ) (column : ValueColumn) → items ≡ columns → i < length items → column ≡ get_or items i column
    → more ≡ totals ++ capped (cond (is_sum column.agg) (f i ∷ []) [])
    → totals ++ capped (map f (sum_places i (drop i (map (λ (c : ValueColumn). c.agg) columns)))) ≡ all
    → more ++ capped (map f (sum_places (i + 1) (drop (i + 1) (map (λ (c : ValueColumn). c.agg) columns)))) ≡ all
totals_next f columns items totals more all i column same h e grown before =
    let rest : ℕ → List ValueColumn → List ℕ = λ n cs. capped (map f (sum_places n (drop n (map (λ (c : ValueColumn). c.agg) cs)))) in
    let next : rest i columns ≡ capped (cond (is_sum column.agg) (f i ∷ []) []) ++ rest (i + 1) columns =
    ap (rest i) (sym same) ∙ places_next f items i column h e ∙ ap (λ cs. capped (cond (is_sum column.agg) (f i ∷ []) []) ++ rest (i + 1) cs) same in
    ap (λ l. l ++ rest (i + 1) columns) grown ∙ append_assoc totals (capped (cond (is_sum column.agg) (f i ∷ []) [])) (rest (i + 1) columns) ∙ ap (λ l. totals ++ l) (sym next) ∙ before
