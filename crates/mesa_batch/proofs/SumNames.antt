-- The names of the sum columns, one after another.
use Rattle.std.proofs.Common.{◌≡◌, ◌+◌, ℕ, zero, suc, List, [], ◌∷◌, length, map, Some, true, false, refl, ap, subst, arith, add-zero, zero-add, get_or}
use Rattle.std.specs.Prelude.{slice_get}
use Rattle.mesa_schema.specs.mesa_value.declared.Agg.{Agg}
use Rattle.mesa_schema.specs.mesa_value.declared.Agg.TheVariants as agg
use Rattle.mesa_schema.specs.mesa_columns.declared.columns.ValueColumn.{ValueColumn}
use Rattle.mesa_schema.specs.mesa_columns.Columns.{Columns, chosen, value_names}
use Rattle.mesa_batch.specs.Totals.{is_sum, sum_name, sum_places}

-- a name before others, where its column is a sum
abbrev pub named : Agg → List ℕ → List (List ℕ) → List (List ℕ)
named agg.Sum name names = name ∷ names
named agg.Min name names = names
named agg.Max name names = names
named agg.Replace name names = names

abbrev pub sum_names : List ValueColumn → List (List ℕ)
sum_names [] = []
sum_names (c ∷ columns) = named c.agg c.name (sum_names columns)

pub named_sum : (g : Agg) (name : List ℕ) (names : List (List ℕ)) → is_sum g ≡ true → named g name names ≡ name ∷ names
named_sum agg.Sum name names e = refl
named_sum agg.Min name names e = absurd (cc)
named_sum agg.Max name names e = absurd (cc)
named_sum agg.Replace name names e = absurd (cc)

pub named_other : (g : Agg) (name : List ℕ) (names : List (List ℕ)) → is_sum g ≡ false → named g name names ≡ names
named_other agg.Sum name names e = absurd (cc)
named_other agg.Min name names e = refl
named_other agg.Max name names e = refl
named_other agg.Replace name names e = refl

length_step : (g : Agg) (name : List ℕ) (names : List (List ℕ)) (i : ℕ) (aggs : List Agg) → length names ≡ length (sum_places (i + 1) aggs) → length (named g name names) ≡ length (sum_places i (g ∷ aggs))
length_step agg.Sum name names i aggs e = ap suc e
length_step agg.Min name names i aggs e = e
length_step agg.Max name names i aggs e = e
length_step agg.Replace name names i aggs e = e

pub length-sum_names : (i : ℕ) (columns : List ValueColumn) → length (sum_names columns) ≡ length (sum_places i (map (λ (c : ValueColumn). c.agg) columns))
length-sum_names i [] = refl
length-sum_names i (c ∷ columns) = length_step c.agg c.name (sum_names columns) i (map (λ (c : ValueColumn). c.agg) columns) (length-sum_names (i + 1) columns)

chosen_step : (g : Agg) (name : List ℕ) (names rest : List (List ℕ)) (i : ℕ) (aggs : List Agg) → slice_get names i ≡ Some name → chosen (sum_places (i + 1) aggs) names ≡ rest → chosen (sum_places i (g ∷ aggs)) names ≡ named g name rest
chosen_step agg.Sum name names rest i aggs e h = rw e (ap (λ ns. name ∷ ns) h)
chosen_step agg.Min name names rest i aggs e h = h
chosen_step agg.Max name names rest i aggs e h = h
chosen_step agg.Replace name names rest i aggs e h = h

chosen_sums : (names : List (List ℕ)) (i : ℕ) (columns : List ValueColumn) → ((k : ℕ) → slice_get names (i + k) ≡ slice_get (map (λ (c : ValueColumn). c.name) columns) k)
    → chosen (sum_places i (map (λ (c : ValueColumn). c.agg) columns)) names ≡ sum_names columns
chosen_sums names i [] h = refl
chosen_sums names i (c ∷ columns) h =
    chosen_step c.agg c.name names (sum_names columns) i (map (λ (c : ValueColumn). c.agg) columns) (subst (λ n. slice_get names n ≡ Some c.name) (add-zero i) (h zero))
    (chosen_sums names (i + 1) columns (λ k. subst (λ n. slice_get names n ≡ slice_get (map (λ (c : ValueColumn). c.name) columns) k) (omega arith) (h (suc k))))

-- a sum column's name is the one at its place among the sum columns
pub sum_name-is : (s : Columns) (place : ℕ) → sum_name s place ≡ get_or (sum_names s.values) place []
sum_name-is s place = ap (λ names. get_or names place []) (chosen_sums (value_names s) 0 s.values (λ k. ap (slice_get (value_names s)) (zero-add k)))
