-- Rows of the form of columns, as a test finds it.
use Rattle.std.proofs.Common.{◌≡◌, ℕ, ◌+◌, ◌<◌, List, [], ◌∷◌, ◌++◌, take, get_or, length, sym, subst}
use Rattle.std.specs.Prelude.{ℤ}
use Rattle.std.specs.List.{AllByRecursion}
use Rattle.std.proofs.lemmas.List.{take_more}
use Rattle.mesa_value.specs.declared.Agg.{Agg}
use Rattle.mesa_value.specs.declared.Agg.TheVariants.{Sum, Min, Max, Replace}
use Rattle.mesa_value.specs.Agg.{IsNarrow, IsOf}
use Rattle.mesa_print.specs.mesa_columns.Rows.{AreOf}

module _ {X : Type 0} (P : X → Type 0) where
  pushed : (xs : List X) (x : X) → AllByRecursion P xs → P x → AllByRecursion P (xs ++ x ∷ [])
  pushed [] x all one = (one, tt)
  pushed (y ∷ ys) x all one = (all.0, pushed ys x all.1 one)

  -- one element more
  pub all_more : (xs : List X) (i : ℕ) (x : X) → i < length xs → x ≡ get_or xs i x → P x → AllByRecursion P (take i xs) → AllByRecursion P (take (i + 1) xs)
  all_more xs i x l is one all =
      subst (AllByRecursion P) (sym (take_more xs i x l)) (pushed (take i xs) (get_or xs i x) all (subst P is one))

-- narrow values are ones of any columns
pub of_columns : (aggs : List Agg) (values : List ℤ) → AllByRecursion IsNarrow values → AreOf aggs values
of_columns [] values all = tt
of_columns (agg ∷ aggs) [] all = tt
of_columns (agg ∷ aggs) (value ∷ values) all =
    (elim agg as (λ a. IsOf a value) [ Sum ↦ tt | Min ↦ all.0 | Max ↦ all.0 | Replace ↦ all.0 ], of_columns aggs values all.1)
