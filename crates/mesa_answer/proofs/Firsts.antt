-- The first rows of those that are put.
use Rattle.std.proofs.Common.{◌≡◌, ℕ, zero, suc, List, [], ◌∷◌, take, refl, ap}
use Rattle.std.specs.declared.cmp.Ordering.TheVariants.{Less, Equal, Greater}
use Rattle.std.specs.FinMap.Entries.{by_order}
use Rattle.mesa_value.specs.declared.Agg.{Agg}
use Rattle.mesa_key.specs.Order.{byte_cmp}
use Rattle.mesa_model.specs.mesa_columns.declared.rows.Row.{Row}
use Rattle.mesa_model.specs.mesa_fold.Folded.{row_combined}
use Rattle.mesa_model.specs.mesa_fold.Put.{put_row}

pub take-again : (n : ℕ) (rows : List Row) → take n (take n rows) ≡ take n rows
take-again zero rows = refl
take-again (suc n) [] = refl
take-again (suc n) (x ∷ xs) = ap (λ ys. x ∷ ys) (take-again n xs)

pub take-shorter : (n : ℕ) (rows : List Row) → take n (take (suc n) rows) ≡ take n rows
take-shorter zero rows = refl
take-shorter (suc n) [] = refl
take-shorter (suc n) (x ∷ xs) = ap (λ ys. x ∷ ys) (take-shorter n xs)

take-behind : (n : ℕ) (x : Row) (xs : List Row) → take n (x ∷ take n xs) ≡ take n (x ∷ xs)
take-behind zero x xs = refl
take-behind (suc n) x xs = ap (λ ys. x ∷ ys) (take-shorter n xs)

-- The first rows of those with one more are the first of the first ones with it: no others count.
pub take-put_row : (n : ℕ) (aggs : List Agg) (row : Row) (rows : List Row) → take n (put_row aggs row (take n rows)) ≡ take n (put_row aggs row rows)
take-put_row zero aggs row rows = refl
take-put_row (suc n) aggs row [] = refl
take-put_row (suc n) aggs row (x ∷ xs) =
    let both : Row = record x { values = row_combined aggs x.values row.values } in
    elim (byte_cmp row.key x.key) as (λ o. take (suc n) (by_order o (row ∷ x ∷ take n xs) (both ∷ take n xs) (x ∷ put_row aggs row (take n xs))) ≡ take (suc n) (by_order o (row ∷ x ∷ xs) (both ∷ xs) (x ∷ put_row aggs row xs))) [
      | Less ↦ ap (λ ys. row ∷ ys) (take-behind n x xs)
      | Equal ↦ ap (λ ys. both ∷ ys) (take-again n xs)
      | Greater ↦ ap (λ ys. x ∷ ys) (take-put_row n aggs row xs)
    ]
