-- Rows of a block that are lifted one by one.
use Rattle.std.proofs.Common.{◌≡◌, ℕ, zero, suc, ◌+◌, ℤ, List, [], ◌∷◌, ◌++◌, length, map, take, drop, refl, sym, ◌∙◌, ap, subst, arith}
use Rattle.std.proofs.lemmas.List.{length-take-le, map-append}
use Rattle.std.specs.Prelude.{Some, slice_get}
use Rattle.mesa_columns.specs.declared.rows.Row.{Row}
use Rattle.mesa_columns.specs.declared.lifting.Lift.{Lift}
use Rattle.mesa_columns.specs.Lifting.{lifted_with}
use Rattle.mesa_block.specs.Fill.{AreOver, rows_over}
use Rattle.mesa_block.proofs.Held.{over_more, rows_more}

-- What two lists have are the first i of these rows, lifted, of n values each.
pub record AreLifted (n : ℕ) (lift : Lift) (rows : List Row) (i : ℕ) (found : List (List ℕ)) (numbers : List ℤ) : Type 0 where
  pub over : AreOver n found numbers
  pub lifted : rows_over n found numbers ≡ map (lifted_with lift) (take i rows)

pub lifted_none : (n : ℕ) (lift : Lift) (rows : List Row) → AreLifted n lift rows 0 [] []
lifted_none n lift rows = record { over = refl; lifted = refl }

-- rows that a lift leaves as they are
pub unmoved : (lift : Lift) (rows : List Row) → ((row : Row) → lifted_with lift row ≡ row) → rows ≡ map (lifted_with lift) rows
unmoved lift [] same = refl
unmoved lift (row ∷ rows) same = λ i. sym (same row) i ∷ unmoved lift rows same i

-- a row of a block has as many values as each
pub values_count : (n : ℕ) (keys : List (List ℕ)) (values : List ℤ) (i : ℕ) (row : Row) → AreOver n keys values → slice_get (rows_over n keys values) i ≡ Some row → length row.values ≡ n
values_count n [] values i row over e = absurd cc
values_count n (key ∷ keys) values zero row over e =
    let same : record { key = key; values = take n values } ≡ row = cc in
    ap (λ (r : Row). length r.values) (sym same) ∙ length-take-le n values over.0
values_count n (key ∷ keys) values (suc i) row over e = values_count n keys (drop n values) i row over.1 e

take_one : (rows : List Row) (i : ℕ) (row : Row) → slice_get rows i ≡ Some row → take (i + 1) rows ≡ take i rows ++ row ∷ []
take_one [] i row e = absurd cc
take_one (x ∷ rows) zero row e = let same : x ≡ row = cc in ap (λ r. r ∷ []) same
take_one (x ∷ rows) (suc i) row e =
    let next : suc i + 1 ≡ suc (i + 1) = omega arith in
    ap (λ n. take n (x ∷ rows)) next ∙ ap (λ ys. x ∷ ys) (take_one rows i row e)

-- one row more
pub lifted_more : (n : ℕ) (lift : Lift) (rows : List Row) (i : ℕ) (found new : List (List ℕ)) (numbers more : List ℤ) (row now : Row) → AreLifted n lift rows i found numbers
    → slice_get rows i ≡ Some row → length (lifted_with lift row).values ≡ n → now ≡ lifted_with lift row → new ≡ found ++ now.key ∷ [] → more ≡ numbers ++ now.values → AreLifted n lift rows (i + 1) new more
lifted_more n lift rows i found new numbers more row now h at count is put add =
    let size : length now.values ≡ n = ap (λ (r : Row). length r.values) is ∙ count in
    let one : rows_over n (found ++ now.key ∷ []) (numbers ++ now.values) ≡ map (lifted_with lift) (take (i + 1) rows) =
    rows_more n found now.key numbers now.values h.over size
    ∙ (λ j. h.lifted j ++ is j ∷ [])
    ∙ sym (map-append (lifted_with lift) (take i rows) (row ∷ []))
    ∙ ap (map (lifted_with lift)) (sym (take_one rows i row at)) in
    subst (λ (l : List (List ℕ)). AreLifted n lift rows (i + 1) l more) (sym put)
    (subst (AreLifted n lift rows (i + 1) (found ++ now.key ∷ [])) (sym add) (record { over = over_more n found now.key numbers now.values h.over size; lifted = one }))
