-- The columns of a key at places.
use Rattle.std.proofs.Common.{◌≡◌, ℕ, zero, suc, ◌+◌, ◌-◌, ◌≤◌, ◌<◌, List, [], ◌∷◌, ◌++◌, append_assoc, length, take, drop, get_or, refl, ◌∙◌, ap, arith, Some, None}
use Rattle.std.specs.Prelude.{slice_get}
use Rattle.std.specs.List.{concat}
use Rattle.std.proofs.lemmas.List.{drop-drop}
use Rattle.mesa_model.specs.mesa_columns.Columns.{chosen}
use Rattle.mesa_filter.proofs.PlacesAsked.{chosen_more, chosen_same}

pub take-front : {X : Type 0} (n : ℕ) (xs ys : List X) → length xs ≡ n → take n (xs ++ ys) ≡ xs
take-front zero [] ys e = refl
take-front zero (x ∷ xs) ys e = absurd (omega arith)
take-front (suc n) [] ys e = absurd (omega arith)
take-front (suc n) (x ∷ xs) ys e = ap (λ zs. x ∷ zs) (take-front n xs ys (omega arith))

-- ---- behind columns that were passed

got_behind : {X : Type 0} (n k : ℕ) (xs : List X) → slice_get (drop n xs) k ≡ slice_get xs (n + k)
got_behind zero k xs = let none : k ≡ 0 + k = omega arith in ap (slice_get xs) none
got_behind (suc n) k [] = refl
got_behind (suc n) k (x ∷ xs) = let more : suc (n + k) ≡ suc n + k = omega arith in got_behind n k xs ∙ ap (slice_get (x ∷ xs)) more

-- a column at a place, and what is behind it
pub column_at : (passed place : ℕ) (all left : List (List ℕ)) → left ≡ drop passed all → passed ≤ place → slice_get left (place - passed) ≡ slice_get all place
column_at passed place all left is le = ap (λ xs. slice_get xs (place - passed)) is ∙ got_behind passed (place - passed) all ∙ (let whole : passed + (place - passed) ≡ place = omega (arith, le) in ap (slice_get all) whole)

pub left_behind : (passed place : ℕ) (all left : List (List ℕ)) → left ≡ drop passed all → passed ≤ place → drop (place - passed + 1) left ≡ drop (place + 1) all
left_behind passed place all left is le = ap (drop (place - passed + 1)) is ∙ drop-drop (place - passed + 1) passed all ∙ (let whole : passed + (place - passed + 1) ≡ place + 1 = omega (arith, le) in ap (λ n. drop n all) whole)

-- ---- a column more in a group key

pub column_more : (places : List ℕ) (all : List (List ℕ)) (found new whole : List ℕ) (i : ℕ) (column : List ℕ) → i < length places → slice_get all (get_or places i 0) ≡ Some column → new ≡ found ++ column
    → found ++ concat (chosen (drop i places) all) ≡ whole → new ++ concat (chosen (drop (i + 1) places) all) ≡ whole
column_more places all found new whole i column lt at is before =
    let rest : List (List ℕ) = chosen (drop (i + 1) places) all in
    let next : column ∷ rest ≡ chosen (drop i places) all = chosen_more places all [] (column ∷ []) (chosen (drop i places) all) i column lt at refl refl in
    ap (λ bytes. bytes ++ concat rest) is ∙ append_assoc found column (concat rest) ∙ ap (λ (columns : List (List ℕ)). found ++ concat columns) next ∙ before

pub column_same : (places : List ℕ) (all : List (List ℕ)) (found new whole : List ℕ) (i : ℕ) → i < length places → slice_get all (get_or places i 0) ≡ None → new ≡ found
    → found ++ concat (chosen (drop i places) all) ≡ whole → new ++ concat (chosen (drop (i + 1) places) all) ≡ whole
column_same places all found new whole i lt at is before =
    let next : chosen (drop (i + 1) places) all ≡ chosen (drop i places) all = chosen_same places all [] [] (chosen (drop i places) all) i lt at refl refl in
    (λ k. is k ++ concat (next k)) ∙ before
