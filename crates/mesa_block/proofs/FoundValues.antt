-- The value columns of the rows that were made are the columns that were read.
use Rattle.std.proofs.Common.{◌≡◌, ℕ, zero, suc, ◌+◌, ◌<◌, List, [], ◌∷◌, ◌++◌, length, map, drop, get_or, refl, sym, ap, subst, ◌∙◌, arith}
use Rattle.std.specs.Prelude.{ℤ, flat_map, pos}
use Rattle.std.specs.List.{AllByRecursion, concat, range_with_len}
use Rattle.std.proofs.lemmas.List.Concat.{flat_map-cons}
use Rattle.std.proofs.lemmas.List.Folds.{flat_map-map}
use Rattle.mesa_columns.specs.mesa_key.declared.KeyType.{KeyType}
use Rattle.mesa_columns.specs.declared.rows.Row.{Row}
use Rattle.mesa_block.specs.declared.layout.Width.{Width}
use Rattle.mesa_block.specs.Layout.{number, value}
use Rattle.mesa_block.specs.Spelling.{value_column, value_columns}
use Rattle.mesa_block.specs.Reading.{row_at, rows_of, values_at}
use Rattle.mesa_block.proofs.Cells.{IsWord, value_again}
use Rattle.mesa_block.proofs.Found.{by_rows, cells_again}

-- value columns that were read have r cells each, of their width
abbrev pub AreCellsOf : ℕ → List Width → List (List (List ℕ)) → Type 0
AreCellsOf r [] [] = Unit {0}
AreCellsOf r [] (c ∷ cs) = ⊥
AreCellsOf r (w ∷ ws) [] = ⊥
AreCellsOf r (w ∷ ws) (c ∷ cs) = (length c ≡ r) × (AllByRecursion (IsWord w) c × AreCellsOf r ws cs)

-- their bytes, one column after the other
abbrev pub cells_laid : List (List (List ℕ)) → List ℕ
cells_laid [] = []
cells_laid (c ∷ cs) = concat c ++ cells_laid cs

words : (w : Width) (c : List (List ℕ)) (is : List ℕ) → AllByRecursion (λ i. IsWord w (get_or c i [])) is → flat_map (λ i. value w (number w (get_or c i []))) is ≡ concat (map (λ i. get_or c i []) is)
words w c [] all = refl
words w c (i ∷ is) all =
    let one = value_again w (get_or c i []) all.0 in
    rw flat_map-cons (ap (λ (l : List ℕ). l ++ flat_map (λ i. value w (number w (get_or c i []))) is) one ∙ ap (λ (l : List ℕ). get_or c i [] ++ l) (words w c is all.1))

one_column : (w : Width) (c : List (List ℕ)) (r : ℕ) → length c ≡ r → AllByRecursion (IsWord w) c → flat_map (λ i. value w (number w (get_or c i []))) (range_with_len 0 r) ≡ concat c
one_column w c r e all =
    let again = cells_again c r e in
    words w c (range_with_len 0 r) (by_rows (IsWord w) (λ i. get_or c i []) (range_with_len 0 r) (subst (AllByRecursion (IsWord w)) (sym again) all)) ∙ ap concat again

pub at_map : {X Y : Type 0} (g : X → Y) (xs : List X) (j : ℕ) (d : Y) (e : X) → j < length xs → get_or (map g xs) j d ≡ g (get_or xs j e)
at_map g [] j d e lt = absurd (omega arith)
at_map g (x ∷ xs) zero d e lt = refl
at_map g (x ∷ xs) (suc j) d e lt = at_map g xs j d e (omega arith)

same_parts : {X : Type 0} (f g : X → List ℕ) (xs : List X) → ((x : X) → f x ≡ g x) → flat_map f xs ≡ flat_map g xs
same_parts f g [] each = refl
same_parts f g (x ∷ xs) each = rw (flat_map-cons, flat_map-cons, each x, same_parts f g xs each) refl

-- the element at a place, and those behind it
at_place : (xs : List ℤ) (j : ℕ) (y : ℤ) (ys : List ℤ) → drop j xs ≡ y ∷ ys → (get_or xs j (pos 0) ≡ y) × (drop (j + 1) xs ≡ ys)
at_place [] zero y ys e = absurd (cc)
at_place [] (suc j) y ys e = absurd (cc)
at_place (x ∷ xs) zero y ys e = (cc, cc)
at_place (x ∷ xs) (suc j) y ys e =
    let rest = at_place xs j y ys e in
    let next : suc j + 1 ≡ suc (j + 1) = omega arith in
    (rest.0, ap (λ (n : ℕ). drop n (x ∷ xs)) next ∙ rest.1)

-- the value columns of rows are the columns that were read, from a place on
columns_found : (f : ℕ → Row) (r : ℕ) (ws : List Width) (cs : List (List (List ℕ))) (j : ℕ) → ((i : ℕ) → drop j (f i).values ≡ values_at ws cs i) → AreCellsOf r ws cs
    → value_columns ws (map f (range_with_len 0 r)) j ≡ cells_laid cs
columns_found f r [] [] j each are = refl
columns_found f r [] (c ∷ cs) j each are = absurd are
columns_found f r (w ∷ ws) [] j each are = absurd are
columns_found f r (w ∷ ws) (c ∷ cs) j each are =
    let here = λ (i : ℕ). at_place (f i).values j (number w (get_or c i [])) (values_at ws cs i) (each i) in
    let one : value_column w (map f (range_with_len 0 r)) j ≡ concat c =
    flat_map-map (λ (row : Row). value w (get_or row.values j (pos 0))) f (range_with_len 0 r)
    ∙ same_parts (λ i. value w (get_or (f i).values j (pos 0))) (λ i. value w (number w (get_or c i []))) (range_with_len 0 r) (λ i. ap (value w) (here i).0)
    ∙ one_column w c r are.0 are.1.0 in
    λ k. one k ++ columns_found f r ws cs (j + 1) (λ i. (here i).1) are.1.1 k

pub values_found : (kinds : List KeyType) (ws : List Width) (keys values : List (List (List ℕ))) (r : ℕ) → AreCellsOf r ws values → value_columns ws (rows_of kinds ws keys values r) 0 ≡ cells_laid values
values_found kinds ws keys values r are = columns_found (row_at kinds ws keys values) r ws values 0 (λ i. refl) are
