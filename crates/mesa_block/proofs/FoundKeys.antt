-- The key of a row that was made of good cells spells a key.
use Rattle.std.proofs.Common.{◌≡◌, ℕ, ◌+◌, ◌-◌, List, [], ◌∷◌, ◌++◌, length, take, drop, get_or, refl, sym, ap, subst, ◌∙◌, append-nil, arith, Bool, true, false}
use Rattle.std.specs.Prelude.{IsTrue, ◌&&◌, ◌==◌}
use Rattle.std.specs.List.{AllByRecursion, range_with_len}
use Rattle.std.proofs.lemmas.Bool.{eq-eqb}
use Rattle.std.proofs.lemmas.List.{length-append, take_at, drop_at}
use Rattle.mesa_columns.specs.mesa_key.declared.KeyType.{KeyType}
use Rattle.mesa_columns.specs.mesa_key.declared.KeyType.TheVariants as kind
use Rattle.mesa_columns.specs.mesa_key.Spelling.{before_zero, column_length, is_column, is_key_text, is_spelling}
use Rattle.mesa_block.specs.Reading.{key_at, sealed}
use Rattle.mesa_block.proofs.Again.{front_sealed}
use Rattle.mesa_block.proofs.Found.{AreGood, Good, is_cell}

all_of : (a b : Bool) → a ≡ true → IsTrue b → IsTrue (a && b)
all_of true b e h = h
all_of false b e h = absurd cc

-- the first column of a sealed cell and more is the sealed cell
first_length : (k : KeyType) (cell others : List ℕ) → Good k cell → column_length k (sealed k cell ++ others) ≡ length (sealed k cell)
first_length kind.Int cell others good = sym good
first_length kind.Text cell others good = ap (λ (l : List ℕ). length l + 1) (front_sealed kind.Text cell others (is_cell kind.Text cell good)) ∙ sym (length-append cell (0 ∷ []))

sealed_passes : (k : KeyType) (cell : List ℕ) → Good k cell → is_column k (sealed k cell) ≡ true
sealed_passes kind.Int cell good = eq-eqb (length cell) 8 good
sealed_passes kind.Text cell good =
    let long : length (cell ++ 0 ∷ []) ≡ length cell + 1 = length-append cell (0 ∷ []) in
    let text : take (length (cell ++ 0 ∷ []) - 1) (cell ++ 0 ∷ []) ≡ cell = take_at cell (0 ∷ []) (length (cell ++ 0 ∷ []) - 1) (omega (arith, long)) in
    let before : before_zero (cell ++ 0 ∷ []) ≡ cell = sym (ap before_zero (append-nil (cell ++ 0 ∷ []))) ∙ front_sealed kind.Text cell [] (is_cell kind.Text cell good) in
    let ends : length (before_zero (cell ++ 0 ∷ [])) + 1 ≡ length (cell ++ 0 ∷ []) = ap (λ (l : List ℕ). length l + 1) before ∙ sym long in
    all_of (is_key_text (take (length (cell ++ 0 ∷ []) - 1) (cell ++ 0 ∷ []))) (length (before_zero (cell ++ 0 ∷ [])) + 1 == length (cell ++ 0 ∷ []))
    (ap is_key_text text ∙ good) (eq-eqb _ _ ends)

one_more : (k : KeyType) (kinds : List KeyType) (cell others : List ℕ) → Good k cell → IsTrue (is_spelling kinds others) → IsTrue (is_spelling (k ∷ kinds) (sealed k cell ++ others))
one_more k kinds cell others good so =
    let bytes = sealed k cell ++ others in
    let n = first_length k cell others good in
    let column : take (column_length k bytes) bytes ≡ sealed k cell = take_at (sealed k cell) others (column_length k bytes) (sym n) in
    let after : drop (column_length k bytes) bytes ≡ others = drop_at (sealed k cell) others (column_length k bytes) (sym n) in
    all_of (is_column k (take (column_length k bytes) bytes)) (is_spelling kinds (drop (column_length k bytes) bytes))
    (ap (is_column k) column ∙ sealed_passes k cell good) (subst (λ l. IsTrue (is_spelling kinds l)) (sym after) so)

all_pass : {X : Type 0} (P : X → Type 0) (xs : List X) → ((x : X) → P x) → AllByRecursion P xs
all_pass P [] f = tt
all_pass P (x ∷ xs) f = (f x, all_pass P xs f)

both_hold : {X : Type 0} (P Q R : X → Type 0) (xs : List X) → ((x : X) → P x → Q x → R x) → AllByRecursion P xs → AllByRecursion Q xs → AllByRecursion R xs
both_hold P Q R [] f p q = tt
both_hold P Q R (x ∷ xs) f p q = (f x p.0 q.0, both_hold P Q R xs f p.1 q.1)

pub keys_spelled : (r : ℕ) (kinds : List KeyType) (cs : List (List (List ℕ))) → AreGood r kinds cs → AllByRecursion (λ i. IsTrue (is_spelling kinds (key_at kinds cs i))) (range_with_len 0 r)
unfolding key_at
keys_spelled r [] [] are = all_pass (λ i. IsTrue (is_spelling [] (key_at [] [] i))) (range_with_len 0 r) (λ i. refl)
keys_spelled r [] (c ∷ cs) are = absurd are
keys_spelled r (k ∷ kinds) [] are = absurd are
keys_spelled r (k ∷ kinds) (c ∷ cs) are =
    both_hold (λ i. Good k (get_or c i [])) (λ i. IsTrue (is_spelling kinds (key_at kinds cs i))) (λ i. IsTrue (is_spelling (k ∷ kinds) (key_at (k ∷ kinds) (c ∷ cs) i))) (range_with_len 0 r)
    (λ i good so. one_more k kinds (get_or c i []) (key_at kinds cs i) good so) are.1.0 (keys_spelled r kinds cs are.1.1)
