-- The keys that are made of the cells of keys are these keys, and none of their texts is bad.
use Rattle.std.proofs.Common.{◌≡◌, ℕ, zero, suc, ◌+◌, ◌-◌, ◌<◌, List, [], ◌∷◌, ◌++◌, length, map, take, drop, get_or, refl, sym, ap, ◌∙◌, arith, Bool, true}
use Rattle.std.specs.Prelude.{IsTrue, not, None, position, ◌==◌}
use Rattle.std.specs.List.{AllByRecursion, position_or_len, prefix_len}
use Rattle.std.proofs.lemmas.Bool.{eqb-true}
use Rattle.std.proofs.lemmas.Grind.{common_steps}
use Rattle.std.proofs.lemmas.List.{take-append-drop, length-take, length-map}
use Rattle.std.proofs.Math.ListN.{get_or-map}
use Rattle.mesa_list.proofs.Whole.{both}
use Rattle.mesa_columns.specs.mesa_key.declared.KeyType.{KeyType}
use Rattle.mesa_columns.specs.mesa_key.declared.KeyType.TheVariants as kind
use Rattle.mesa_columns.specs.mesa_key.Spelling.{before_zero, is_column, is_key_text, is_spelling}
use Rattle.mesa_block.specs.Spelling.{front, rest}
use Rattle.mesa_block.specs.Reading.{bad_column, bad_text, key_at, sealed}
use Rattle.mesa_block.proofs.Laying.{at_each, each_mapped, has_front, text_column}
use Rattle.mesa_block.proofs.Only.{cells_of}
use Rattle.mesa_block.proofs.Zeros.{before_zero-other, before_zero-take}

-- the text before the first zero byte, that byte, and the bytes behind it
pub zero_there : (key : List ℕ) → length (before_zero key) < length key → (before_zero key ++ 0 ∷ []) ++ drop (length (before_zero key) + 1) key ≡ key
unfolding before_zero
zero_there [] lt = absurd (omega arith)
zero_there (zero ∷ key) lt = refl
zero_there (suc b ∷ key) lt =
    let e : before_zero (suc b ∷ key) ≡ suc b ∷ before_zero key = before_zero-other (suc b) key (λ z. cc) in
    let within : length (before_zero key) < length key = omega (arith, ap length e) in
    let n = length (before_zero key) in
    let one : suc n + 1 ≡ suc (n + 1) = omega arith in
    ap (λ (l : List ℕ). (l ++ 0 ∷ []) ++ drop (length l + 1) (suc b ∷ key)) e
    ∙ ap (λ m. suc b ∷ ((before_zero key ++ 0 ∷ []) ++ drop m (suc b ∷ key))) one
    ∙ ap (λ (l : List ℕ). suc b ∷ l) (zero_there key within)

-- a key's first column as its bytes have it, and the others' bytes
pub key_parts : (k : KeyType) (kinds : List KeyType) (key : List ℕ) → IsTrue (is_spelling (k ∷ kinds) key) → sealed k (front k key) ++ rest k key ≡ key
key_parts kind.Int kinds key h = take-append-drop 8 key
key_parts kind.Text kinds key h =
    let p = both (is_column kind.Text (take (length (before_zero key) + 1) key)) (is_spelling kinds (drop (length (before_zero key) + 1) key)) h in
    zero_there key (text_column key _ refl p.0).1

-- the cell and the other bytes of the key at a place
front_at : (k : KeyType) (keys : List (List ℕ)) (i : ℕ) → get_or (map (front k) keys) i [] ≡ front k (get_or keys i [])
unfolding before_zero
front_at kind.Int keys i = get_or-map (front kind.Int) keys i []
front_at kind.Text keys i = get_or-map (front kind.Text) keys i []

rest_at : (k : KeyType) (keys : List (List ℕ)) (i : ℕ) → get_or (map (rest k) keys) i [] ≡ rest k (get_or keys i [])
unfolding before_zero
rest_at kind.Int keys i = get_or-map (rest kind.Int) keys i []
rest_at kind.Text keys i = get_or-map (rest kind.Text) keys i []

empty_is : (bytes : List ℕ) → IsTrue (length bytes == 0) → [] ≡ bytes
empty_is [] h = refl
empty_is (b ∷ bytes) h = absurd (omega (arith, eqb-true (length (b ∷ bytes)) 0 h))

pub key_again : (kinds : List KeyType) (keys : List (List ℕ)) (i : ℕ) → i < length keys → AllByRecursion (λ key. IsTrue (is_spelling kinds key)) keys → key_at kinds (cells_of kinds keys) i ≡ get_or keys i []
unfolding key_at
key_again [] keys i lt all = empty_is (get_or keys i []) (at_each (λ key. IsTrue (is_spelling [] key)) keys i [] lt all)
key_again (k ∷ kinds) keys i lt all =
    let others = each_mapped (λ key. IsTrue (is_spelling (k ∷ kinds) key)) (λ key. IsTrue (is_spelling kinds key)) (rest k) keys (λ key h. (has_front k kinds key h).others) all in
    let after = key_again kinds (map (rest k) keys) i (omega (arith, length-map keys (rest k))) others ∙ rest_at k keys i in
    ap (λ (c : List ℕ). sealed k c ++ key_at kinds (cells_of kinds (map (rest k) keys)) i) (front_at k keys i)
    ∙ ap (λ (l : List ℕ). sealed k (front k (get_or keys i [])) ++ l) after
    ∙ key_parts k kinds (get_or keys i []) (at_each (λ key. IsTrue (is_spelling (k ∷ kinds) key)) keys i [] lt all)

-- a shorter beginning of a beginning
cut : (key : List ℕ) (n : ℕ) → take n (take (suc n) key) ≡ take n key
cut key zero = refl
cut [] (suc n) = refl
cut (b ∷ key) (suc n) = ap (λ (l : List ℕ). b ∷ l) (cut key n)

front_cut : (key : List ℕ) (n : ℕ) → take (n + 1 - 1) (take (n + 1) key) ≡ take n key
front_cut key n =
    let back : n + 1 - 1 ≡ n = omega arith in
    let one : n + 1 ≡ suc n = omega arith in
    ap (λ m. take m (take (n + 1) key)) back ∙ ap (λ m. take n (take m key)) one ∙ cut key n

-- the text of a key's first column, cut out of the column with its zero
pub text_cell : (kinds : List KeyType) (key : List ℕ) → IsTrue (is_spelling (kind.Text ∷ kinds) key) → take (length (take (length (before_zero key) + 1) key) - 1) (take (length (before_zero key) + 1) key) ≡ before_zero key
text_cell kinds key h =
    let n = length (before_zero key) in
    let p = both (is_column kind.Text (take (n + 1) key)) (is_spelling kinds (drop (n + 1) key)) h in
    let t = text_column key _ refl p.0 in
    ap (λ m. take (m - 1) (take (n + 1) key)) (omega (arith, length-take (n + 1) key, t.1)) ∙ front_cut key n ∙ before_zero-take key

-- the text of a key's first column is a key text
first_text : (kinds : List KeyType) (key : List ℕ) → IsTrue (is_spelling (kind.Text ∷ kinds) key) → is_key_text (before_zero key) ≡ true
first_text kinds key h =
    let n = length (before_zero key) in
    let p = both (is_column kind.Text (take (n + 1) key)) (is_spelling kinds (drop (n + 1) key)) h in
    let q = both (is_key_text (take (length (take (n + 1) key) - 1) (take (n + 1) key))) (length (before_zero (take (n + 1) key)) + 1 == length (take (n + 1) key)) p.0 in
    ap is_key_text (sym (text_cell kinds key h)) ∙ q.0

-- where each element passes, there is no first that doesn't
all_passed : {X : Type 0} (q : X → Bool) (xs : List X) → AllByRecursion (λ x. q x ≡ true) xs → prefix_len q xs ≡ length xs
all_passed q [] all = refl
all_passed q (x ∷ xs) all = rw all.0 (omega (arith, all_passed q xs all.1))

nowhere_bad : {X : Type 0} (p : X → Bool) (xs : List X) → AllByRecursion (λ x. not (p x) ≡ true) xs → position p xs ≡ None
nowhere_bad p xs all = let e : position_or_len p xs ≡ length xs = all_passed (λ x. not (p x)) xs all in grind (arith, common_steps)

no_bad_column : (k : KeyType) (kinds : List KeyType) (keys : List (List ℕ)) → AllByRecursion (λ key. IsTrue (is_spelling (k ∷ kinds) key)) keys → bad_column k (map (front k) keys) ≡ None
no_bad_column kind.Int kinds keys all = refl
no_bad_column kind.Text kinds keys all =
    nowhere_bad (λ cell. not (is_key_text cell)) (map (front kind.Text) keys)
    (each_mapped (λ key. IsTrue (is_spelling (kind.Text ∷ kinds) key)) (λ cell. not (not (is_key_text cell)) ≡ true) (front kind.Text) keys
    (λ key h. ap (λ b. not (not b)) (first_text kinds key h)) all)

pub no_bad_text : (kinds : List KeyType) (keys : List (List ℕ)) → AllByRecursion (λ key. IsTrue (is_spelling kinds key)) keys → bad_text kinds (cells_of kinds keys) ≡ None
unfolding bad_text
no_bad_text [] keys all = refl
no_bad_text (k ∷ kinds) keys all =
    let others = each_mapped (λ key. IsTrue (is_spelling (k ∷ kinds) key)) (λ key. IsTrue (is_spelling kinds key)) (rest k) keys (λ key h. (has_front k kinds key h).others) all in
    rw (no_bad_column k kinds keys all) (no_bad_text kinds (map (rest k) keys) others)
