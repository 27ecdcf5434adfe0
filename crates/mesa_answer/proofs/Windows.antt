-- Neighbours among columns and values stand in one piece.
use Rattle.std.proofs.Common.{◌≡◌, ℕ, zero, suc, ◌+◌, ◌*◌, ◌≤◌, List, [], ◌∷◌, ◌++◌, length, take, drop, map, refl, sym, ◌∙◌, ap, subst, arith}
use Rattle.std.specs.Prelude.{slice_get}
use Rattle.std.specs.List.{concat, cons_option, range_with_len}
use Rattle.std.proofs.Math.Seq.{take-add, take-nil, drop-nil}
use Rattle.std.proofs.lemmas.List.{drop-drop}
use Rattle.std.proofs.lemmas.List.FromFn.{map-range_with_len_more}
use Rattle.mesa_key.specs.declared.KeyType.{KeyType}
use Rattle.mesa_key.specs.declared.KeyType.TheVariants as kind
use Rattle.mesa_key.specs.Spelling.{columns_of}
use Rattle.mesa_model.specs.mesa_columns.Columns.{chosen}
use Rattle.mesa_answer.specs.declared.window.Window.{Window}
use Rattle.mesa_answer.specs.Window.{AreInts, IsWindow}

-- ---- places that are neighbours

map_same : (xs : List ℕ) → map (λ x. x) xs ≡ xs
map_same [] = refl
map_same (x ∷ xs) = ap (λ l. x ∷ l) (map_same xs)

-- one place more
pub run_more : (first n : ℕ) → range_with_len first (n + 1) ≡ range_with_len first n ++ (first + n) ∷ []
run_more first n =
    sym (map_same (range_with_len first (n + 1))) ∙ map-range_with_len_more (λ x. x) first n (first + n) refl ∙ ap (λ l. l ++ (first + n) ∷ []) (map_same (range_with_len first n))

-- ---- what stands at them

nothing : {X : Type 0} (first n : ℕ) → chosen {X = X} (range_with_len first n) [] ≡ []
nothing first zero = refl
nothing first (suc n) = nothing (first + 1) n

-- the element at the first place
at_first : {X : Type 0} (first n : ℕ) (x : X) (xs : List X) → chosen (range_with_len (suc first) n) (x ∷ xs) ≡ chosen (range_with_len first n) xs
at_first first zero x xs = refl
at_first first (suc n) x xs =
    let next : suc first + 1 ≡ suc (first + 1) = omega arith in
    ap (λ k. cons_option (slice_get xs first) (chosen (range_with_len k n) (x ∷ xs))) next ∙ ap (cons_option (slice_get xs first)) (at_first (first + 1) n x xs)

-- Neighbours stand in one piece.
pub neighbours : {X : Type 0} (first n : ℕ) (xs : List X) → chosen (range_with_len first n) xs ≡ take n (drop first xs)
neighbours first n [] = nothing first n ∙ sym (ap (take n) (drop-nil first) ∙ take-nil n)
neighbours zero zero (x ∷ xs) = refl
neighbours zero (suc n) (x ∷ xs) = ap (λ l. x ∷ l) (at_first zero n x xs ∙ neighbours zero n xs)
neighbours (suc first) n (x ∷ xs) = at_first first n x xs ∙ neighbours first n xs

-- ---- columns of ints

eight_more : (n : ℕ) → 8 + 8 * n ≡ 8 * suc n
eight_more n = omega arith

-- behind ints
behind_ints : (n : ℕ) (kinds : List KeyType) (key : List ℕ) → AreInts (take n kinds) → n ≤ length kinds → drop n (columns_of kinds key) ≡ columns_of (drop n kinds) (drop (8 * n) key)
behind_ints zero kinds key ints le = refl
behind_ints (suc n) [] key ints le = absurd (omega (arith, le))
behind_ints (suc n) (kind.Text ∷ kinds) key ints le = absurd (let no : kind.Text ≡ kind.Int = ints.0 in cc)
behind_ints (suc n) (kind.Int ∷ kinds) key ints le =
    behind_ints n kinds (drop 8 key) ints.1 (omega (arith, le)) ∙ ap (columns_of (drop n kinds)) (drop-drop (8 * n) 8 key ∙ ap (λ m. drop m key) (eight_more n))

-- ints one behind the other
ints_joined : (n : ℕ) (kinds : List KeyType) (key : List ℕ) → AreInts (take n kinds) → n ≤ length kinds → concat (take n (columns_of kinds key)) ≡ take (8 * n) key
ints_joined zero kinds key ints le = refl
ints_joined (suc n) [] key ints le = absurd (omega (arith, le))
ints_joined (suc n) (kind.Text ∷ kinds) key ints le = absurd (let no : kind.Text ≡ kind.Int = ints.0 in cc)
ints_joined (suc n) (kind.Int ∷ kinds) key ints le =
    ap (λ l. take 8 key ++ l) (ints_joined n kinds (drop 8 key) ints.1 (omega (arith, le))) ∙ sym (take-add 8 (8 * n) key) ∙ ap (λ m. take m key) (eight_more n)

one_more : (a b : ℕ) → suc a + b ≡ suc (a + b)
one_more a b = omega arith

-- of ints the front ones are ints, and those behind them
front_ints : (a b : ℕ) (kinds : List KeyType) → AreInts (take (a + b) kinds) → AreInts (take a kinds)
front_ints zero b kinds ints = tt
front_ints (suc a) b [] ints = tt
front_ints (suc a) b (k ∷ kinds) ints =
    let all : AreInts (k ∷ take (a + b) kinds) = subst (λ n. AreInts (take n (k ∷ kinds))) (one_more a b) ints in
    (all.0, front_ints a b kinds all.1)

back_ints : (a b : ℕ) (kinds : List KeyType) → AreInts (take (a + b) kinds) → AreInts (take b (drop a kinds))
back_ints zero b kinds ints = let none : zero + b ≡ b = omega arith in rw none at ints
back_ints (suc a) b [] ints = rw (take-nil b) tt
back_ints (suc a) b (k ∷ kinds) ints =
    let all : AreInts (k ∷ take (a + b) kinds) = subst (λ n. AreInts (take n (k ∷ kinds))) (one_more a b) ints in
    back_ints a b kinds all.1

left : (a b : ℕ) (kinds : List KeyType) → a + b ≤ length kinds → b ≤ length (drop a kinds)
left zero b kinds le = omega (arith, le)
left (suc a) b [] le = absurd (omega (arith, le))
left (suc a) b (k ∷ kinds) le = left a b kinds (omega (arith, le))

-- The columns of neighbours, up to the last of which all are ints, stand in one piece.
key_piece : (first n : ℕ) (kinds : List KeyType) (key : List ℕ) → AreInts (take (first + n) kinds) → first + n ≤ length kinds
    → take (8 * n) (drop (8 * first) key) ≡ concat (chosen (range_with_len first n) (columns_of kinds key))
key_piece first n kinds key ints le =
    sym (ap concat (neighbours first n (columns_of kinds key) ∙ ap (take n) (behind_ints first kinds key (front_ints first n kinds ints) (omega (arith, le))))
    ∙ ints_joined n (drop first kinds) (drop (8 * first) key) (back_ints first n kinds ints) (left first n kinds le))

pub is_window : (kinds : List KeyType) (columns values : List ℕ) (first at : ℕ) (c : Window) → columns ≡ range_with_len first (length columns) → values ≡ range_with_len at (length values) → AreInts (take (first + length columns) kinds) × (first + length columns ≤ length kinds)
    → c ≡ record { key_at = 8 * first; key_len = 8 * length columns; values_at = at; values_len = length values } → IsWindow kinds columns values c
is_window kinds columns values first at c cs vs ints is = λ row.
    let n = length columns in
    let key : take (8 * n) (drop (8 * first) row.key) ≡ concat (chosen columns (columns_of kinds row.key)) =
    key_piece first n kinds row.key ints.0 ints.1 ∙ ap (λ (ps : List ℕ). concat (chosen ps (columns_of kinds row.key))) (sym cs) in
    let numbers : take (length values) (drop at row.values) ≡ chosen values row.values = sym (neighbours at (length values) row.values) ∙ ap (λ (ps : List ℕ). chosen ps row.values) (sym vs) in
    (λ i. record { key = take (is i).key_len (drop (is i).key_at row.key); values = take (is i).values_len (drop (is i).values_at row.values) })
    ∙ (λ i. record { key = key i; values = numbers i })
