-- Items of lists, by their places.
use Rattle.std.proofs.Common.{◌≡◌, ◌<◌, ◌≤◌, ◌+◌, ℕ, zero, suc, List, [], ◌∷◌, ◌++◌, drop, length, map, get_or, Some, refl, sym, ◌∙◌, ap, subst, arith, add-one, inl, inr}
use Rattle.std.proofs.Math.Nat.{eq-or-lt_of_le}
use Rattle.std.specs.Prelude.{slice_get, option_map}
use Rattle.std.proofs.lemmas.Option.{get_or_from_slice_get, slice_get-map, slice_get_read}

some_same : {X : Type 0} (x y : X) → Some x ≡ Some y → x ≡ y
some_same x y e = cc

-- an item with those behind it
pub drop_from : {X : Type 0} (xs : List X) (i : ℕ) (x : X) → slice_get xs i ≡ Some x → drop i xs ≡ x ∷ drop (i + 1) xs
drop_from [] i x e = absurd (cc)
drop_from (y ∷ ys) zero x e = ap (λ z. z ∷ ys) (some_same y x e)
drop_from (y ∷ ys) (suc i) x e = rw add-one (rw add-one at (drop_from ys i x e))

-- an item of a mapped list is an item's
pub of_map : {X Y : Type 0} (f : X → Y) (xs : List X) (i : ℕ) (y : Y) → slice_get (map f xs) i ≡ Some y → (x : X) × ((slice_get xs i ≡ Some x) × (f x ≡ y))
of_map f [] i y e = absurd (cc)
of_map f (x ∷ xs) zero y e = (x, (refl, some_same (f x) y e))
of_map f (x ∷ xs) (suc i) y e = of_map f xs i y e

pub read_there : {X : Type 0} (xs : List X) (i : ℕ) (x : X) → i < length xs → x ≡ get_or xs i x → slice_get xs i ≡ Some x
read_there xs i x lt e = slice_get_read xs (length xs) i x refl lt e

pub read_or : {X : Type 0} (xs : List X) (i : ℕ) (x d : X) → i < length xs → x ≡ get_or xs i x → get_or xs i d ≡ x
read_or xs i x d lt e = get_or_from_slice_get xs i x d (read_there xs i x lt e)

pub map_there : {X Y : Type 0} (f : X → Y) (xs : List X) (i : ℕ) (x : X) → i < length xs → x ≡ get_or xs i x → slice_get (map f xs) i ≡ Some (f x)
map_there f xs i x lt e = slice_get-map f xs i ∙ ap (option_map f) (read_there xs i x lt e)

-- one more item at the end
pub get_or-before : {X : Type 0} (xs : List X) (x d : X) (i : ℕ) → i < length xs → get_or (xs ++ x ∷ []) i d ≡ get_or xs i d
get_or-before [] x d i lt = absurd (omega arith)
get_or-before (y ∷ ys) x d zero lt = refl
get_or-before (y ∷ ys) x d (suc i) lt = get_or-before ys x d i (omega arith)

pub get_or-last : {X : Type 0} (xs : List X) (x d : X) → get_or (xs ++ x ∷ []) (length xs) d ≡ x
get_or-last [] x d = refl
get_or-last (y ∷ ys) x d = get_or-last ys x d

-- what holds of each item so far, and of the next one
pub one_more : {X K : Type 0} (P : ℕ → K → X → Type 0) (xs : List X) (x d : X) (tables : List K) (i : ℕ) (known : K) → length xs ≡ i → slice_get tables i ≡ Some known → P i known x
    → ((n : ℕ) (k : K) → n < i → slice_get tables n ≡ Some k → P n k (get_or xs n d)) → (n : ℕ) (k : K) → n < i + 1 → slice_get tables n ≡ Some k → P n k (get_or (xs ++ x ∷ []) n d)
one_more P xs x d tables i known len there own before n k lt e =
    let le : n ≤ i = omega arith in
    elim (eq-or-lt_of_le le) [
      | inl same ↦
          let k-is : known ≡ k = some_same known k (sym there ∙ ap (slice_get tables) (sym same) ∙ e) in
          let last : x ≡ get_or (xs ++ x ∷ []) n d = sym (ap (λ m. get_or (xs ++ x ∷ []) m d) (same ∙ sym len) ∙ get_or-last xs x d) in
          subst (P n k) last (subst (λ q. P n q x) k-is (subst (λ m. P m known x) (sym same) own))
      | inr less ↦ subst (P n k) (sym (get_or-before xs x d n (subst (λ m. n < m) (sym len) less))) (before n k less e)
    ]
