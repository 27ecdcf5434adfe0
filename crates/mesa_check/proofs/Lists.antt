-- Lists that are walked element by element.
use Rattle.std.proofs.Common.{◌≡◌, ℕ, zero, suc, ◌+◌, ◌<◌, ◌≤◌, List, [], ◌∷◌, ◌++◌, length, take, get_or, refl, sym, ◌∙◌, ap, subst, arith, Bool, true, false, ◌&&◌}
use Rattle.std.specs.Prelude.{flat_map, slice_get, slice_index_or, IfOk, None, Some, Result, Ok, Err}
use Rattle.std.specs.List.{AllByRecursion, list_all}
use Rattle.std.proofs.lemmas.List.{take_all, take_more}
use Rattle.mesa_schema.proofs.mesa_columns.Lists.{all_append}
use Rattle.mesa_catalog_table.proofs.Pushes.{pushed_more}

-- one more
pub flat_more : {X Y : Type 0} (f : X → List Y) (xs : List X) (i : ℕ) (x : X) → i < length xs → x ≡ get_or xs i x → flat_map f (take i xs) ++ f x ≡ flat_map f (take (i + 1) xs)
flat_more f xs i x h is = pushed_more f [] (flat_map f (take i xs)) (flat_map f (take i xs) ++ f x) xs i x h is refl refl

pub taken_more : {X : Type 0} (xs : List X) (i : ℕ) (x : X) → i < length xs → x ≡ get_or xs i x → take (i + 1) xs ≡ take i xs ++ x ∷ []
taken_more xs i x h is = take_more xs i x h ∙ ap (λ y. take i xs ++ y ∷ []) (sym is)

module _ {X : Type 0} (P : X → Type 0) where
  pub all_item : (xs : List X) (i : ℕ) (x : X) → i < length xs → x ≡ get_or xs i x → AllByRecursion P xs → P x
  all_item [] i x h is all = absurd (omega (arith, h))
  all_item (y ∷ ys) zero x h is all = subst P (sym is) all.0
  all_item (y ∷ ys) (suc i) x h is all = all_item ys i x (omega (arith, h)) is all.1

  pub all_more : (xs : List X) (i : ℕ) (x : X) → i < length xs → x ≡ get_or xs i x → AllByRecursion P (take i xs) → P x → AllByRecursion P (take (i + 1) xs)
  all_more xs i x h is all one = subst (AllByRecursion P) (sym (taken_more xs i x h is)) (all_append P (take i xs) (x ∷ []) all (one, tt))

  pub all_whole : (xs : List X) (i : ℕ) → length xs ≤ i → AllByRecursion P (take i xs) → AllByRecursion P xs
  all_whole xs i h all = subst (AllByRecursion P) (take_all i xs h) all

-- where one fails, not all pass
pub one_fails : {X : Type 0} (p : X → Bool) (xs : List X) (i : ℕ) (x : X) → i < length xs → x ≡ get_or xs i x → p x ≡ false → false ≡ list_all p xs
one_fails p [] i x h is fails = absurd (omega (arith, h))
one_fails p (y ∷ ys) zero x h is fails = sym (ap (λ b. b && list_all p ys) (ap p (sym is) ∙ fails))
one_fails p (y ∷ ys) (suc i) x h is fails = last (p y) ∙ ap (λ b. p y && b) (one_fails p ys i x (omega (arith, h)) is fails)
  where
    last : (b : Bool) → false ≡ (b && false)
    last true = refl
    last false = refl

pub all_more_pass : {X : Type 0} (p : X → Bool) (xs : List X) (i : ℕ) (x : X) → i < length xs → x ≡ get_or xs i x → true ≡ list_all p (take i xs) → true ≡ p x → true ≡ list_all p (take (i + 1) xs)
all_more_pass p xs i x h is all one = pushed (take i xs) all ∙ ap (list_all p) (sym (taken_more xs i x h is))
  where
    both : (a b : Bool) → true ≡ (a && b) → (true ≡ a) × (true ≡ b)
    both true b e = (refl, e)
    both false b e = absurd cc

    pushed : (ys : List _) → true ≡ list_all p ys → true ≡ list_all p (ys ++ x ∷ [])
    pushed [] all = ap (λ b. b && true) one
    pushed (y ∷ ys) all = let parts = both (p y) (list_all p ys) all in λ k. parts.0 k && pushed ys parts.1 k

-- the first of lists one behind the other
pub first_of : {X : Type 0} (xs ys : List X) → xs ≡ [] → slice_get (xs ++ ys) 0 ≡ slice_get ys 0
first_of xs ys none = ap (λ l. slice_get (l ++ ys) 0) none

pub first_here : {X : Type 0} (xs ys : List X) (x : X) → slice_get xs 0 ≡ Some x → slice_get (xs ++ ys) 0 ≡ Some x
first_here [] ys x e = absurd cc
first_here (z ∷ xs) ys x e = e

pub none_first : {X : Type 0} (xs : List X) → slice_get xs 0 ≡ None → xs ≡ []
none_first [] e = refl
none_first (x ∷ xs) e = absurd cc

-- two facts of a result
pub if_both : {X E : Type 0} (r : Result X E) (P Q R : X → Type 0) → ((x : X) → P x → Q x → R x) → IfOk r P → IfOk r Q → IfOk r R
if_both (Ok x) P Q R f p q = f x p q
if_both (Err e) P Q R f p q = tt

pub both_nil : {A : Type 0} (xs ys : List A) → xs ++ ys ≡ [] → (xs ≡ []) × (ys ≡ [])
both_nil [] ys e = (refl, e)
both_nil (x ∷ xs) ys e = absurd cc

-- what the first gives that gives anything
pub flat_first : {X Y : Type 0} (f : X → List Y) (xs : List X) (n : ℕ) (x : X) (y : Y) → n < length xs → x ≡ get_or xs n x → flat_map f (take n xs) ≡ [] → slice_get (f x) 0 ≡ Some y → slice_get (flat_map f xs) 0 ≡ Some y
flat_first f [] n x y h is none e = absurd (omega (arith, h))
flat_first f (z ∷ xs) zero x y h is none e = first_here (f z) (flat_map f xs) y (subst (λ w. slice_get (f w) 0 ≡ Some y) is e)
flat_first f (z ∷ xs) (suc n) x y h is none e = let parts = both_nil (f z) (flat_map f (take n xs)) none in first_of (f z) (flat_map f xs) parts.0 ∙ flat_first f xs n x y (omega (arith, h)) is parts.1 e

-- and where one more gives nothing
pub flat_none : {X Y : Type 0} (f : X → List Y) (xs : List X) (n : ℕ) (x : X) → n < length xs → x ≡ get_or xs n x → flat_map f (take n xs) ≡ [] → f x ≡ [] → flat_map f (take (n + 1) xs) ≡ []
flat_none f xs n x h is none e = sym (flat_more f xs n x h is) ∙ (λ k. none k ++ e k)

pub flat_end : {X Y : Type 0} (f : X → List Y) (xs : List X) (n : ℕ) → length xs ≤ n → flat_map f (take n xs) ≡ [] → flat_map f xs ≡ []
flat_end f xs n h none = ap (flat_map f) (sym (take_all n xs h)) ∙ none

-- an element by its place, whatever stands for one that isn't there
pub got_same : {X : Type 0} (xs : List X) (n : ℕ) (d : X) → n < length xs → slice_index_or xs n d ≡ get_or xs n (slice_index_or xs n d)
got_same [] n d h = absurd (omega (arith, h))
got_same (x ∷ xs) zero d h = refl
got_same (x ∷ xs) (suc n) d h = got_same xs n d (omega (arith, h))
