-- Lists whose elements all have a property, and elements at places.
use Rattle.std.proofs.Common.{◌≡◌, ℕ, zero, suc, List, [], ◌∷◌, ◌++◌, map, length, drop, get_or, set, replicate, refl, ◌∙◌, ap, subst, slice_get, filter, find, cond, Bool, true, false, ◌⊎◌, inl, inr, Some}
use Rattle.std.specs.List.{AllByRecursion}

module _ {A : Type 0} (P : A → Type 0) where
  pub all_append : (xs ys : List A) → AllByRecursion P xs → AllByRecursion P ys → AllByRecursion P (xs ++ ys)
  all_append [] ys all more = more
  all_append (x ∷ xs) ys all more = (all.0, all_append xs ys all.1 more)

  pub all_drop : (n : ℕ) (xs : List A) → AllByRecursion P xs → AllByRecursion P (drop n xs)
  all_drop zero xs all = all
  all_drop (suc n) [] all = tt
  all_drop (suc n) (x ∷ xs) all = all_drop n xs all.1

  pub all_filter : (p : A → Bool) (xs : List A) → AllByRecursion P xs → AllByRecursion P (filter p xs)
  all_filter p [] all = tt
  all_filter p (x ∷ xs) all = elim (p x) as (λ b. AllByRecursion P (cond b (x ∷ filter p xs) (filter p xs))) [ true ↦ (all.0, all_filter p xs all.1) | false ↦ all_filter p xs all.1 ]

  pub all_set : (xs : List A) (n : ℕ) (y : A) → P y → AllByRecursion P xs → AllByRecursion P (set xs n y)
  all_set [] n y p all = tt
  all_set (x ∷ xs) zero y p all = (p, all.1)
  all_set (x ∷ xs) (suc n) y p all = (all.0, all_set xs n y p all.1)

  -- the element at a place, or what stands for one that isn't there
  pub all_at : (xs : List A) (i : ℕ) (d : A) → P d → AllByRecursion P xs → P (get_or xs i d)
  all_at [] i d p all = p
  all_at (x ∷ xs) zero d p all = all.0
  all_at (x ∷ xs) (suc i) d p all = all_at xs i d p all.1

  pub all_got : (xs : List A) (i : ℕ) (x : A) → slice_get xs i ≡ Some x → AllByRecursion P xs → P x
  all_got [] i x e all = cc
  all_got (y ∷ ys) zero x e all = let same : y ≡ x = cc in subst P same all.0
  all_got (y ∷ ys) (suc i) x e all = all_got ys i x e all.1

  pub all_from_got : (xs : List A) → ((i : ℕ) (x : A) → slice_get xs i ≡ Some x → P x) → AllByRecursion P xs
  all_from_got [] f = tt
  all_from_got (x ∷ xs) f = (f 0 x refl, all_from_got xs (λ i y e. f (suc i) y e))

-- what each has follows from what each had
pub all_so : {A : Type 0} (P Q : A → Type 0) (xs : List A) → ((x : A) → P x → Q x) → AllByRecursion P xs → AllByRecursion Q xs
all_so P Q [] f all = tt
all_so P Q (x ∷ xs) f all = (f x all.0, all_so P Q xs f all.1)

pub all_both : {A : Type 0} (P Q R : A → Type 0) (xs : List A) → ((x : A) → P x → Q x → R x) → AllByRecursion P xs → AllByRecursion Q xs → AllByRecursion R xs
all_both P Q R [] f all both = tt
all_both P Q R (x ∷ xs) f all both = (f x all.0 both.0, all_both P Q R xs f all.1 both.1)

pub all_map : {A B : Type 0} (P : B → Type 0) (f : A → B) (xs : List A) → AllByRecursion (λ x. P (f x)) xs → AllByRecursion P (map f xs)
all_map P f [] all = tt
all_map P f (x ∷ xs) all = (all.0, all_map P f xs all.1)

pub all_replicate : {A : Type 0} (P : A → Type 0) (x : A) (n : ℕ) → P x → AllByRecursion P (replicate n x)
all_replicate P x zero p = tt
all_replicate P x (suc n) p = (p, all_replicate P x n p)

-- mapped alike
pub same_maps : {A B : Type 0} (P : A → Type 0) (f g : A → B) (xs : List A) → ((x : A) → P x → f x ≡ g x) → AllByRecursion P xs → map f xs ≡ map g xs
same_maps P f g [] same all = refl
same_maps P f g (x ∷ xs) same all = λ i. same x all.0 i ∷ same_maps P f g xs same all.1 i

pub map_is : {A B : Type 0} (f g : A → B) (xs : List A) → ((x : A) → f x ≡ g x) → map f xs ≡ map g xs
map_is f g [] same = refl
map_is f g (x ∷ xs) same = λ i. same x i ∷ map_is f g xs same i

-- a filter that all pass, and one that none passes
pub all_pass : {A : Type 0} (P : A → Type 0) (p : A → Bool) (xs : List A) → ((x : A) → P x → p x ≡ true) → AllByRecursion P xs → filter p xs ≡ xs
all_pass P p [] f all = refl
all_pass P p (x ∷ xs) f all = ap (λ b. cond b (x ∷ filter p xs) (filter p xs)) (f x all.0) ∙ ap (λ ys. x ∷ ys) (all_pass P p xs f all.1)

-- ---- elements at places

-- an element of a list with one more at its end
pub got_push : {A : Type 0} (xs : List A) (y : A) (i : ℕ) (x : A) → slice_get (xs ++ y ∷ []) i ≡ Some x → (slice_get xs i ≡ Some x) ⊎ ((i ≡ length xs) × (y ≡ x))
got_push [] y zero x e = let same : y ≡ x = cc in inr (refl, same)
got_push [] y (suc i) x e = cc
got_push (z ∷ xs) y zero x e = inl e
got_push (z ∷ xs) y (suc i) x e = elim (got_push xs y i x e) [ inl at ↦ inl at | inr last ↦ inr (ap suc last.0, last.1) ]

-- an element of a list in which one was set
pub got_set : {A : Type 0} (xs : List A) (n : ℕ) (y : A) (i : ℕ) (x : A) → slice_get (set xs n y) i ≡ Some x → (slice_get xs i ≡ Some x) ⊎ ((i ≡ n) × (y ≡ x))
got_set [] n y i x e = inl e
got_set (z ∷ xs) zero y zero x e = let same : y ≡ x = cc in inr (refl, same)
got_set (z ∷ xs) zero y (suc i) x e = inl e
got_set (z ∷ xs) (suc n) y zero x e = inl e
got_set (z ∷ xs) (suc n) y (suc i) x e = elim (got_set xs n y i x e) [ inl at ↦ inl at | inr here ↦ inr (ap suc here.0, here.1) ]

-- an element of a mapped list
pub got_map : {A B : Type 0} (f : A → B) (xs : List A) (i : ℕ) (y : B) → slice_get (map f xs) i ≡ Some y → (x : A) × (slice_get xs i ≡ Some x) × (f x ≡ y)
got_map f [] i y e = cc
got_map f (x ∷ xs) zero y e = let same : f x ≡ y = cc in (x, refl, same)
got_map f (x ∷ xs) (suc i) y e = got_map f xs i y e

-- the element at a place of a mapped list
pub map_at : {A B : Type 0} (f : A → B) (xs : List A) (i : ℕ) (d : A) → get_or (map f xs) i (f d) ≡ f (get_or xs i d)
map_at f [] i d = refl
map_at f (x ∷ xs) zero d = refl
map_at f (x ∷ xs) (suc i) d = map_at f xs i d

-- what is found has what all have
pub all_found : {A : Type 0} (P : A → Type 0) (p : A → Bool) (xs : List A) (x : A) → find p xs ≡ Some x → AllByRecursion P xs → P x
all_found P p [] x e all = cc
all_found P p (y ∷ ys) x e all = elim (p y) as (λ b. cond b (Some y) (find p ys) ≡ Some x → P x) [
  | true ↦ λ is. (let same : y ≡ x = cc in subst P same all.0)
  | false ↦ λ is. all_found P p ys x is all.1
] e
