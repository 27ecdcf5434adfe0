-- What holds of each element of lists that are mapped, joined and filtered, and ids among joined lists.
use Rattle.std.proofs.Common.{◌⊎◌, inl, inr, ⊎_elim, ℕ, List, [], ◌∷◌, ◌++◌, map, Bool, true, false, cond}
use Rattle.std.specs.Prelude.{filter}
use Rattle.std.specs.List.{AllByRecursion}
use Rattle.mesa_commit.specs.Holding.{Among}

pub all_map : {A B : Type 0} (P : B → Type 0) (f : A → B) (xs : List A) → AllByRecursion (λ x. P (f x)) xs → AllByRecursion P (map f xs)
all_map P f [] all = tt
all_map P f (x ∷ xs) all = (all.0, all_map P f xs all.1)

pub map_all : {A B : Type 0} (P : B → Type 0) (f : A → B) (xs : List A) → AllByRecursion P (map f xs) → AllByRecursion (λ x. P (f x)) xs
map_all P f [] all = tt
map_all P f (x ∷ xs) all = (all.0, map_all P f xs all.1)

pub all_joined : {A : Type 0} (P : A → Type 0) (xs ys : List A) → AllByRecursion P xs → AllByRecursion P ys → AllByRecursion P (xs ++ ys)
all_joined P [] ys all more = more
all_joined P (x ∷ xs) ys all more = (all.0, all_joined P xs ys all.1 more)

pub all_front : {A : Type 0} (P : A → Type 0) (xs ys : List A) → AllByRecursion P (xs ++ ys) → AllByRecursion P xs
all_front P [] ys all = tt
all_front P (x ∷ xs) ys all = (all.0, all_front P xs ys all.1)

pub all_back : {A : Type 0} (P : A → Type 0) (xs ys : List A) → AllByRecursion P (xs ++ ys) → AllByRecursion P ys
all_back P [] ys all = all
all_back P (x ∷ xs) ys all = all_back P xs ys all.1

pub all_also : {A : Type 0} (P Q R : A → Type 0) (xs : List A) → ((x : A) → P x → Q x → R x) → AllByRecursion P xs → AllByRecursion Q xs → AllByRecursion R xs
all_also P Q R [] f all also = tt
all_also P Q R (x ∷ xs) f all also = (f x all.0 also.0, all_also P Q R xs f all.1 also.1)

pub all_so : {A : Type 0} (P Q : A → Type 0) (xs : List A) → ((x : A) → P x → Q x) → AllByRecursion P xs → AllByRecursion Q xs
all_so P Q [] f all = tt
all_so P Q (x ∷ xs) f all = (f x all.0, all_so P Q xs f all.1)

picked : {A : Type 0} (P : A → Type 0) (b : Bool) (x : A) (xs : List A) → P x → AllByRecursion P xs → AllByRecursion P (cond b (x ∷ xs) xs)
picked P true x xs one all = (one, all)
picked P false x xs one all = all

pub all_filtered : {A : Type 0} (P : A → Type 0) (test : A → Bool) (xs : List A) → AllByRecursion P xs → AllByRecursion P (filter test xs)
all_filtered P test [] all = tt
all_filtered P test (x ∷ xs) all = picked P (test x) x (filter test xs) all.0 (all_filtered P test xs all.1)

-- ---- ids

pub among_left : (id : ℕ) (xs ys : List ℕ) → Among id xs → Among id (xs ++ ys)
among_left id [] ys is = absurd is
among_left id (x ∷ xs) ys (inl is) = inl is
among_left id (x ∷ xs) ys (inr is) = inr (among_left id xs ys is)

pub among_right : (id : ℕ) (xs ys : List ℕ) → Among id ys → Among id (xs ++ ys)
among_right id [] ys is = is
among_right id (x ∷ xs) ys is = inr (among_right id xs ys is)

pub among_split : (id : ℕ) (xs ys : List ℕ) → Among id (xs ++ ys) → Among id xs ⊎ Among id ys
among_split id [] ys is = inr is
among_split id (x ∷ xs) ys (inl is) = inl (inl is)
among_split id (x ∷ xs) ys (inr is) = ⊎_elim (λ a. inl (inr a)) (λ a. inr a) (among_split id xs ys is)
