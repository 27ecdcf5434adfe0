-- What is among the files that wait.
use Rattle.std.proofs.Common.{◌≡◌, ◌⊎◌, inl, inr, ⊎_elim, ℕ, ◌<◌, List, [], ◌∷◌, ◌++◌, map, Bool, true, false, cond, ◌&&◌, ◌||◌, nat_lt, refl, arith}
use Rattle.std.specs.Prelude.{filter}
use Rattle.std.proofs.lemmas.Bool.Decides.{nat_tests}
use Rattle.std.specs.List.{AllByRecursion}
use Rattle.mesa_commit.specs.declared.trash.Dropped.{Dropped}
use Rattle.mesa_commit.specs.Holding.{Among, ids_of, dropped_at, IsDroppedAfter}

-- ---- lists

pub all_so : {A : Type 0} (P Q : A → Type 0) (xs : List A) → ((x : A) → P x → Q x) → AllByRecursion P xs → AllByRecursion Q xs
all_so P Q [] f all = tt
all_so P Q (x ∷ xs) f all = (f x all.0, all_so P Q xs f all.1)

pub all_both : {A : Type 0} (P Q R : A → Type 0) (xs : List A) → ((x : A) → P x → Q x → R x) → AllByRecursion P xs → AllByRecursion Q xs → AllByRecursion R xs
all_both P Q R [] f all also = tt
all_both P Q R (x ∷ xs) f all also = (f x all.0 also.0, all_both P Q R xs f all.1 also.1)

pub all_append : {A : Type 0} (P : A → Type 0) (xs ys : List A) → AllByRecursion P xs → AllByRecursion P ys → AllByRecursion P (xs ++ ys)
all_append P [] ys all more = more
all_append P (x ∷ xs) ys all more = (all.0, all_append P xs ys all.1 more)

pub all_picked : {A : Type 0} (P : A → Type 0) (b : Bool) (x : A) (xs : List A) → P x → AllByRecursion P xs → AllByRecursion P (cond b (x ∷ xs) xs)
all_picked P true x xs p all = (p, all)
all_picked P false x xs p all = all

pub all_filter : {A : Type 0} (P : A → Type 0) (p : A → Bool) (xs : List A) → AllByRecursion P xs → AllByRecursion P (filter p xs)
all_filter P p [] all = tt
all_filter P p (x ∷ xs) all = all_picked P (p x) x (filter p xs) all.0 (all_filter P p xs all.1)

pub among_front : (id : ℕ) (xs ys : List Dropped) → Among id (ids_of xs) → Among id (ids_of (xs ++ ys))
among_front id [] ys is = absurd is
among_front id (x ∷ xs) ys (inl is) = inl is
among_front id (x ∷ xs) ys (inr is) = inr (among_front id xs ys is)

pub among_back : (id : ℕ) (xs ys : List Dropped) → Among id (ids_of ys) → Among id (ids_of (xs ++ ys))
among_back id [] ys is = is
among_back id (x ∷ xs) ys is = inr (among_back id xs ys is)

pub among_either : (id : ℕ) (xs ys : List Dropped) → Among id (ids_of (xs ++ ys)) → Among id (ids_of xs) ⊎ Among id (ids_of ys)
among_either id [] ys is = inr is
among_either id (x ∷ xs) ys (inl is) = inl (inl is)
among_either id (x ∷ xs) ys (inr is) = ⊎_elim (λ a. inl (inr a)) (λ a. inr a) (among_either id xs ys is)

pub after_either : (at id : ℕ) (xs ys : List Dropped) → IsDroppedAfter at id (xs ++ ys) → IsDroppedAfter at id xs ⊎ IsDroppedAfter at id ys
after_either at id [] ys is = inr is
after_either at id (x ∷ xs) ys (inl is) = inl (inl is)
after_either at id (x ∷ xs) ys (inr is) = ⊎_elim (λ a. inl (inr a)) (λ a. inr a) (after_either at id xs ys is)

-- files dropped at once
pub dropped_among : (at id : ℕ) (ids : List ℕ) → Among id ids → Among id (ids_of (map (dropped_at at) ids))
dropped_among at id [] is = absurd is
dropped_among at id (x ∷ ids) (inl is) = inl is
dropped_among at id (x ∷ ids) (inr is) = inr (dropped_among at id ids is)

pub among_dropped : (at id : ℕ) (ids : List ℕ) → Among id (ids_of (map (dropped_at at) ids)) → Among id ids
among_dropped at id [] is = absurd is
among_dropped at id (x ∷ ids) (inl is) = inl is
among_dropped at id (x ∷ ids) (inr is) = inr (among_dropped at id ids is)

pub after_dropped : (a at id : ℕ) (ids : List ℕ) → IsDroppedAfter a id (map (dropped_at at) ids) → Among id ids
after_dropped a at id [] is = absurd is
after_dropped a at id (x ∷ ids) (inl is) = inl is.0
after_dropped a at id (x ∷ ids) (inr is) = inr (after_dropped a at id ids is)

pub all_dropped : (P : Dropped → Type 0) (at : ℕ) (ids : List ℕ) → ((id : ℕ) → P (dropped_at at id)) → AllByRecursion P (map (dropped_at at) ids)
all_dropped P at [] f = tt
all_dropped P at (x ∷ ids) f = (f x, all_dropped P at ids f)

-- ---- tests

pub both_true : (a b : Bool) → (a && b) ≡ true → (a ≡ true) × (b ≡ true)
both_true true b e = (refl, e)
both_true false b e = absurd (let f : false ≡ true = e in cc)

pub either_true : (a b : Bool) → (a || b) ≡ true → (a ≡ true) ⊎ (b ≡ true)
either_true true b e = inl refl
either_true false b e = inr e

pub right_true : (a b : Bool) → b ≡ true → (a || b) ≡ true
right_true true b e = refl
right_true false b e = e

pub is_less : (m n : ℕ) → nat_lt m n ≡ true → m < n
is_less m n e = grind (arith, nat_tests)

pub less_is : (m n : ℕ) → m < n → nat_lt m n ≡ true
less_is m n e = grind (arith, nat_tests)

pub two_true : (a b : Bool) → a ≡ true → b ≡ true → (a && b) ≡ true
two_true true b e f = f
two_true false b e f = absurd (let g : false ≡ true = e in cc)

-- one that this pin holds is kept
pub among_picked : (b : Bool) (d : Dropped) (ds : List Dropped) (id : ℕ) → (d.id ≡ id → b ≡ true) → Among id (ids_of (d ∷ [])) ⊎ Among id (ids_of ds) → Among id (ids_of (cond b (d ∷ ds) ds))
among_picked true d ds id so (inl (inl is)) = inl is
among_picked true d ds id so (inl (inr is)) = absurd is
among_picked true d ds id so (inr is) = inr is
among_picked false d ds id so (inl (inl is)) = absurd (let f : false ≡ true = so is in cc)
among_picked false d ds id so (inl (inr is)) = absurd is
among_picked false d ds id so (inr is) = is

pub kept_among : (test : Dropped → Bool) (id : ℕ) (ds : List Dropped) → AllByRecursion (λ (d : Dropped). d.id ≡ id → test d ≡ true) ds → Among id (ids_of ds) → Among id (ids_of (filter test ds))
kept_among test id [] all is = absurd is
kept_among test id (d ∷ ds) all (inl is) = among_picked (test d) d (filter test ds) id all.0 (inl (inl is))
kept_among test id (d ∷ ds) all (inr is) = among_picked (test d) d (filter test ds) id all.0 (inr (kept_among test id ds all.1 is))

pub unpicked : (b : Bool) (d : Dropped) (ds : List Dropped) (P : List Dropped → Type 0) → (b ≡ true → P (d ∷ ds)) → P ds → P (cond b (d ∷ ds) ds)
unpicked true d ds P if_so if_not = if_so refl
unpicked false d ds P if_so if_not = if_not

-- what is kept was there, and passed the test
pub among_kept : (test : Dropped → Bool) (id : ℕ) (ds : List Dropped) → Among id (ids_of (filter test ds)) → (d : Dropped) × (d.id ≡ id) × (test d ≡ true) × Among id (ids_of ds)
among_kept test id [] is = absurd is
among_kept test id (d ∷ ds) is =
    unpicked (test d) d (filter test ds) (λ xs. Among id (ids_of xs) → (e : Dropped) × (e.id ≡ id) × (test e ≡ true) × Among id (ids_of (d ∷ ds)))
    (λ so at. ⊎_elim (λ (one : d.id ≡ id). (d, one, so, inl one)) (λ more. (let rest = among_kept test id ds more in (rest.0, rest.1, rest.2, inr rest.3))) at)
    (λ more. (let rest = among_kept test id ds more in (rest.0, rest.1, rest.2, inr rest.3))) is

pub after_kept : (test : Dropped → Bool) (at id : ℕ) (ds : List Dropped) → IsDroppedAfter at id (filter test ds) → IsDroppedAfter at id ds
after_kept test at id [] is = is
after_kept test at id (d ∷ ds) is =
    unpicked (test d) d (filter test ds) (λ xs. IsDroppedAfter at id xs → IsDroppedAfter at id (d ∷ ds))
    (λ so at'. ⊎_elim (λ one. inl one) (λ more. inr (after_kept test at id ds more)) at') (λ more. inr (after_kept test at id ds more)) is

-- what is freed was dropped before each pin that had it: none had it
pub found_in : (P : Dropped → Type 0) (test : Dropped → Bool) (id : ℕ) (ds : List Dropped) → AllByRecursion P ds → Among id (ids_of (filter test ds)) → (d : Dropped) × P d × (d.id ≡ id) × (test d ≡ true)
found_in P test id [] all is = absurd is
found_in P test id (d ∷ ds) all is =
    unpicked (test d) d (filter test ds) (λ xs. Among id (ids_of xs) → (e : Dropped) × P e × (e.id ≡ id) × (test e ≡ true))
    (λ so at. ⊎_elim (λ (one : d.id ≡ id). (d, all.0, one, so)) (λ more. found_in P test id ds all.1 more) at) (λ more. found_in P test id ds all.1 more) is

-- the entry that is kept
pub kept_entry : (test : Dropped → Bool) (id : ℕ) (ds : List Dropped) → Among id (ids_of (filter test ds)) → (d : Dropped) × (d.id ≡ id) × (test d ≡ true) × ((at : ℕ) → at < d.at → IsDroppedAfter at id ds)
kept_entry test id [] is = absurd is
kept_entry test id (d ∷ ds) is =
    unpicked (test d) d (filter test ds) (λ xs. Among id (ids_of xs) → (e : Dropped) × (e.id ≡ id) × (test e ≡ true) × ((at : ℕ) → at < e.at → IsDroppedAfter at id (d ∷ ds)))
    (λ so at. ⊎_elim (λ (one : d.id ≡ id). (d, one, so, λ a late. inl (one, late))) (λ more. (let rest = kept_entry test id ds more in (rest.0, rest.1, rest.2, λ a late. inr (rest.3 a late)))) at)
    (λ more. (let rest = kept_entry test id ds more in (rest.0, rest.1, rest.2, λ a late. inr (rest.3 a late)))) is
