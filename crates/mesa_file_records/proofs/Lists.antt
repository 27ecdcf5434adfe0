-- Lists whose elements have ids, one after another.
use Rattle.std.proofs.Common.{◌≡◌, ℕ, zero, suc, ◌+◌, ◌<◌, List, [], ◌∷◌, ◌++◌, length, refl, sym, ◌∙◌, ap, subst, arith, Option, Some, append_assoc, add-zero}
use Rattle.std.specs.Prelude.{Bool, true, ◌&&◌, slice_get, slice_index_or, ⊤}
use Rattle.std.specs.List.{AllByRecursion, list_all}
use Rattle.std.proofs.lemmas.List.{length-append}
use Rattle.mesa_columns.specs.declared.rows.Row.{Row}
use Rattle.mesa_engine.specs.mesa_store_spec.Contents.{Rows}
use Rattle.mesa_open_files.specs.declared.made.MadeFile.{MadeFile}
use Rattle.mesa_file_records.specs.Adopted.{told_under}

-- the ids of these, from one on
abbrev pub ids_from : {A : Type 0} → ℕ → List A → List ℕ
ids_from id [] = []
ids_from id (x ∷ xs) = id ∷ ids_from (id + 1) xs

-- the rows of files with ids from one on
abbrev pub AreAt : Rows → ℕ → List (List Row) → Type 0
AreAt rows id [] = ⊤
AreAt rows id (r ∷ more) = (rows id ≡ r) × AreAt rows (id + 1) more

-- these stand in a list from a place on
abbrev pub AreFrom : {A : Type 0} → List A → ℕ → List A → Type 0
AreFrom all n [] = ⊤
AreFrom all n (x ∷ xs) = (slice_get all n ≡ Some x) × AreFrom all (n + 1) xs

next_id : (id n : ℕ) → id + suc n ≡ id + 1 + n
next_id id n = omega arith

pub ids_joined : {A : Type 0} (id : ℕ) (xs ys : List A) → ids_from id (xs ++ ys) ≡ ids_from id xs ++ ids_from (id + length xs) ys
ids_joined id [] ys = ap (λ n. ids_from n ys) (sym (add-zero id))
ids_joined id (x ∷ xs) ys = ap (λ is. id ∷ is) (ids_joined (id + 1) xs ys ∙ ap (λ n. ids_from (id + 1) xs ++ ids_from n ys) (sym (next_id id (length xs))))

pub told_joined : {M : Type 0} (bytes : M → Option (List ℕ)) (id : ℕ) (xs ys : List (MadeFile M)) → told_under bytes id (xs ++ ys) ≡ told_under bytes id xs ++ told_under bytes (id + length xs) ys
told_joined bytes id [] ys = ap (λ n. told_under bytes n ys) (sym (add-zero id))
told_joined bytes id (x ∷ xs) ys = ap (λ fs. (id, bytes x.made) ∷ fs) (told_joined bytes (id + 1) xs ys ∙ ap (λ n. told_under bytes (id + 1) xs ++ told_under bytes n ys) (sym (next_id id (length xs))))

pub at_front : (rows : Rows) (id : ℕ) (xs ys : List (List Row)) → AreAt rows id (xs ++ ys) → AreAt rows id xs
at_front rows id [] ys at = tt
at_front rows id (x ∷ xs) ys at = (at.0, at_front rows (id + 1) xs ys at.1)

pub at_back : (rows : Rows) (id : ℕ) (xs ys : List (List Row)) → AreAt rows id (xs ++ ys) → AreAt rows (id + length xs) ys
at_back rows id [] ys at = subst (λ n. AreAt rows n ys) (sym (add-zero id)) at
at_back rows id (x ∷ xs) ys at = subst (λ n. AreAt rows n ys) (sym (next_id id (length xs))) (at_back rows (id + 1) xs ys at.1)

-- what stands behind a front
got_behind : {A : Type 0} (front : List A) (x : A) (xs : List A) → slice_get (front ++ x ∷ xs) (length front) ≡ Some x
got_behind [] x xs = refl
got_behind (y ∷ front) x xs = got_behind front x xs

from_behind : {A : Type 0} (front xs : List A) (n : ℕ) → n ≡ length front → AreFrom (front ++ xs) n xs
from_behind front [] n e = tt
from_behind front (x ∷ xs) n e = (
  subst (λ m. slice_get (front ++ x ∷ xs) m ≡ Some x) (sym e) (got_behind front x xs),
  subst (λ all. AreFrom all (n + 1) xs) (append_assoc front (x ∷ []) xs) (from_behind (front ++ x ∷ []) xs (n + 1) (omega (arith, e, length-append front (x ∷ [])))),
)

-- all of a list stand in it
pub from_first : {A : Type 0} (xs : List A) → AreFrom xs 0 xs
from_first xs = from_behind [] xs 0 refl

pub got_at : {A : Type 0} (xs : List A) (n : ℕ) (x d : A) → slice_get xs n ≡ Some x → (slice_index_or xs n d ≡ x) × (n < length xs)
got_at [] n x d e = absurd (cc)
got_at (y ∷ xs) zero x d e = ((let same : y ≡ x = cc in same), omega arith)
got_at (y ∷ xs) (suc n) x d e = let rest = got_at xs n x d e in (rest.0, omega (arith, rest.1))

pub all_joined : {A : Type 0} (P : A → Type 0) (xs ys : List A) → AllByRecursion P xs → AllByRecursion P ys → AllByRecursion P (xs ++ ys)
all_joined P [] ys all more = more
all_joined P (x ∷ xs) ys all more = (all.0, all_joined P xs ys all.1 more)

pub passing_joined : {A : Type 0} (p : A → Bool) (x : A) (xs : List A) → p x ≡ true → list_all p xs ≡ true → list_all p (x ∷ xs) ≡ true
passing_joined p x xs one all = ap (λ b. b && list_all p xs) one ∙ all
