-- Things of a list, and things of which each has its id.
use Rattle.std.proofs.Common.{◌≡◌, ◌⊎◌, inl, inr, ℕ, ◌+◌, List, [], ◌∷◌, refl, sym, subst, Some}
use Rattle.std.specs.List.{AllByRecursion}
use Rattle.mesa_columns.proofs.Lists.{all_so}
use Rattle.mesa_engine.specs.mesa_store_spec.Rewritten.{Rewritten}
use Rattle.mesa_file_records.specs.Adopted.{ref_under}
use Rattle.mesa_file_records.specs.Recasts.{Took, rewritten_under}
use Rattle.mesa_file_records.proofs.TakenFiles.{AllFrom}

-- one of them
abbrev pub IsListed : {A : Type 0} → A → List A → Type 0
IsListed x [] = ⊥
IsListed x (y ∷ ys) = (x ≡ y) ⊎ IsListed x ys

pub all_listed : {A : Type 0} (xs : List A) → AllByRecursion (λ x. IsListed x xs) xs
all_listed [] = tt
all_listed (x ∷ xs) = (inl refl, all_so (λ y. IsListed y xs) (λ y. IsListed y (x ∷ xs)) xs (λ y is. inr is) (all_listed xs))

pub listed_has : {A : Type 0} (P : A → Type 0) (xs : List A) (x : A) → AllByRecursion P xs → IsListed x xs → P x
listed_has P [] x all is = absurd is
listed_has P (y ∷ ys) x all (inl same) = subst P (sym same) all.0
listed_has P (y ∷ ys) x all (inr is) = listed_has P ys x all.1 is

-- ---- by their ids

pub from_seen : {A : Type 0} (P Q : ℕ → A → Type 0) → ((id : ℕ) (x : A) → P id x → Q id x) → (id : ℕ) (xs : List A) → AllFrom P id xs → AllFrom Q id xs
from_seen P Q so id [] all = tt
from_seen P Q so id (x ∷ xs) all = (so id x all.0, from_seen P Q so (id + 1) xs all.1)

pub beside : {A : Type 0} (P : ℕ → A → Type 0) (Q : A → Type 0) (id : ℕ) (xs : List A) → AllFrom P id xs → AllByRecursion Q xs → AllFrom (λ n x. P n x × Q x) id xs
beside P Q id [] all more = tt
beside P Q id (x ∷ xs) all more = ((all.0, more.0), beside P Q (id + 1) xs all.1 more.1)

-- a range that was taken, as it was rewritten, with its file's id
abbrev pub rewritten_as : {M : Type 0} → ℕ → Took M → Rewritten
rewritten_as id k = record { from = k.range.from; to = k.range.to; file = Some (ref_under id k.file); totals = k.range.totals }

pub each_under : {M : Type 0} (P : Rewritten → Type 0) (Q : ℕ → Took M → Type 0) → ((id : ℕ) (k : Took M) → Q id k → P (rewritten_as id k)) → (id : ℕ) (taken : List (Took M)) → AllFrom Q id taken → AllByRecursion P (rewritten_under id taken)
each_under P Q so id [] all = tt
each_under P Q so id (k ∷ taken) all = (so id k all.0, each_under P Q so (id + 1) taken all.1)
