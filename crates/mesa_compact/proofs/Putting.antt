-- Rows put into several gatherers.
use Rattle.std.proofs.Common.{◌≡◌, ℕ, zero, suc, ◌<◌, ◌≤◌, List, [], ◌∷◌, sym, subst, ap, refl, length, map, get_or, set, arith}
use Rattle.std.specs.List.{AllByRecursion}
use Rattle.mesa_open_files.specs.mesa_columns.Columns.{Columns}
use Rattle.mesa_answer.specs.Gathered.{wanted_of}
use Rattle.mesa_answer.specs.Gathering.{Wanted}
use Rattle.mesa_answer.specs.declared.groups.Groups.{Groups}
use Rattle.mesa_compact.specs.Grouping.{TakesRows}

-- the first so many have one property, and the others another
abbrev pub AllUpTo : {A : Type 0} → ℕ → (A → Type 0) → (A → Type 0) → List A → Type 0
AllUpTo zero P Q xs = AllByRecursion Q xs
AllUpTo (suc n) P Q [] = Unit {0}
AllUpTo (suc n) P Q (x ∷ xs) = P x × AllUpTo n P Q xs

pub upto_at : {A : Type 0} (n : ℕ) (P Q : A → Type 0) (xs : List A) (d : A) → AllUpTo n P Q xs → n < length xs → Q (get_or xs n d)
upto_at zero P Q [] d h lt = absurd (omega (arith, lt))
upto_at zero P Q (x ∷ xs) d h lt = h.0
upto_at (suc n) P Q [] d h lt = absurd (omega (arith, lt))
upto_at (suc n) P Q (x ∷ xs) d h lt = upto_at n P Q xs d h.1 (omega (arith, lt))

-- one more has the first
pub upto_set : {A : Type 0} (n : ℕ) (P Q : A → Type 0) (xs : List A) (y : A) → AllUpTo n P Q xs → P y → AllUpTo (suc n) P Q (set xs n y)
upto_set zero P Q [] y h p = tt
upto_set zero P Q (x ∷ xs) y h p = (p, h.1)
upto_set (suc n) P Q [] y h p = tt
upto_set (suc n) P Q (x ∷ xs) y h p = (h.0, upto_set n P Q xs y h.1 p)

pub upto_all : {A : Type 0} (n : ℕ) (P Q : A → Type 0) (xs : List A) → AllUpTo n P Q xs → length xs ≤ n → AllByRecursion P xs
upto_all zero P Q [] h le = tt
upto_all zero P Q (x ∷ xs) h le = absurd (omega (arith, le))
upto_all (suc n) P Q [] h le = tt
upto_all (suc n) P Q (x ∷ xs) h le = (h.0, upto_all n P Q xs h.1 (omega (arith, le)))

pub all_at : {A : Type 0} (P : A → Type 0) (xs : List A) (n : ℕ) (d : A) → AllByRecursion P xs → n < length xs → P (get_or xs n d)
all_at P [] n d h lt = absurd (omega (arith, lt))
all_at P (x ∷ xs) zero d h lt = h.0
all_at P (x ∷ xs) (suc n) d h lt = all_at P xs n d h.1 (omega (arith, lt))

-- what is seen of each stays where it stays of one
pub map_set : {A B : Type 0} (f : A → B) (xs : List A) (n : ℕ) (y d : A) → f y ≡ f (get_or xs n d) → map f (set xs n y) ≡ map f xs
map_set f [] n y d e = refl
map_set f (x ∷ xs) zero y d e = ap (λ z. z ∷ map f xs) e
map_set f (x ∷ xs) (suc n) y d e = ap (λ zs. f x ∷ zs) (map_set f xs n y d e)

-- a property that what is seen decides
pub all_along : {A B : Type 0} (f : A → B) (P : A → Type 0) (Q : B → Type 0) (xs : List A) → ((x : A) → P x → Q (f x)) → AllByRecursion P xs → AllByRecursion Q (map f xs)
all_along f P Q [] to h = tt
all_along f P Q (x ∷ xs) to h = (to x h.0, all_along f P Q xs to h.1)

pub all_back : {A B : Type 0} (f : A → B) (P : A → Type 0) (Q : B → Type 0) (xs : List A) → ((x : A) → Q (f x) → P x) → AllByRecursion Q (map f xs) → AllByRecursion P xs
all_back f P Q [] from h = tt
all_back f P Q (x ∷ xs) from h = (from x h.0, all_back f P Q xs from h.1)

-- ---- what gatherers take

-- they take the same rows still
pub takes_kept : (s : Columns) (old new : List Groups) → map wanted_of new ≡ map wanted_of old → AllByRecursion (TakesRows s) old → AllByRecursion (TakesRows s) new
takes_kept s old new same h =
    let Q = λ (w : Wanted). w.schema ≡ s in
    all_back wanted_of (TakesRows s) Q new (λ x its. its) (subst (AllByRecursion Q) (sym same) (all_along wanted_of (TakesRows s) Q old (λ x its. its) h))
