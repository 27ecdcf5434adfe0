-- Inputs one after the other, with their cursors and what they have given.
use Rattle.std.proofs.Common.{◌≡◌, ℕ, zero, suc, ◌<◌, ◌≤◌, List, [], ◌∷◌, inl, inr, refl, sym, ◌∙◌, ap, length, get_or, set, arith, true}
use Rattle.std.specs.Prelude.{Option, Some, slice_get, Result, Ok, Err}
use Rattle.std.specs.List.{AllByRecursion}
use Rattle.mesa_scan.specs.mesa_io.Causes.{HasFaultCause, Rose}
use Rattle.mesa_scan.specs.mesa_columns.declared.rows.Row.{Row}
use Rattle.mesa_schema.specs.Changes.{columns_of}
use Rattle.mesa_scan.specs.mesa_columns.Columns.{Columns}
use Rattle.mesa_delta.specs.declared.error.FileError.{FileError}
use Rattle.mesa_delta.specs.declared.error.FileError.TheVariants.{Read}
use Rattle.mesa_delta.specs.declared.input.Input.{Input}
use Rattle.mesa_scan.specs.declared.cursor.Cursor.{Cursor}
use Rattle.mesa_scan.specs.Cursors.{HasGivenFrom, IsInput, IsReady, IsSameInput, reader_in}
use Rattle.mesa_scan.specs.Cut.{is_from}
use Rattle.mesa_scan.proofs.Rising.{from_low}
use Rattle.mesa_merge.specs.Faults.{HaveFaultCause, NoneFell, SomeRose, faults_of}
use Rattle.mesa_merge.specs.Hands.{hands_of}
use Rattle.mesa_merge.specs.Inputs.{AreAlike, AreTold, IsTold, known_of, knowns_of}
use Rattle.mesa_merge.specs.Merging.{AreReady, HasGivens}

-- ---- how many there are

pub cursors_count : {R : Type 0} (bytes : R → Option (List ℕ)) (low : Option (List ℕ)) (is : List (Input R)) (cs : List Cursor) (gs : List (List Row)) → HasGivens bytes low is cs gs → length cs ≡ length is
cursors_count bytes low [] [] gs h = refl
cursors_count bytes low [] (c ∷ cs) gs h = absurd h
cursors_count bytes low (i ∷ is) [] gs h = absurd h
cursors_count bytes low (i ∷ is) (c ∷ cs) [] h = absurd h
cursors_count bytes low (i ∷ is) (c ∷ cs) (g ∷ gs) h = ap suc (cursors_count bytes low is cs gs h.1)

pub givens_count : {R : Type 0} (bytes : R → Option (List ℕ)) (low : Option (List ℕ)) (is : List (Input R)) (cs : List Cursor) (gs : List (List Row)) → HasGivens bytes low is cs gs → length gs ≡ length is
givens_count bytes low [] [] [] h = refl
givens_count bytes low [] [] (g ∷ gs) h = absurd h
givens_count bytes low [] (c ∷ cs) gs h = absurd h
givens_count bytes low (i ∷ is) [] gs h = absurd h
givens_count bytes low (i ∷ is) (c ∷ cs) [] h = absurd h
givens_count bytes low (i ∷ is) (c ∷ cs) (g ∷ gs) h = ap suc (givens_count bytes low is cs gs h.1)

-- ---- one of them, and a changed one

pub given_at : {R : Type 0} (bytes : R → Option (List ℕ)) (low : Option (List ℕ)) (is : List (Input R)) (cs : List Cursor) (gs : List (List Row)) (j : ℕ) (d : Input R) (e : Cursor) → HasGivens bytes low is cs gs → j < length is → HasGivenFrom bytes low (get_or is j d) (get_or cs j e) (get_or gs j [])
given_at bytes low [] cs gs j d e h lt = absurd (omega (arith, lt))
given_at bytes low (i ∷ is) [] gs j d e h lt = absurd h
given_at bytes low (i ∷ is) (c ∷ cs) [] j d e h lt = absurd h
given_at bytes low (i ∷ is) (c ∷ cs) (g ∷ gs) zero d e h lt = h.0
given_at bytes low (i ∷ is) (c ∷ cs) (g ∷ gs) (suc j) d e h lt = given_at bytes low is cs gs j d e h.1 (omega (arith, lt))

pub given_set : {R : Type 0} (bytes : R → Option (List ℕ)) (low : Option (List ℕ)) (is : List (Input R)) (cs : List Cursor) (gs : List (List Row)) (j : ℕ) (x : Input R) (y : Cursor) (z : List Row) → HasGivens bytes low is cs gs → HasGivenFrom bytes low x y z → HasGivens bytes low (set is j x) (set cs j y) (set gs j z)
given_set bytes low [] [] [] j x y z h one = h
given_set bytes low [] [] (g ∷ gs) j x y z h one = absurd h
given_set bytes low [] (c ∷ cs) gs j x y z h one = absurd h
given_set bytes low (i ∷ is) [] gs j x y z h one = absurd h
given_set bytes low (i ∷ is) (c ∷ cs) [] j x y z h one = absurd h
given_set bytes low (i ∷ is) (c ∷ cs) (g ∷ gs) zero x y z h one = (one, h.1)
given_set bytes low (i ∷ is) (c ∷ cs) (g ∷ gs) (suc j) x y z h one = (h.0, given_set bytes low is cs gs j x y z h.1 one)

-- the givens stay where one is put back
pub set_same : (gs : List (List Row)) (j : ℕ) → set gs j (get_or gs j []) ≡ gs
set_same [] j = refl
set_same (g ∷ gs) zero = refl
set_same (g ∷ gs) (suc j) = ap (λ rest. g ∷ rest) (set_same gs j)

pub ready_set : {R : Type 0} (n : ℕ) (is : List (Input R)) (cs : List Cursor) (j : ℕ) (x : Input R) (y : Cursor) → AreReady n is cs → IsReady x y → AreReady n (set is j x) (set cs j y)
ready_set zero is cs j x y h one = tt
ready_set (suc n) [] cs j x y h one = tt
ready_set (suc n) (i ∷ is) [] zero x y h one = tt
ready_set (suc n) (i ∷ is) [] (suc j) x y h one = tt
ready_set (suc n) (i ∷ is) (c ∷ cs) zero x y h one = (one, h.1)
ready_set (suc n) (i ∷ is) (c ∷ cs) (suc j) x y h one = (h.0, ready_set n is cs j x y h.1 one)

pub ready_more : {R : Type 0} (is : List (Input R)) (cs : List Cursor) (j : ℕ) (x : Input R) (y : Cursor) → AreReady j is cs → IsReady x y → AreReady (suc j) (set is j x) (set cs j y)
ready_more [] cs j x y h one = tt
ready_more (i ∷ is) [] zero x y h one = tt
ready_more (i ∷ is) [] (suc j) x y h one = tt
ready_more (i ∷ is) (c ∷ cs) zero x y h one = (one, tt)
ready_more (i ∷ is) (c ∷ cs) (suc j) x y h one = (h.0, ready_more is cs j x y h.1 one)

pub inputs_at : {R : Type 0} (bytes : R → Option (List ℕ)) (is : List (Input R)) (j : ℕ) (d : Input R) → AllByRecursion (IsInput bytes) is → j < length is → IsInput bytes (get_or is j d)
inputs_at bytes [] j d h lt = absurd (omega (arith, lt))
inputs_at bytes (i ∷ is) zero d h lt = h.0
inputs_at bytes (i ∷ is) (suc j) d h lt = inputs_at bytes is j d h.1 (omega (arith, lt))

pub inputs_set : {R : Type 0} (bytes : R → Option (List ℕ)) (is : List (Input R)) (j : ℕ) (x d : Input R) → AllByRecursion (IsInput bytes) is → j < length is → (IsInput bytes (get_or is j d) → IsInput bytes x) → AllByRecursion (IsInput bytes) (set is j x)
inputs_set bytes [] j x d h lt one = tt
inputs_set bytes (i ∷ is) zero x d h lt one = (one h.0, h.1)
inputs_set bytes (i ∷ is) (suc j) x d h lt one = (h.0, inputs_set bytes is j x d h.1 (omega (arith, lt)) one)

-- what has given is an input
pub givens_inputs : {R : Type 0} (bytes : R → Option (List ℕ)) (low : Option (List ℕ)) (is : List (Input R)) (cs : List Cursor) (gs : List (List Row)) → HasGivens bytes low is cs gs → AllByRecursion (IsInput bytes) is
givens_inputs bytes low [] cs gs h = tt
givens_inputs bytes low (i ∷ is) [] gs h = absurd h
givens_inputs bytes low (i ∷ is) (c ∷ cs) [] h = absurd h
givens_inputs bytes low (i ∷ is) (c ∷ cs) (g ∷ gs) h = (h.0.input, givens_inputs bytes low is cs gs h.1)

-- a row at hand lies at or above the low end
pub givens_from : {R : Type 0} (bytes : R → Option (List ℕ)) (low : Option (List ℕ)) (is : List (Input R)) (cs : List Cursor) (gs : List (List Row)) (j : ℕ) (row : Row) (rows : List Row) → HasGivens bytes low is cs gs → j < length is → get_or (hands_of cs) j [] ≡ row ∷ rows → is_from low row.key ≡ true
givens_from bytes low [] cs gs j row rows h lt hand = absurd (omega (arith, lt))
givens_from bytes low (i ∷ is) [] gs j row rows h lt hand = absurd h
givens_from bytes low (i ∷ is) (c ∷ cs) [] j row rows h lt hand = absurd h
givens_from bytes low (i ∷ is) (c ∷ cs) (g ∷ gs) zero row rows h lt hand = from_low bytes low i c g row rows h.0 hand
givens_from bytes low (i ∷ is) (c ∷ cs) (g ∷ gs) (suc j) row rows h lt hand = givens_from bytes low is cs gs j row rows h.1 (omega (arith, lt)) hand

-- ---- what is known of them

same_known : {R : Type 0} (bytes : R → Option (List ℕ)) (old new : Input R) → IsSameInput bytes old new → known_of bytes new ≡ known_of bytes old
same_known bytes old new same = λ i. record { file = same.index i; table = (same.evolving i).value; epoch = same.epoch i; told = same.told i }

pub known_set : {R : Type 0} (bytes : R → Option (List ℕ)) (is : List (Input R)) (j : ℕ) (x d : Input R) → j < length is → IsSameInput bytes (get_or is j d) x → knowns_of bytes (set is j x) ≡ knowns_of bytes is
known_set bytes [] j x d lt same = refl
known_set bytes (i ∷ is) zero x d lt same = ap (λ k. k ∷ knowns_of bytes is) (same_known bytes i x same)
known_set bytes (i ∷ is) (suc j) x d lt same = ap (λ ks. known_of bytes i ∷ ks) (known_set bytes is j x d (omega (arith, lt)) same)

pub alike_at : {R : Type 0} (bytes : R → Option (List ℕ)) (s : Columns) (is : List (Input R)) (j : ℕ) (d : Input R) → AreAlike s (knowns_of bytes is) → j < length is → columns_of (get_or is j d).evolving.value ≡ s
alike_at bytes s [] j d h lt = absurd (omega (arith, lt))
alike_at bytes s (i ∷ is) zero d h lt = h.0
alike_at bytes s (i ∷ is) (suc j) d h lt = alike_at bytes s is j d h.1 (omega (arith, lt))

pub told_at : {R : Type 0} (bytes : R → Option (List ℕ)) (is : List (Input R)) (contents : List (List Row)) (j : ℕ) (d : Input R) → AreTold (knowns_of bytes is) contents → j < length is → IsTold (known_of bytes (get_or is j d)) (get_or contents j [])
told_at bytes [] contents j d h lt = absurd (omega (arith, lt))
told_at bytes (i ∷ is) [] j d h lt = absurd h
told_at bytes (i ∷ is) (rows ∷ contents) zero d h lt = h.0
told_at bytes (i ∷ is) (rows ∷ contents) (suc j) d h lt = told_at bytes is contents j d h.1 (omega (arith, lt))

pub known_get : {R : Type 0} (bytes : R → Option (List ℕ)) (is : List (Input R)) (j : ℕ) (d : Input R) → j < length is → slice_get (knowns_of bytes is) j ≡ Some (known_of bytes (get_or is j d))
known_get bytes [] j d lt = absurd (omega (arith, lt))
known_get bytes (i ∷ is) zero d lt = refl
known_get bytes (i ∷ is) (suc j) d lt = known_get bytes is j d (omega (arith, lt))

-- ---- counts of faults

-- two results end alike: both are Ok, or both have this error
abbrev pub SameEnd : {T U E : Type 0} → Result T E → Result U E → Type 0
SameEnd (Ok v) (Ok w) = Unit {0}
SameEnd (Ok v) (Err f) = ⊥
SameEnd (Err e) (Ok w) = ⊥
SameEnd (Err e) (Err f) = e ≡ f

pub none_fell : (counts : List ℕ) → NoneFell counts counts
none_fell [] = tt
none_fell (n ∷ ns) = (omega arith, none_fell ns)

pub faults_later : {R : Type 0} (faults : R → ℕ) (is : List (Input R)) (j : ℕ) (x d : Input R) → j < length is → faults (reader_in (get_or is j d)) ≤ faults (reader_in x) → NoneFell (faults_of faults is) (faults_of faults (set is j x))
faults_later faults [] j x d lt le = tt
faults_later faults (i ∷ is) zero x d lt le = (le, none_fell (faults_of faults is))
faults_later faults (i ∷ is) (suc j) x d lt le = (omega arith, faults_later faults is j x d (omega (arith, lt)) le)

pub faults_rose : {R : Type 0} (faults : R → ℕ) (is : List (Input R)) (j : ℕ) (x d : Input R) → j < length is → Rose (faults (reader_in (get_or is j d))) (faults (reader_in x)) → SomeRose (faults_of faults is) (faults_of faults (set is j x))
faults_rose faults [] j x d lt rose = absurd (omega (arith, lt))
faults_rose faults (i ∷ is) zero x d lt rose = inl rose
faults_rose faults (i ∷ is) (suc j) x d lt rose = inr (faults_rose faults is j x d (omega (arith, lt)) rose)

pub faults_same : {R : Type 0} (faults : R → ℕ) (is : List (Input R)) (j : ℕ) (x d : Input R) → j < length is → faults (reader_in x) ≡ faults (reader_in (get_or is j d)) → faults_of faults (set is j x) ≡ faults_of faults is
faults_same faults [] j x d lt same = refl
faults_same faults (i ∷ is) zero x d lt same = ap (λ n. n ∷ faults_of faults is) same
faults_same faults (i ∷ is) (suc j) x d lt same = ap (λ ns. faults (reader_in i) ∷ ns) (faults_same faults is j x d (omega (arith, lt)) same)

-- ---- causes

-- the cause at one input is the cause at all
pub cause_at : {R T U : Type 0} (faults : R → ℕ) (is : List (Input R)) (j : ℕ) (x d : Input R) (r : Result T FileError) (q : Result U FileError) → j < length is
    → HasFaultCause (λ e. e ≡ Read) (faults (reader_in (get_or is j d))) (faults (reader_in x)) r → SameEnd r q → HaveFaultCause (λ e. e ≡ Read) (faults_of faults is) (faults_of faults (set is j x)) q
cause_at faults is j x d (Ok v) (Ok w) lt cause same = record {
  later = faults_later faults is j x d lt cause.later;
  failed = tt;
  quiet = faults_same faults is j x d lt cause.quiet;
  other = tt;
}
cause_at faults is j x d (Ok v) (Err e) lt cause same = absurd same
cause_at faults is j x d (Err e) (Ok w) lt cause same = absurd same
cause_at faults is j x d (Err e) (Err f) lt cause same = record {
  later = faults_later faults is j x d lt cause.later;
  failed = λ read. faults_rose faults is j x d lt (cause.failed (same ∙ read));
  quiet = tt;
  other = λ never. faults_same faults is j x d lt (cause.other (λ read. never (sym same ∙ read)));
}
