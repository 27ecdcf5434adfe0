-- What it means that a field is read again from its spelling, and that what is read was spelled so.
use Rattle.std.proofs.Common.{◌≡◌, ℕ, zero, suc, ◌+◌, ◌<◌, List, [], ◌∷◌, ◌++◌, length, get_or, refl, sym, ap, subst, ◌∙◌, append_assoc, Result, Ok, Err}
use Rattle.std.specs.Prelude.{flat_map, take, drop}
use Rattle.std.specs.List.{AllByRecursion}
use Rattle.std.proofs.lemmas.List.Concat.{flat_map-cons}
use Rattle.mesa_columns.specs.mesa_list.Checks.{◌>>=◌}
use Rattle.mesa_file.proofs.mesa_list.Whole.{are_bytes, each_cut}
pub use Rattle.mesa_file.proofs.mesa_list.Whole.{IsByte, all_bytes}
use Rattle.mesa_record_fields.specs.Reading.{Left, Read, rising}

-- what is left at a place
abbrev pub here : ℕ → List ℕ → Left
here at bytes = record { at = at; bytes = bytes }

-- The bytes are read as x, whatever follows them.
abbrev pub Again : {A : Type 0} → (Left → Read A) → List ℕ → A → Type 0
Again read bytes x = (at : ℕ) (more : List ℕ) → (to : ℕ) × (read (here at (bytes ++ more)) ≡ Ok (x, here to more))

abbrev pub Bytes : List ℕ → Type 0
Bytes bytes = AllByRecursion IsByte bytes

-- What is left begins with these bytes, with what is left after them.
pub record Begins (l : Left) (bytes : List ℕ) (after : Left) : Type 0 where
  pub split : l.bytes ≡ bytes ++ after.bytes
  pub rest : Bytes after.bytes

-- What was read was spelled so, and is a thing of this sort.
abbrev pub Found : {A : Type 0} → (Left → Read A) → (A → List ℕ) → (A → Type 0) → Type 0
Found {A = A} read spell Is = (l after : Left) (x : A) → Bytes l.bytes → read l ≡ Ok (x, after) → Is x × Begins l (spell x) after

-- ---- bytes

pub byte_in : (bytes : List ℕ) → Bytes bytes → (i : ℕ) → get_or bytes i 0 < 256
byte_in = are_bytes

pub taken : (n : ℕ) (bytes : List ℕ) → Bytes bytes → Bytes (take n bytes) × Bytes (drop n bytes)
taken = each_cut IsByte

-- ---- one after the other

-- the outcome of a step that succeeded
pub step_of : {A B E : Type 0} (read : Result A E) (next : A → Result B E) (y : B) → (read >>= next) ≡ Ok y → (x : A) × (read ≡ Ok x) × (next x ≡ Ok y)
step_of (Ok x) next y h = (x, refl, h)
step_of (Err e) next y h = absurd cc

-- what succeeded with the same
pub of_ok : {A E : Type 0} (r : Result A E) (x y : A) → r ≡ Ok x → r ≡ Ok y → x ≡ y
of_ok r x y one two = cc

-- the same, where it was computed
pub ok_is : {A E : Type 0} (x y : A) → ◌≡◌ {A = Result A E} (Ok x) (Ok y) → x ≡ y
ok_is x y h = cc

pub begins_two : (l mid after : Left) (a b : List ℕ) → Begins l a mid → Begins mid b after → Begins l (a ++ b) after
begins_two l mid after a b one two = record {
  split = one.split ∙ ap (λ rest. a ++ rest) two.split ∙ sym (append_assoc a b after.bytes);
  rest = two.rest;
}

-- ---- lists

-- each of the fields is allowed behind the one before
abbrev pub InOrder : {A : Type 0} → (ℕ → A → Type 0) → (A → ℕ) → ℕ → List A → Type 0
InOrder Allowed number least [] = Unit {0}
InOrder Allowed number least (x ∷ xs) = Allowed least x × InOrder Allowed number (number x + 1) xs

pub list_again : {A : Type 0} (number : A → ℕ) (read : ℕ → Left → Read A) (spell : A → List ℕ) (Allowed : ℕ → A → Type 0)
    → ((least : ℕ) (x : A) → Allowed least x → Again (read least) (spell x) x)
    → (least : ℕ) (xs : List A) → InOrder Allowed number least xs → Again (rising number read least (length xs)) (flat_map spell xs) xs
unfolding rising
list_again number read spell Allowed each least [] all at more = (at, refl)
list_again {A = A} number read spell Allowed each least (x ∷ xs) all at more =
    let one = each least x all.0 at (flat_map spell xs ++ more) in
    let rest = list_again number read spell Allowed each (number x + 1) xs all.1 one.0 more in
    (rest.0, ap (λ bytes. rising number read least (length (x ∷ xs)) (here at bytes)) (ap (λ l. l ++ more) (flat_map-cons spell x xs) ∙ append_assoc (spell x) (flat_map spell xs) more) ∙ rw (one.1, rest.1) refl)

pub record FoundList {A : Type 0} (spell : A → List ℕ) (Allowed : ℕ → A → Type 0) (number : A → ℕ) (least n : ℕ) (l : Left) (xs : List A) (after : Left) : Type 0 where
  pub order : InOrder Allowed number least xs
  pub count : length xs ≡ n
  pub begins : Begins l (flat_map spell xs) after

pub list_found : {A : Type 0} (number : A → ℕ) (read : ℕ → Left → Read A) (spell : A → List ℕ) (Allowed : ℕ → A → Type 0)
    → ((least : ℕ) → Found (read least) spell (Allowed least))
    → (least n : ℕ) (l after : Left) (xs : List A) → Bytes l.bytes → rising number read least n l ≡ Ok (xs, after) → FoundList spell Allowed number least n l xs after
unfolding rising
list_found {A = A} number read spell Allowed each least zero l after xs bytes h =
    subst (λ (p : List A × Left). FoundList spell Allowed number least zero l p.0 p.1)
    (of_ok (rising number read least zero l) ([], l) (xs, after) refl h)
    (record { order = tt; count = refl; begins = record { split = refl; rest = bytes } })
list_found {A = A} number read spell Allowed each least (suc n) l after xs bytes h =
    let one = step_of (read least l) _ _ h in
    let first = each least l one.0.1 one.0.0 bytes one.1 in
    let two = step_of (rising number read (number one.0.0 + 1) n one.0.1) _ _ one.2 in
    let rest = list_found number read spell Allowed each (number one.0.0 + 1) n one.0.1 two.0.1 two.0.0 first.1.rest two.1 in
    subst (λ (p : List A × Left). FoundList spell Allowed number least (suc n) l p.0 p.1)
    (of_ok _ (one.0.0 ∷ two.0.0, two.0.1) (xs, after) refl two.2)
    (record {
      order = (first.0, rest.order);
      count = ap suc rest.count;
      begins = rw flat_map-cons (begins_two l one.0.1 two.0.1 (spell one.0.0) (flat_map spell two.0.0) first.1 rest.begins);
    })
