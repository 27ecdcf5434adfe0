-- A key's columns, one after the other, each with the terms on it.
use Rattle.std.proofs.Common.{◌≡◌, ℕ, zero, suc, ◌+◌, List, [], ◌∷◌, length, drop, Bool, true, false, refl, sym, ◌∙◌, ap, arith, Some, inl, inr}
use Rattle.std.specs.Prelude.{◌==◌, ◌&&◌, ◌||◌, nat_lt, slice_get}
use Rattle.std.specs.List.{list_all}
use Rattle.std.proofs.Math.Bool.{and-false}
use Rattle.std.proofs.lemmas.Bool.{cases_lt, eq-eqb, le-ltb, lt-ltb, ne_eqb}
use Rattle.mesa_fold.specs.mesa_key.declared.KeyType.{KeyType}
use Rattle.mesa_fold.specs.mesa_key.declared.KeyValue.{KeyValue}
use Rattle.mesa_fold.specs.mesa_key.Spelling.{key_of}
use Rattle.mesa_filter.specs.declared.terms.Term.{Term}
use Rattle.mesa_filter.specs.Filter.{KeyFilter, are_within, meets, meets_term, value_meets}
use Rattle.mesa_filter.specs.Walk.{all_meet, behind_first, column_meets, first_value}

-- a key meets a term of a column from this place on
abbrev from_place : ℕ → List KeyValue → Term → Bool
from_place place key term = nat_lt term.column place || meets_term key term

shifted : (a l r x : Bool) → (l && r) ≡ x → ((a && l) && r) ≡ (a && x)
shifted true l r x h = h
shifted false l r x h = refl

swapped : (m l r x : Bool) → (l && r) ≡ x → (l && (m && r)) ≡ (m && x)
swapped true l r x h = h
swapped false l r x h = and-false l

-- A column's terms and those of later columns are the terms from that column on.
joined : (place : ℕ) (value : KeyValue) (key : List KeyValue) (terms : List Term) → slice_get key place ≡ Some value
    → (column_meets place value terms && list_all (from_place (place + 1) key) terms) ≡ list_all (from_place place key) terms
joined place value key [] h = refl
joined place value key (term ∷ terms) h = elim (cases_lt term.column place) [
  | inl below ↦
      let off : (term.column == place) ≡ false = ne_eqb term.column place (λ e. omega arith) in
      let before : nat_lt term.column (place + 1) ≡ true = lt-ltb term.column (place + 1) (omega arith) in
      let first : nat_lt term.column place ≡ true = lt-ltb term.column place below in
      rw (off, before, first) (joined place value key terms h)
  | inr above ↦ elim (cases_lt place term.column) [
    | inl over ↦
        let off : (term.column == place) ≡ false = ne_eqb term.column place (λ e. omega arith) in
        let before : nat_lt term.column (place + 1) ≡ false = le-ltb term.column (place + 1) (omega arith) in
        let first : nat_lt term.column place ≡ false = le-ltb term.column place (omega arith) in
        rw (off, before, first) (swapped (meets_term key term) (column_meets place value terms) (list_all (from_place (place + 1) key) terms) (list_all (from_place place key) terms) (joined place value key terms h))
    | inr under ↦
        let at : term.column ≡ place = omega arith in
        let on : (term.column == place) ≡ true = eq-eqb term.column place at in
        let before : nat_lt term.column (place + 1) ≡ true = lt-ltb term.column (place + 1) (omega arith) in
        let first : nat_lt term.column place ≡ false = le-ltb term.column place (omega arith) in
        let there : slice_get key term.column ≡ Some value = ap (slice_get key) at ∙ h in
        rw (on, before, first, there) (shifted (value_meets (Some value) term) (column_meets place value terms) (list_all (from_place (place + 1) key) terms) (list_all (from_place place key) terms) (joined place value key terms h))
  ]
]

drop_slot : {X : Type 0} (xs : List X) (i : ℕ) (x : X) (others : List X) → drop i xs ≡ x ∷ others → (slice_get xs i ≡ Some x) × (drop (i + 1) xs ≡ others)
drop_slot [] zero x others e = cc
drop_slot [] (suc i) x others e = cc
drop_slot (y ∷ xs) zero x others e = let same : y ≡ x = cc in let rest : xs ≡ others = cc in (ap Some same, rest)
drop_slot (y ∷ xs) (suc i) x others e =
    let there = drop_slot xs i x others e in
    let next : suc i + 1 ≡ suc (i + 1) = omega arith in
    (there.0, ap (λ n. drop n (y ∷ xs)) next ∙ there.1)

-- terms of earlier columns alone
passed : (place : ℕ) (key : List KeyValue) (terms : List Term) → list_all (λ (term : Term). nat_lt term.column place) terms ≡ true → true ≡ list_all (from_place place key) terms
passed place key [] w = refl
passed place key (term ∷ terms) w =
    elim (nat_lt term.column place) as (λ t. (t && list_all (λ (x : Term). nat_lt x.column place) terms) ≡ true → true ≡ ((t || meets_term key term) && list_all (from_place place key) terms)) [
      | true ↦ λ h. passed place key terms h
      | false ↦ λ h. cc
    ] w

all_from : (kinds : List KeyType) (place n : ℕ) (terms : List Term) (bytes : List ℕ) (key : List KeyValue) → place + length kinds ≡ n → list_all (λ (term : Term). nat_lt term.column n) terms ≡ true → drop place key ≡ key_of kinds bytes
    → all_meet kinds place terms bytes ≡ list_all (from_place place key) terms
all_from [] place n terms bytes key e w k = let same : n ≡ place = omega (arith, e) in passed place key terms (ap (λ m. list_all (λ (term : Term). nat_lt term.column m) terms) (sym same) ∙ w)
all_from (kind ∷ kinds) place n terms bytes key e w k =
    let at = drop_slot key place (first_value kind bytes) (key_of kinds (behind_first kind bytes)) k in
    ap (λ t. column_meets place (first_value kind bytes) terms && t) (all_from kinds (place + 1) n terms (behind_first kind bytes) key (omega (arith, e)) w at.1)
    ∙ joined place (first_value kind bytes) key terms at.0

all_terms : (key : List KeyValue) (terms : List Term) → list_all (from_place 0 key) terms ≡ meets key terms
all_terms key [] = refl
all_terms key (term ∷ terms) = let none : nat_lt term.column 0 ≡ false = le-ltb term.column 0 (omega arith) in rw none (ap (λ t. meets_term key term && t) (all_terms key terms))

-- A key meets the filter where each of its columns meets its terms.
pub columns_meet : (kinds : List KeyType) (terms : List Term) (bytes : List ℕ) → are_within kinds terms ≡ true → all_meet kinds 0 terms bytes ≡ meets (key_of kinds bytes) terms
columns_meet kinds terms bytes w = all_from kinds 0 (length kinds) terms bytes (key_of kinds bytes) (omega arith) w refl ∙ all_terms (key_of kinds bytes) terms

-- The same of a filter, as code has it.
pub filter_meets : (f : KeyFilter) (kinds ks : List KeyType) (terms ts : List Term) (key : List ℕ) (r : Bool) → f ≡ record { kinds = kinds; terms = terms } → are_within kinds terms ≡ true → r ≡ all_meet ks 0 ts key → ks ≡ kinds → ts ≡ terms → r ≡ meets (key_of f.kinds key) f.terms
filter_meets f kinds ks terms ts key r e w a k t =
    a ∙ ap (λ xs. all_meet xs 0 ts key) k ∙ ap (λ xs. all_meet kinds 0 xs key) t ∙ columns_meet kinds terms key w ∙ ap (λ (g : KeyFilter). meets (key_of g.kinds key) g.terms) (sym e)
