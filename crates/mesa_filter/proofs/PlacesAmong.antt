-- Places among others.
use Rattle.std.proofs.Common.{◌≡◌, ℕ, zero, suc, ◌+◌, ◌<◌, ◌≤◌, List, [], ◌∷◌, length, map, Bool, true, false, cond, refl, sym, ◌∙◌, ap, arith, Option, Some, None}
use Rattle.std.specs.Prelude.{◌==◌, ◌||◌, ◌&&◌, not, nat_lt, position, slice_get}
use Rattle.std.specs.List.{AllByRecursion, cons_option, list_all, list_any, position_or_len}
use Rattle.std.proofs.lemmas.Bool.{eqb-true, lt-ltb, ltb-false, ltb-true}
use Rattle.mesa_list.proofs.Whole.{both}
use Rattle.mesa_fold.specs.mesa_key.declared.KeyType.{KeyType}
use Rattle.mesa_fold.specs.mesa_columns.Columns.{chosen}
use Rattle.mesa_filter.specs.declared.terms.Term.{Term}
use Rattle.mesa_filter.specs.Among.{Holds, place_among, term_among}
use Rattle.mesa_filter.specs.Filter.{KeyFilter, are_within}
use Rattle.mesa_filter.specs.Query.{BuiltQuery}

-- ---- the first place

among_first : (places : List ℕ) (place : ℕ) → place_among places place ≡ position_or_len (λ p. p == place) places
among_first [] place = refl
among_first (p ∷ places) place = elim (p == place) as (λ b. cond b zero (suc (place_among places place)) ≡ cond (not b) (1 + position_or_len (λ q. q == place) places) 0) [
  | true ↦ refl
  | false ↦ let same = among_first places place in omega (arith, same)
]

among_within : (places : List ℕ) (place : ℕ) → place_among places place ≤ length places
among_within [] place = omega arith
among_within (p ∷ places) place = elim (p == place) as (λ b. cond b zero (suc (place_among places place)) ≤ length (p ∷ places)) [
  | true ↦ omega arith
  | false ↦ let less = among_within places place in omega (arith, less)
]

some_of : (b : Bool) (n at : ℕ) → cond b (Some n) None ≡ Some at → n ≡ at
some_of true n at h = cc
some_of false n at h = cc

none_of : (b : Bool) (n : ℕ) → cond b (Some n) None ≡ None → b ≡ false
none_of true n h = cc
none_of false n h = refl

pub among_some : (places : List ℕ) (place at : ℕ) → position (λ p. p == place) places ≡ Some at → at ≡ place_among places place
among_some places place at h =
    let n : ℕ = position_or_len (λ p. p == place) places in
    sym (among_first places place ∙ some_of (nat_lt n (length places)) n at h)

pub among_none : (places : List ℕ) (place : ℕ) → position (λ p. p == place) places ≡ None → length places ≡ place_among places place
among_none places place h =
    let n : ℕ = position_or_len (λ p. p == place) places in
    let past : length places ≤ n = ltb-false n (length places) (none_of (nat_lt n (length places)) n h) in
    let same : place_among places place ≡ n = among_first places place in
    omega (arith, past, same, among_within places place)

-- ---- what stands there

pub slot : {X : Type 0} (xs : List X) (p : ℕ) → p < length xs → (x : X) × (slice_get xs p ≡ Some x)
slot [] p lt = absurd (omega (arith, lt))
slot (x ∷ xs) zero lt = (x, refl)
slot (x ∷ xs) (suc p) lt = slot xs p (omega (arith, lt))

-- what stands among the chosen at a place's place is what stands at the place
pub slot_among : {X : Type 0} (places : List ℕ) (xs : List X) (place : ℕ) → list_all (λ p. nat_lt p (length xs)) places ≡ true → Holds places place → slice_get (chosen places xs) (place_among places place) ≡ slice_get xs place
slot_among [] xs place all holds = cc
slot_among {X = X} (p ∷ places) xs place all holds =
    let parts = both (nat_lt p (length xs)) (list_all (λ q. nat_lt q (length xs)) places) all in
    let here = slot xs p (ltb-true p (length xs) parts.0) in
    let one : chosen (p ∷ places) xs ≡ here.0 ∷ chosen places xs = ap (λ (o : Option X). cons_option o (chosen places xs)) here.1 in
    ap (λ ys. slice_get ys (place_among (p ∷ places) place)) one ∙ elim (p == place) as (λ b. (p == place) ≡ b → (b || list_any (λ q. q == place) places) ≡ true → slice_get (here.0 ∷ chosen places xs) (cond b zero (suc (place_among places place))) ≡ slice_get xs place) [
      | true ↦ λ e h. let same : p ≡ place = eqb-true p place e in sym here.1 ∙ ap (slice_get xs) same
      | false ↦ λ e h. slot_among places xs place parts.1 h
    ] refl holds

pub chosen_among : {X : Type 0} (places asked : List ℕ) (xs : List X) → list_all (λ p. nat_lt p (length xs)) places ≡ true → AllByRecursion (Holds places) asked → chosen (map (place_among places) asked) (chosen places xs) ≡ chosen asked xs
chosen_among places [] xs all holds = refl
chosen_among places (place ∷ asked) xs all holds = λ i. cons_option (slot_among places xs place all holds.0 i) (chosen_among places asked xs all holds.1 i)

-- a place that is among places of a list is one of it
pub held_within : (n : ℕ) (places : List ℕ) (place : ℕ) → list_all (λ p. nat_lt p n) places ≡ true → Holds places place → place < n
held_within n [] place all holds = cc
held_within n (p ∷ places) place all holds =
    let parts = both (nat_lt p n) (list_all (λ q. nat_lt q n) places) all in
    elim (p == place) as (λ b. (p == place) ≡ b → (b || list_any (λ q. q == place) places) ≡ true → place < n) [
      | true ↦ λ e h. let same : p ≡ place = eqb-true p place e in let less : p < n = ltb-true p n parts.0 in omega (arith, same, less)
      | false ↦ λ e h. held_within n places place parts.1 h
    ] refl holds

-- ---- filters

pub there_within : {X : Type 0} (xs : List X) (i : ℕ) (x : X) → slice_get xs i ≡ Some x → i < length xs
there_within [] i x h = absurd cc
there_within (y ∷ xs) zero x h = omega arith
there_within (y ∷ xs) (suc i) x h = let rest = there_within xs i x h in omega (arith, rest)

-- places that are asked are places among the chosen
pub moved_places : {X : Type 0} (places asked : List ℕ) (xs : List X) → list_all (λ p. nat_lt p (length xs)) places ≡ true → AllByRecursion (Holds places) asked
    → list_all (λ p. nat_lt p (length (chosen places xs))) (map (place_among places) asked) ≡ true
moved_places places [] xs all holds = refl
moved_places places (place ∷ asked) xs all holds =
    let here = slot xs place (held_within (length xs) places place all holds.0) in
    let at = place_among places place in
    let one : nat_lt at (length (chosen places xs)) ≡ true = lt-ltb at (length (chosen places xs)) (there_within (chosen places xs) at here.0 (slot_among places xs place all holds.0 ∙ here.1)) in
    λ i. one i && moved_places places asked xs all holds.1 i

-- terms whose columns are among these are terms of keys that have these columns
pub moved_within : (keys : List ℕ) (kinds : List KeyType) (terms : List Term) → list_all (λ p. nat_lt p (length kinds)) keys ≡ true → AllByRecursion (λ (t : Term). Holds keys t.column) terms → are_within kinds terms ≡ true
    → are_within (chosen keys kinds) (map (term_among keys) terms) ≡ true
moved_within keys kinds [] all holds within = refl
moved_within keys kinds (term ∷ terms) all holds within =
    let parts = both (nat_lt term.column (length kinds)) (are_within kinds terms) within in
    let here = slot kinds term.column (ltb-true term.column (length kinds) parts.0) in
    let at = place_among keys term.column in
    let there : slice_get (chosen keys kinds) at ≡ Some here.0 = slot_among keys kinds term.column all holds.0 ∙ here.1 in
    let one : nat_lt at (length (chosen keys kinds)) ≡ true = lt-ltb at (length (chosen keys kinds)) (there_within (chosen keys kinds) at here.0 there) in
    λ i. one i && moved_within keys kinds terms all holds.1 parts.1 i

-- the same filter, from what a filter's parts are and what was made of them
pub filter_moved : (f : KeyFilter) (keys : List ℕ) (kinds seen some : List KeyType) (terms read moved : List Term) → list_all (λ p. nat_lt p (length f.kinds)) keys ≡ true → AllByRecursion (λ (t : Term). Holds keys t.column) f.terms
    → record { kinds = kinds; terms = terms } ≡ f → are_within kinds terms ≡ true → seen ≡ f.kinds → some ≡ chosen keys seen → read ≡ terms → moved ≡ map (term_among keys) read → are_within some moved ≡ true
filter_moved f keys kinds seen some terms read moved all holds view within see choose look move =
    let fs : f.kinds ≡ kinds = ap (λ (g : KeyFilter). g.kinds) (sym view) in
    let ft : f.terms ≡ terms = ap (λ (g : KeyFilter). g.terms) (sym view) in
    let inside : are_within f.kinds f.terms ≡ true = (λ i. are_within (fs i) (ft i)) ∙ within in
    let ks : some ≡ chosen keys f.kinds = choose ∙ ap (chosen keys) see in
    let ts : moved ≡ map (term_among keys) f.terms = move ∙ ap (map (term_among keys)) (look ∙ sym ft) in
    (λ i. are_within (ks i) (ts i)) ∙ moved_within keys f.kinds f.terms all holds inside

-- ---- queries

-- the group columns' types stay
pub groups_stay : (q : BuiltQuery) (keys asked columns moved : List ℕ) (kinds some group copied : List KeyType) → list_all (λ p. nat_lt p (length q.kinds)) keys ≡ true → AllByRecursion (Holds keys) q.asked.columns
    → q.kinds ≡ kinds → q.asked.columns ≡ columns → group ≡ chosen columns kinds → copied ≡ group → asked ≡ q.asked.columns → moved ≡ map (place_among keys) asked → some ≡ chosen keys kinds → copied ≡ chosen moved some
groups_stay q keys asked columns moved kinds some group copied all holds ks cs was copy look move choose =
    let columns_moved : moved ≡ map (place_among keys) q.asked.columns = move ∙ ap (map (place_among keys)) look in
    let kinds_moved : some ≡ chosen keys q.kinds = choose ∙ ap (chosen keys) (sym ks) in
    copy ∙ was ∙ (λ i. chosen (sym cs i) (sym ks i)) ∙ sym (chosen_among keys q.asked.columns q.kinds all holds) ∙ (λ i. chosen (sym columns_moved i) (sym kinds_moved i))
