-- Keys that are taken one by one, and the input that has the most blocks.
use Rattle.std.proofs.Common.{◌≡◌, inl, inr, ℕ, ◌+◌, ◌-◌, ◌*◌, ◌<◌, ◌≤◌, ◌⊎◌, List, [], ◌∷◌, ◌++◌, length, map, take, get_or, min, refl, sym, ap, subst, ◌∙◌, arith, Bool, true, false, add-one, Bor}
use Rattle.std.proofs.Math.Nat.{mul-le-mul_right}
use Rattle.std.proofs.Math.Seq.{take-suc}
use Rattle.std.proofs.lemmas.List.{map-append}
use Rattle.std.proofs.lemmas.List.Elements.{Contains-append_left, Contains-push}
use Rattle.std.proofs.lemmas.List.FromFn.{length-map-range_with_len, map-range_with_len_more}
use Rattle.std.specs.Prelude.{Option, None, Some, IfNone, IfSome, slice_get, if◌then◌else◌}
use Rattle.std.specs.List.{AllByRecursion, Contains, range_with_len}
use Rattle.mesa_compact.specs.mesa_scan.Cut.{CutsRise, IsLow}
use Rattle.mesa_merge.proofs.mesa_scan.Cutting.{is_less}
use Rattle.mesa_compact.specs.mesa_delta_format.Indexed.{Indexed}
use Rattle.mesa_compact.specs.mesa_delta_format.Places.{shorts_of}
use Rattle.mesa_delta.specs.Reading.{index_of}
use Rattle.mesa_delta.specs.declared.input.Input.{Input}
use Rattle.mesa_split.specs.Sampling.{AreCutsOf, ArePieceCuts, AreRounds, HasMost, end_of, indexes_of, lies_above, part_key, risen, spread, with_key}

cons_if : (b : Bool) (k : List ℕ) (xs ys : List (List ℕ)) → (k ∷ (if b then xs else ys)) ≡ (if b then k ∷ xs else k ∷ ys)
cons_if true k xs ys = refl
cons_if false k xs ys = refl

-- one key more
pub risen_more : (low : Option (List ℕ)) (keys : List (List ℕ)) (key : List ℕ) → risen low (keys ++ key ∷ []) ≡ with_key low (risen low keys) key
risen_more low [] key = refl
risen_more low (k ∷ keys) key = elim (lies_above low k) as (λ b. (if b then k ∷ risen (Some k) (keys ++ key ∷ []) else risen low (keys ++ key ∷ [])) ≡ with_key low (if b then k ∷ risen (Some k) keys else risen low keys) key) [
  | true ↦ ap (λ l. k ∷ l) (risen_more (Some k) keys key) ∙ cons_if (lies_above (end_of (Some k) (risen (Some k) keys)) key) k (risen (Some k) keys ++ key ∷ []) (risen (Some k) keys)
  | false ↦ risen_more low keys key
]

is_low : (low : Option (List ℕ)) (key : List ℕ) → lies_above low key ≡ true → IsLow low key
is_low None key e = tt
is_low (Some low) key e = is_less low key e

-- they rise
pub risen_rise : (low : Option (List ℕ)) (keys : List (List ℕ)) → CutsRise low (risen low keys)
risen_rise low [] = tt
risen_rise low (k ∷ keys) = elim (lies_above low k) as (λ b. lies_above low k ≡ b → CutsRise low (if b then k ∷ risen (Some k) keys else risen low keys)) [
  | true ↦ λ e. (is_low low k e, risen_rise (Some k) keys)
  | false ↦ λ e. risen_rise low keys
] refl

-- and are no more than all
pub risen_few : (low : Option (List ℕ)) (keys : List (List ℕ)) → length (risen low keys) ≤ length keys
risen_few low [] = omega arith
risen_few low (k ∷ keys) = elim (lies_above low k) as (λ b. length (if b then k ∷ risen (Some k) keys else risen low keys) ≤ length (k ∷ keys)) [
  | true ↦ omega (arith, risen_few (Some k) keys)
  | false ↦ omega (arith, risen_few low keys)
]

-- the last of keys, by its place
end_last : (k : List ℕ) (ks : List (List ℕ)) → end_of (Some k) ks ≡ slice_get (k ∷ ks) (length ks)
end_last k [] = refl
end_last k (l ∷ ks) = end_last l ks

pub end_is : (keys : List (List ℕ)) → end_of None keys ≡ slice_get keys (length keys - 1)
end_is [] = refl
end_is (k ∷ ks) = let e : length ks ≡ length (k ∷ ks) - 1 = omega arith in end_last k ks ∙ ap (slice_get (k ∷ ks)) e

-- ---- cuts of an index

-- the keys with which the parts before this one begin
abbrev pub spread_to : ℕ → List (List ℕ) → ℕ → List (List ℕ)
spread_to parts shorts part = map (part_key parts shorts) (range_with_len 1 (part - 1))

pub spread_more : (parts : ℕ) (shorts : List (List ℕ)) (part : ℕ) → 1 ≤ part → spread_to parts shorts (part + 1) ≡ spread_to parts shorts part ++ part_key parts shorts part ∷ []
spread_more parts shorts part le =
    let e : part + 1 - 1 ≡ part - 1 + 1 = omega (arith, le) in
    let at : 1 + (part - 1) ≡ part = omega (arith, le) in
    ap (λ n. map (part_key parts shorts) (range_with_len 1 n)) e ∙ map-range_with_len_more (part_key parts shorts) 1 (part - 1) part at

-- the cuts with the key of one part more
pub cut_more : (parts : ℕ) (shorts cuts new : List (List ℕ)) (part : ℕ) (key : List ℕ) → 1 ≤ part → cuts ≡ risen None (spread_to parts shorts part) → key ≡ part_key parts shorts part → new ≡ with_key None cuts key
    → new ≡ risen None (spread_to parts shorts (part + 1))
cut_more parts shorts cuts new part key le before is put =
    put ∙ (λ i. with_key None (before i) (is i)) ∙ sym (risen_more None (spread_to parts shorts part) (part_key parts shorts part)) ∙ ap (risen None) (sym (spread_more parts shorts part le))

-- ---- the input with the most blocks

all_more : (n : ℕ) (m : ℕ) (xs : List Indexed) → n ≤ m → AllByRecursion (λ (x : Indexed). length x.entries ≤ n) xs → AllByRecursion (λ (x : Indexed). length x.entries ≤ m) xs
all_more n m [] le all = tt
all_more n m (x ∷ xs) le all = (omega (arith, le, all.0), all_more n m xs le all.1)

all_one : (n : ℕ) (xs : List Indexed) (y : Indexed) → AllByRecursion (λ (x : Indexed). length x.entries ≤ n) xs → length y.entries ≤ n → AllByRecursion (λ (x : Indexed). length x.entries ≤ n) (xs ++ y ∷ [])
all_one n [] y all le = (le, tt)
all_one n (x ∷ xs) y all le = (all.0, all_one n xs y all.1 le)

-- the one with more blocks of those so far and one more
most_more : (xs : List Indexed) (o y r : Indexed) → HasMost xs o → (r ≡ y) ⊎ (r ≡ o) → length y.entries ≤ length r.entries → length o.entries ≤ length r.entries → HasMost (xs ++ y ∷ []) r
most_more xs o y r h (inl is) new old = record {
  one = subst (Contains (xs ++ y ∷ [])) (sym is) (Contains-push xs y);
  most = all_one (length r.entries) xs y (all_more (length o.entries) (length r.entries) xs old h.most) new;
}
most_more xs o y r h (inr is) new old = record {
  one = subst (Contains (xs ++ y ∷ [])) (sym is) (Contains-append_left xs (y ∷ []) o h.one);
  most = all_one (length r.entries) xs y (all_more (length o.entries) (length r.entries) xs old h.most) new;
}

most_first : (y r : Indexed) → r ≡ y → HasMost (y ∷ []) r
most_first y r is = subst (HasMost (y ∷ [])) (sym is) (record { one = Contains-push [] y; most = (omega arith, tt) })

-- What is found so far has the most blocks of the inputs so far; nothing is found where there are none.
pub record Longest (xs : List Indexed) (most : Option (Bor Indexed)) : Type 0 where
  pub none : IfNone most (xs ≡ [])
  pub some : IfSome most (λ (o : Bor Indexed). HasMost xs o.now)

pub most_step : (xs : List Indexed) (most : Option (Bor Indexed)) (y r : Indexed) → Longest xs most → IfNone most (r ≡ y) → IfSome most (λ (o : Bor Indexed). (r ≡ y) ⊎ (r ≡ o.now))
    → IfSome most (λ (o : Bor Indexed). (length y.entries ≤ length r.entries) × (length o.now.entries ≤ length r.entries)) → HasMost (xs ++ y ∷ []) r
most_step xs None y r h alone one most = subst (λ l. HasMost (l ++ y ∷ []) r) (sym h.none) (most_first y r alone)
most_step xs (Some o) y r h alone one most = most_more xs o.now y r h.some one most.0 most.1

pub index_more : {R : Type 0} (inputs : List (Input R)) (i : ℕ) (input : Input R) → i < length inputs → input ≡ get_or inputs i input → indexes_of (take (i + 1) inputs) ≡ indexes_of (take i inputs) ++ index_of input.reader ∷ []
index_more {R = R} inputs i input lt is = rw add-one (
    ap (indexes_of {R = R}) (take-suc inputs i input lt)
    ∙ map-append (λ (x : Input R). index_of x.reader) (take i inputs) (get_or inputs i input ∷ [])
    ∙ ap (λ (x : Input R). indexes_of (take i inputs) ++ index_of x.reader ∷ []) (sym is))

-- the cuts by that input
pub cuts_some : (xs : List Indexed) (index : Indexed) (parts : ℕ) (cuts : List (List ℕ)) → HasMost xs index → cuts ≡ risen None (spread parts (shorts_of index.entries)) → AreCutsOf xs parts cuts
cuts_some [] index parts cuts h is = absurd (omega (arith, h.one.1))
cuts_some (x ∷ xs) index parts cuts h is = (index, h, is)

pub cuts_none : (xs : List Indexed) (parts : ℕ) (cuts : List (List ℕ)) → xs ≡ [] → cuts ≡ [] → AreCutsOf xs parts cuts
cuts_none xs parts cuts none is = subst (λ l. AreCutsOf l parts cuts) (sym none) is

pub cuts_few : (parts : ℕ) (shorts cuts : List (List ℕ)) → cuts ≡ risen None (spread parts shorts) → length cuts ≤ parts - 1
cuts_few parts shorts cuts is = subst (λ l. length l ≤ parts - 1) (sym is) (subst (λ n. length (risen None (spread parts shorts)) ≤ n) (length-map-range_with_len (part_key parts shorts) 1 (parts - 1)) (risen_few None (spread parts shorts)))

pub cuts_rise : (parts : ℕ) (shorts cuts : List (List ℕ)) → cuts ≡ risen None (spread parts shorts) → CutsRise None cuts
cuts_rise parts shorts cuts is = subst (CutsRise None) (sym is) (risen_rise None (spread parts shorts))

-- ---- cuts of pieces

-- rounds of one part more than there are cuts
rounds_are : (parts pieces cuts : ℕ) → AreRounds parts pieces → 0 < pieces → pieces < 4294967296 → parts ≡ min (cuts + 1) 18446744073709551615 → (rounds : ℕ) × (2 ≤ rounds) × (pieces ≡ rounds * (cuts + 1))
rounds_are parts pieces cuts (inl none) some fits is = absurd (omega (arith, none, some))
rounds_are parts pieces cuts (inr h) some fits is =
    let more : 2 * parts ≤ pieces = subst (λ n. 2 * parts ≤ n) (sym h.2) (mul-le-mul_right parts h.1) in
    let all : parts ≡ cuts + 1 = omega (arith, more, fits, is) in
    (h.0, h.1, h.2 ∙ ap (λ n. h.0 * n) all)

pub cuts_finer : (xs : List Indexed) (index : Indexed) (parts pieces : ℕ) (cuts finer : List (List ℕ)) → AreRounds parts pieces → 0 < pieces → pieces < 4294967296 → parts ≡ min (length cuts + 1) 18446744073709551615 → HasMost xs index → finer ≡ risen None (spread pieces (shorts_of index.entries)) → ArePieceCuts xs cuts finer
cuts_finer xs index parts pieces cuts finer h some fits is most are =
    let rounds = rounds_are parts pieces (length cuts) h some fits is in
    inr (rounds.0, rounds.1, subst (λ n. AreCutsOf xs n finer) rounds.2 (cuts_some xs index pieces finer most are))
