-- Trees of matches.
use Rattle.std.proofs.Common.{◌≡◌, ◌≢◌, ◌⊎◌, inl, inr, ℕ, zero, suc, ◌+◌, ◌*◌, ◌-◌, ◌/◌, ◌<◌, ◌≤◌, List, [], ◌∷◌, refl, sym, ◌∙◌, ap, subst, length, get_or, set, arith, get_or-set_other, get_or-set_same}
use Rattle.std.proofs.lemmas.List.{length-set}
use Rattle.mesa_scan.specs.mesa_columns.declared.rows.Row.{Row}
use Rattle.mesa_merge.specs.Hands.{ComesBefore, IsBefore, IsLeastAt}
use Rattle.mesa_merge.specs.Matches.{AreWinners, AreWon, above}
use Rattle.mesa_merge.proofs.Orders.{before_ahead, before_along, before_from, before_none, before_nothing, itself_before}

-- one step more above a place
above_step : (steps place : ℕ) → above (suc steps) place ≡ above steps place / 2
above_step zero place = refl
above_step (suc steps) place = above_step steps (place / 2)

pub same_or_not : (a b : ℕ) → (a ≡ b) ⊎ (a ≢ b)
same_or_not zero zero = inl refl
same_or_not zero (suc b) = inr (λ e. cc)
same_or_not (suc a) zero = inr (λ e. cc)
same_or_not (suc a) (suc b) = elim (same_or_not a b) [ inl e ↦ inl (ap suc e) | inr ne ↦ inr (λ e. ne (omega (arith, e))) ]

-- the two places below a match
two_below : (place match : ℕ) → place / 2 ≡ match → (place ≡ 2 * match) ⊎ (place ≡ 2 * match + 1)
two_below place match e = elim (same_or_not place (2 * match)) [
  | inl same ↦ inl same
  | inr ne ↦ inr (omega (arith, e, ne))
]

changed : (winners : List ℕ) (at value place : ℕ) → place ≢ at → get_or (set winners at value) place 0 ≡ get_or winners place 0
changed winners at value place ne = get_or-set_other winners at place value 0 ne

-- ---- the first tree

-- Places from this one on have inputs that are below them.
pub record AreWinnersFrom (from n : ℕ) (winners : List ℕ) : Type 0 where
  pub count : length winners ≡ n + n
  pub within : (place : ℕ) → from ≤ place → 1 ≤ place → place < n + n → get_or winners place 0 < n
  pub below : (place : ℕ) → from ≤ place → 1 ≤ place → place < n + n → (steps : ℕ) × (above steps (n + get_or winners place 0) ≡ place)
  pub leaves : (j : ℕ) → j < n → from ≤ n + j → get_or winners (n + j) 0 ≡ j

-- an input's place, and those behind it
pub winners_leaf : (n at : ℕ) (winners : List ℕ) → AreWinnersFrom (at + 1) n winners → n ≤ at → at < n + n → AreWinnersFrom at n (set winners at (at - n))
winners_leaf n at winners p le lt =
    let within : at < length winners = omega (arith, p.count, lt) in
    let here : get_or (set winners at (at - n)) at 0 ≡ at - n = get_or-set_same winners at (at - n) 0 within in
    record {
      count = length-set winners at (at - n) ∙ p.count;
      within = λ place from some high. elim (same_or_not place at) [
        | inl same ↦ subst (λ k. get_or (set winners at (at - n)) k 0 < n) (sym same) (rw here (omega (arith, le, lt)))
        | inr ne ↦ rw (changed winners at (at - n) place ne) (p.within place (omega (arith, from, ne)) some high)
      ];
      below = λ place from some high. elim (same_or_not place at) [
        | inl same ↦ (0, ap (λ k. n + get_or (set winners at (at - n)) k 0) same ∙ ap (λ k. n + k) here ∙ omega (arith, le, same))
        | inr ne ↦ let b = p.below place (omega (arith, from, ne)) some high in (b.0, ap (λ k. above b.0 (n + k)) (changed winners at (at - n) place ne) ∙ b.1)
      ];
      leaves = λ j low from. elim (same_or_not (n + j) at) [
        | inl same ↦ ap (λ k. get_or (set winners at (at - n)) k 0) same ∙ here ∙ omega (arith, same)
        | inr ne ↦ changed winners at (at - n) (n + j) ne ∙ p.leaves j low (omega (arith, from, ne))
      ];
    }

-- a match, and those behind it
pub winners_match : (n at : ℕ) (winners : List ℕ) → AreWinnersFrom (at + 1) n winners → 1 ≤ at → at < n → AreWinnersFrom at n (set winners at (get_or winners (2 * at) 0))
winners_match n at winners p some lt =
    let value : ℕ = get_or winners (2 * at) 0 in
    let within : at < length winners = omega (arith, p.count, lt) in
    let here : get_or (set winners at value) at 0 ≡ value = get_or-set_same winners at value 0 within in
    let low : at + 1 ≤ 2 * at = omega (arith, some) in
    let positive : 1 ≤ 2 * at = omega (arith, some) in
    let high : 2 * at < n + n = omega (arith, lt) in
    let under = p.below (2 * at) low positive high in
    record {
      count = length-set winners at value ∙ p.count;
      within = λ place from one most. elim (same_or_not place at) [
        | inl same ↦ subst (λ k. get_or (set winners at value) k 0 < n) (sym same) (rw here (p.within (2 * at) low positive high))
        | inr ne ↦ rw (changed winners at value place ne) (p.within place (omega (arith, from, ne)) one most)
      ];
      below = λ place from one most. elim (same_or_not place at) [
        | inl same ↦
            let half : (2 * at) / 2 ≡ at = omega arith in
            (suc under.0, ap (λ k. above (suc under.0) (n + get_or (set winners at value) k 0)) same ∙ ap (λ k. above (suc under.0) (n + k)) here ∙ above_step under.0 (n + value) ∙ ap (λ k. k / 2) under.1 ∙ half ∙ sym same)
        | inr ne ↦ let b = p.below place (omega (arith, from, ne)) one most in (b.0, ap (λ k. above b.0 (n + k)) (changed winners at value place ne) ∙ b.1)
      ];
      leaves = λ j few from. let ne : n + j ≢ at = omega (arith, lt) in changed winners at value (n + j) ne ∙ p.leaves j few (omega (arith, lt));
    }

pub winners_all : (n from : ℕ) (winners : List ℕ) → AreWinnersFrom from n winners → from ≤ 1 → AreWinners n winners
winners_all n from winners p le = record {
  count = p.count;
  within = λ place some high. p.within place (omega (arith, le, some)) some high;
  below = λ place some high. p.below place (omega (arith, le, some)) some high;
  leaves = λ j lt. p.leaves j lt (omega (arith, le, lt));
}

-- ---- a match that is played again

-- All matches were won but those above a place.
pub record IsWonBelow (hands : List (List Row)) (place : ℕ) (winners : List ℕ) : Type 0 where
  pub inputs : AreWinners (length hands) winners
  pub some : 1 ≤ place
  pub within : place < length hands + length hands
  pub won : (below : ℕ) → 2 ≤ below → below < length hands + length hands → ((steps : ℕ) → above steps (place / 2) ≡ below / 2 → ⊥) → IsBefore hands (get_or winners (below / 2) 0) (get_or winners below 0)

-- the winner of a match is one of the inputs below it
match_winners : (n match first : ℕ) (winners : List ℕ) → AreWinners n winners → 1 ≤ match → match < n
    → ((first ≡ get_or winners (2 * match) 0) ⊎ (first ≡ get_or winners (2 * match + 1) 0)) → AreWinners n (set winners match first)
match_winners n match first winners p some lt one =
    let within : match < length winners = omega (arith, p.count, lt) in
    let here : get_or (set winners match first) match 0 ≡ first = get_or-set_same winners match first 0 within in
    let left_some : 1 ≤ 2 * match = omega (arith, some) in
    let left_high : 2 * match < n + n = omega (arith, lt) in
    let right_some : 1 ≤ 2 * match + 1 = omega arith in
    let right_high : 2 * match + 1 < n + n = omega (arith, lt) in
    let few : first < n = elim one [
      | inl e ↦ rw e (p.within (2 * match) left_some left_high)
      | inr e ↦ rw e (p.within (2 * match + 1) right_some right_high)
    ] in
    let left_half : (2 * match) / 2 ≡ match = omega arith in
    let right_half : (2 * match + 1) / 2 ≡ match = omega arith in
    let under : (steps : ℕ) × (above steps (n + first) ≡ match) = elim one [
      | inl e ↦ let b = p.below (2 * match) left_some left_high in (suc b.0, above_step b.0 (n + first) ∙ ap (λ k. above b.0 (n + k) / 2) e ∙ ap (λ k. k / 2) b.1 ∙ left_half)
      | inr e ↦ let b = p.below (2 * match + 1) right_some right_high in (suc b.0, above_step b.0 (n + first) ∙ ap (λ k. above b.0 (n + k) / 2) e ∙ ap (λ k. k / 2) b.1 ∙ right_half)
    ] in
    record {
      count = length-set winners match first ∙ p.count;
      within = λ place low high. elim (same_or_not place match) [
        | inl same ↦ subst (λ k. get_or (set winners match first) k 0 < n) (sym same) (rw here few)
        | inr ne ↦ rw (changed winners match first place ne) (p.within place low high)
      ];
      below = λ place low high. elim (same_or_not place match) [
        | inl same ↦ (under.0, ap (λ k. above under.0 (n + get_or (set winners match first) k 0)) same ∙ ap (λ k. above under.0 (n + k)) here ∙ under.1 ∙ sym same)
        | inr ne ↦ let b = p.below place low high in (b.0, ap (λ k. above b.0 (n + k)) (changed winners match first place ne) ∙ b.1)
      ];
      leaves = λ j few. let ne : n + j ≢ match = omega (arith, lt) in changed winners match first (n + j) ne ∙ p.leaves j few;
    }

pub won_more : (hands : List (List Row)) (place first : ℕ) (winners : List ℕ) → IsWonBelow hands place winners → 1 < place
    → ((first ≡ get_or winners (2 * (place / 2)) 0) ⊎ (first ≡ get_or winners (2 * (place / 2) + 1) 0))
    → IsBefore hands first (get_or winners (2 * (place / 2)) 0) → IsBefore hands first (get_or winners (2 * (place / 2) + 1) 0)
    → IsWonBelow hands (place / 2) (set winners (place / 2) first)
won_more hands place first winners p more one left right =
    let n : ℕ = length hands in
    let match : ℕ = place / 2 in
    let some : 1 ≤ match = omega (arith, more) in
    let lt : match < n = omega (arith, p.within) in
    let within : match < length winners = omega (arith, p.inputs.count, lt) in
    let here : get_or (set winners match first) match 0 ≡ first = get_or-set_same winners match first 0 within in
    record {
      inputs = match_winners n match first winners p.inputs some lt one;
      some = some;
      within = omega (arith, lt);
      won = λ below two high apart. elim (same_or_not (below / 2) match) [
        | inl same ↦
            let ne : below ≢ match = omega (arith, two, same) in
            let kept : get_or (set winners match first) below 0 ≡ get_or winners below 0 = changed winners match first below ne in
            let top : get_or (set winners match first) (below / 2) 0 ≡ first = ap (λ k. get_or (set winners match first) k 0) same ∙ here in
            let won : IsBefore hands first (get_or winners below 0) = elim (two_below below match same) [
              | inl e ↦ subst (λ k. IsBefore hands first (get_or winners k 0)) (sym e) left
              | inr e ↦ subst (λ k. IsBefore hands first (get_or winners k 0)) (sym e) right
            ] in
            subst (λ k. IsBefore hands k (get_or (set winners match first) below 0)) (sym top) (subst (IsBefore hands first) (sym kept) won)
        | inr ne ↦
            let not_here : below ≢ match = λ e. apart 0 (ap (λ k. k / 2) (sym e)) in
            let kept : get_or (set winners match first) below 0 ≡ get_or winners below 0 = changed winners match first below not_here in
            let top : get_or (set winners match first) (below / 2) 0 ≡ get_or winners (below / 2) 0 = changed winners match first (below / 2) ne in
            let never : (steps : ℕ) → above steps match ≡ below / 2 → ⊥ = never_above match (below / 2) ne apart in
            subst (λ k. IsBefore hands k (get_or (set winners match first) below 0)) (sym top) (subst (IsBefore hands (get_or winners (below / 2) 0)) (sym kept) (p.won below two high never))
      ];
    } where
      never_above : (match other : ℕ) → other ≢ match → ((steps : ℕ) → above steps (match / 2) ≡ other → ⊥) → (steps : ℕ) → above steps match ≡ other → ⊥
      never_above match other ne apart zero e = ne (sym e)
      never_above match other ne apart (suc steps) e = apart steps e

above_nothing : (steps : ℕ) → above steps 0 ≡ 0
above_nothing zero = refl
above_nothing (suc steps) = above_nothing steps

pub won_all : (hands : List (List Row)) (place : ℕ) (winners : List ℕ) → IsWonBelow hands place winners → place ≤ 1 → AreWon hands winners
won_all hands place winners p le = record {
  inputs = p.inputs;
  won = λ below two high. p.won below two high (λ steps e.
      let none : place / 2 ≡ 0 = omega (arith, le) in
      let zero_top : 0 ≡ below / 2 = sym (above_nothing steps) ∙ ap (above steps) (sym none) ∙ e in
      absurd (omega (arith, two, zero_top)));
}

-- ---- the winner of all

top_before : (hands : List (List Row)) (winners : List ℕ) → AreWon hands winners → (fuel place : ℕ) → place ≤ fuel → 1 ≤ place → place < length hands + length hands → IsBefore hands (get_or winners 1 0) (get_or winners place 0)
top_before hands winners t zero place le some lt = absurd (omega (arith, le, some))
top_before hands winners t (suc fuel) place le some lt = elim (same_or_not place 1) [
  | inl same ↦ subst (λ k. IsBefore hands (get_or winners 1 0) (get_or winners k 0)) (sym same) (itself_before (get_or winners 1 0) (get_or hands (get_or winners 1 0) []))
  | inr ne ↦
      let two : 2 ≤ place = omega (arith, some, ne) in
      before_along (get_or winners 1 0) (get_or winners (place / 2) 0) (get_or winners place 0) _ _ _
      (top_before hands winners t fuel (place / 2) (omega (arith, le, two)) (omega (arith, two)) (omega (arith, lt, two)))
      (t.won place two lt)
]

first_before : (hands : List (List Row)) (winners : List ℕ) → AreWon hands winners → (j : ℕ) → j < length hands → IsBefore hands (get_or winners 1 0) j
first_before hands winners t j lt =
    let low : 1 ≤ length hands + j = omega (arith, lt) in
    let high : length hands + j < length hands + length hands = omega (arith, lt) in
    subst (IsBefore hands (get_or winners 1 0)) (t.inputs.leaves j lt) (top_before hands winners t (length hands + j) (length hands + j) (omega arith) low high)

pub past : (hands : List (List Row)) (j : ℕ) → length hands ≤ j → get_or hands j [] ≡ []
past [] j le = refl
past (x ∷ xs) zero le = absurd (omega (arith, le))
past (x ∷ xs) (suc j) le = past xs j (omega (arith, le))

pub beyond : (j n : ℕ) → (j < n) ⊎ (n ≤ j)
beyond j zero = inr (omega arith)
beyond zero (suc n) = inl (omega arith)
beyond (suc j) (suc n) = elim (beyond j n) [ inl lt ↦ inl (omega (arith, lt)) | inr le ↦ inr (omega (arith, le)) ]

-- the winner comes before every input, also past the last
pub winner_before : (hands : List (List Row)) (winners : List ℕ) → AreWon hands winners → (j : ℕ) → IsBefore hands (get_or winners 1 0) j
winner_before hands winners t j = elim (beyond j (length hands)) [
  | inl lt ↦ first_before hands winners t j lt
  | inr le ↦ before_none (get_or winners 1 0) j _ _ (past hands j le)
]

pub winner_least : (hands : List (List Row)) (winners : List ℕ) (row : Row) (rows : List Row) → AreWon hands winners → get_or hands (get_or winners 1 0) [] ≡ row ∷ rows → IsLeastAt (get_or winners 1 0) hands
winner_least hands winners row rows t there =
    let first : ℕ = get_or winners 1 0 in
    let each : (j : ℕ) → ComesBefore first (row ∷ rows) j (get_or hands j []) = λ j. subst (λ hand. ComesBefore first hand j (get_or hands j [])) there (winner_before hands winners t j) in
    record {
      row = row;
      rows = rows;
      there = there;
      before = λ j lt. before_ahead first j row rows _ lt (each j);
      each = λ j. before_from first j row rows _ (each j);
    }

pub winner_none : (hands : List (List Row)) (winners : List ℕ) → AreWon hands winners → get_or hands (get_or winners 1 0) [] ≡ [] → (j : ℕ) → get_or hands j [] ≡ []
winner_none hands winners t none j = before_nothing (get_or winners 1 0) j _ _ none (winner_before hands winners t j)

-- where an input's row at hand has changed, its matches are to be played again
pub changed_won : (olds news : List (List Row)) (i : ℕ) (winners : List ℕ) → length news ≡ length olds → i < length olds → AreWon olds winners → ((j : ℕ) → j ≢ i → get_or news j [] ≡ get_or olds j [])
    → (place : ℕ) → 2 ≤ place → place < length news + length news → ((steps : ℕ) → above steps ((length news + i) / 2) ≡ place / 2 → ⊥) → IsBefore news (get_or winners (place / 2) 0) (get_or winners place 0)
changed_won olds news i winners count lt t others place two high apart =
    let n : ℕ = length olds in
    let high_old : place < n + n = omega (arith, count, high) in
    let top_some : 1 ≤ place / 2 = omega (arith, two) in
    let top_high : place / 2 < n + n = omega (arith, high_old) in
    let apart_old : (steps : ℕ) → above steps ((n + i) / 2) ≡ place / 2 → ⊥ = subst (λ k. (steps : ℕ) → above steps ((k + i) / 2) ≡ place / 2 → ⊥) count apart in
    -- no input below the upper place is this one, since the place isn't above it
    let not_top : get_or winners (place / 2) 0 ≢ i = λ e.
    let b = t.inputs.below (place / 2) top_some top_high in
    strictly n i (place / 2) b.0 (omega (arith, high_old)) (ap (λ k. above b.0 (n + k)) (sym e) ∙ b.1) apart_old in
    let not_place : get_or winners place 0 ≢ i = λ e.
    let b = t.inputs.below place (omega (arith, two)) high_old in
    apart_old b.0 (above_step b.0 (n + i) ∙ ap (λ k. k / 2) (ap (λ k. above b.0 (n + k)) (sym e) ∙ b.1)) in
    subst (λ hand. ComesBefore (get_or winners (place / 2) 0) hand (get_or winners place 0) (get_or news (get_or winners place 0) [])) (sym (others _ not_top))
    (subst (λ hand. ComesBefore (get_or winners (place / 2) 0) (get_or olds (get_or winners (place / 2) 0) []) (get_or winners place 0) hand) (sym (others _ not_place))
    (t.won place two high_old)) where
      -- a match above an input's place lies strictly above it
      strictly : (n i match steps : ℕ) → match < n → above steps (n + i) ≡ match → ((more : ℕ) → above more ((n + i) / 2) ≡ match → ⊥) → ⊥
      strictly n i match zero lt e apart = absurd (omega (arith, lt, e))
      strictly n i match (suc steps) lt e apart = apart steps e

-- so it is with all matches, where none has a row at hand
pub nothing_won : (hands : List (List Row)) (winners : List ℕ) → AreWinners (length hands) winners → ((j : ℕ) → get_or hands j [] ≡ []) → AreWon hands winners
nothing_won hands winners p none = record { inputs = p; won = λ place two high. before_none _ _ _ _ (none _) }
