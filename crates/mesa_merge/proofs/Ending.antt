-- Inputs at their ends, and fronts of what they will give.
use Rattle.std.proofs.Common.{◌≡◌, ℕ, suc, List, [], ◌∷◌, ◌++◌, refl, sym, ◌∙◌, ap, append_assoc, length, get_or, true, false}
use Rattle.std.proofs.lemmas.Bool.{false≢true}
use Rattle.std.proofs.lemmas.List.{append-nil}
use Rattle.std.specs.Prelude.{Option, None, Some, map}
use Rattle.std.specs.Ordering.{is_le, is_lt}
use Rattle.std.specs.declared.cmp.Ordering.TheVariants.{Less, Equal, Greater}
use Rattle.mesa_key.specs.Order.{byte_cmp}
use Rattle.mesa_scan.specs.mesa_columns.declared.rows.Row.{Row}
use Rattle.mesa_schema.proofs.PresentRows.{present_rise}
use Rattle.mesa_batch.proofs.Place.{flipped}
use Rattle.mesa_delta.specs.declared.input.Input.{Input}
use Rattle.mesa_scan.specs.declared.cursor.Cursor.{Cursor}
use Rattle.mesa_scan.specs.Cursors.{HasGivenFrom, IsReady, at_hand, lift_by}
use Rattle.mesa_scan.specs.Cut.{cut, cut_each}
use Rattle.mesa_scan.proofs.Cuts.{cut_twice, under_stay}
use Rattle.mesa_scan.proofs.Cutting.{cut_none}
use Rattle.mesa_scan.proofs.Ending.{all_between, all_from, all_given, all_given_from}
use Rattle.mesa_merge.specs.Hands.{IsPast, hands_of}
use Rattle.mesa_merge.specs.Inputs.{AreAll, AreTold, IsTold, Known, known_of, knowns_of, lifted_in, lifted_parts}
use Rattle.mesa_merge.specs.Merged.{AreBelow}
use Rattle.mesa_merge.specs.Merging.{AreReady, HasGivens}

-- no row is at or past where there is no end
none_past : (hand : List Row) → IsPast None hand → hand ≡ []
none_past [] past = refl
none_past (row ∷ rows) past = absurd (false≢true (sym past))

-- where none has a row at hand, all have given all
pub all_at_end : {R : Type 0} (bytes : R → Option (List ℕ)) (is : List (Input R)) (cs : List Cursor) (gs : List (List Row)) → HasGivens bytes None is cs gs → AreReady (length is) is cs → ((j : ℕ) → IsPast None (get_or (hands_of cs) j [])) → AreAll (knowns_of bytes is) gs
all_at_end bytes [] [] [] h ready past = tt
all_at_end bytes [] [] (g ∷ gs) h ready past = absurd h
all_at_end bytes [] (c ∷ cs) gs h ready past = absurd h
all_at_end bytes (i ∷ is) [] gs h ready past = absurd h
all_at_end bytes (i ∷ is) (c ∷ cs) [] h ready past = absurd h
all_at_end bytes (i ∷ is) (c ∷ cs) (g ∷ gs) h ready past =
    let all = all_given bytes i c g h.0 ready.0 (none_past (at_hand c) (past 0)) in
    (record { rows = all.rows; lifts = all.lifts; whole = all.whole; same = all.told }, all_at_end bytes is cs gs h.1 ready.1 (λ j. past (suc j)))

-- where bytes are told, what all have given is the rows of those files, lifted
pub all_told : (ks : List Known) (gs contents : List (List Row)) → AreAll ks gs → AreTold ks contents → gs ≡ lifted_parts ks contents
all_told [] [] [] all told = refl
all_told [] [] (rows ∷ contents) all told = absurd told
all_told [] (g ∷ gs) contents all told = absurd all
all_told (k ∷ ks) [] contents all told = absurd all
all_told (k ∷ ks) (g ∷ gs) [] all told = absurd told
all_told (k ∷ ks) (g ∷ gs) (rows ∷ contents) all told =
    let one : g ≡ map (lifted_in k) rows = all.0.lifts ∙ ap (map (lifted_in k)) (all.0.same told.0.0 rows told.0.1 told.0.2) in
    λ i. one i ∷ all_told ks gs contents all.1 told.1 i

-- ---- ends

-- a key that isn't below another is at or above it
from_end : (key high : List ℕ) → is_lt (byte_cmp key high) ≡ false → is_le (byte_cmp high key) ≡ true
from_end key high off = elim (byte_cmp key high) as (λ o. byte_cmp key high ≡ o → is_lt o ≡ false → is_le (byte_cmp high key) ≡ true) [
  | Less ↦ λ e h. absurd (false≢true (sym h))
  | Equal ↦ λ e h. ap is_le (flipped high key Equal e)
  | Greater ↦ λ e h. ap is_le (flipped high key Greater e)
] refl off

-- where the row at hand is past the high end, or there is none, an input has given its rows between the ends
given_between : {R : Type 0} (bytes : R → Option (List ℕ)) (low high : Option (List ℕ)) (i : Input R) (c : Cursor) (given rows hand : List Row) → HasGivenFrom bytes low i c given → IsReady i c → AreBelow high given → at_hand c ≡ hand → IsPast high hand → IsTold (known_of bytes i) rows
    → given ≡ cut low high (map (lifted_in (known_of bytes i)) rows)
given_between bytes low None i c given rows [] h ready below e past told = all_given_from bytes low i c given h ready e told.0 rows told.1 told.2
given_between bytes low None i c given rows (row ∷ more) h ready below e past told = absurd (false≢true (sym past))
given_between bytes low (Some high) i c given rows [] h ready below e past told =
    sym (under_stay high given below) ∙ ap (cut None (Some high)) (all_given_from bytes low i c given h ready e told.0 rows told.1 told.2) ∙ sym (cut_twice low high (map (lift_by i) rows))
given_between bytes low (Some high) i c given rows (row ∷ more) h ready below e past told = all_between present_rise bytes low high i c given row more h e (from_end row.key high past) below told.0 rows told.1 told.2

-- and so have all
pub givens_between : {R : Type 0} (bytes : R → Option (List ℕ)) (low high : Option (List ℕ)) (is : List (Input R)) (cs : List Cursor) (gs contents : List (List Row)) → HasGivens bytes low is cs gs → AreReady (length is) is cs → ((j : ℕ) → AreBelow high (get_or gs j [])) → ((j : ℕ) → IsPast high (get_or (hands_of cs) j []))
    → AreTold (knowns_of bytes is) contents → gs ≡ cut_each low high (lifted_parts (knowns_of bytes is) contents)
givens_between bytes low high [] [] [] contents h ready below past told = refl
givens_between bytes low high [] [] (g ∷ gs) contents h ready below past told = absurd h
givens_between bytes low high [] (c ∷ cs) gs contents h ready below past told = absurd h
givens_between bytes low high (i ∷ is) [] gs contents h ready below past told = absurd h
givens_between bytes low high (i ∷ is) (c ∷ cs) [] contents h ready below past told = absurd h
givens_between bytes low high (i ∷ is) (c ∷ cs) (g ∷ gs) [] h ready below past told = absurd told
givens_between bytes low high (i ∷ is) (c ∷ cs) (g ∷ gs) (rows ∷ contents) h ready below past told =
    let one = given_between bytes low high i c g rows (at_hand c) h.0 ready.0 (below 0) refl (past 0) told.0 in
    let others = givens_between bytes low high is cs gs contents h.1 ready.1 (λ j. below (suc j)) (λ j. past (suc j)) told.1 in
    λ k. one k ∷ others k

-- ---- fronts

-- rows are the first of these from a key on
abbrev pub IsFront : Option (List ℕ) → List Row → List Row → Type 0
IsFront low given all = (rest : List Row) × (cut low None all ≡ given ++ rest)

-- what an input has given is the first of its file's rows, lifted
pub given_front : {R : Type 0} (bytes : R → Option (List ℕ)) (low : Option (List ℕ)) (i : Input R) (c : Cursor) (given rows : List Row) → HasGivenFrom bytes low i c given → IsTold (known_of bytes i) rows → IsFront low given (map (lifted_in (known_of bytes i)) rows)
given_front bytes low i c given rows h told = (_, all_from bytes low i c given h told.0 rows told.1 told.2 ∙ append_assoc given (at_hand c) _)

-- each is the first of these
abbrev pub AreFronts : Option (List ℕ) → List (List Row) → List (List Row) → Type 0
AreFronts low [] parts = Unit {0}
AreFronts low (g ∷ gs) [] = ⊥
AreFronts low (g ∷ gs) (part ∷ parts) = IsFront low g part × AreFronts low gs parts

-- all rows are the first of themselves
pub fronts_same : (gs : List (List Row)) → AreFronts None gs gs
fronts_same [] = tt
fronts_same (g ∷ gs) = (([], cut_none g ∙ sym (append-nil g)), fronts_same gs)

pub givens_fronts : {R : Type 0} (bytes : R → Option (List ℕ)) (low : Option (List ℕ)) (is : List (Input R)) (cs : List Cursor) (gs contents : List (List Row)) → HasGivens bytes low is cs gs → AreTold (knowns_of bytes is) contents → AreFronts low gs (lifted_parts (knowns_of bytes is) contents)
givens_fronts bytes low [] [] [] contents h told = tt
givens_fronts bytes low [] [] (g ∷ gs) contents h told = absurd h
givens_fronts bytes low [] (c ∷ cs) gs contents h told = absurd h
givens_fronts bytes low (i ∷ is) [] gs contents h told = absurd h
givens_fronts bytes low (i ∷ is) (c ∷ cs) [] contents h told = absurd h
givens_fronts bytes low (i ∷ is) (c ∷ cs) (g ∷ gs) [] h told = absurd told
givens_fronts bytes low (i ∷ is) (c ∷ cs) (g ∷ gs) (rows ∷ contents) h told = (given_front bytes low i c g rows h.0 told.0, givens_fronts bytes low is cs gs contents h.1 told.1)
