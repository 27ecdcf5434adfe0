-- How many rows are held.
use Rattle.std.proofs.Common.{◌≡◌, ℕ, zero, suc, ◌+◌, ◌*◌, ◌-◌, ◌^◌, ◌<◌, ◌≤◌, List, [], ◌∷◌, ◌∙◌, ap, length, get_or, take, min, arith, zero-add}
use Rattle.std.specs.Prelude.{Option, sum_by}
use Rattle.std.proofs.lemmas.List.Sums.{sum_by-append}
use Rattle.mesa_scan.specs.mesa_columns.declared.rows.Row.{Row}
use Rattle.mesa_delta.specs.declared.input.Input.{Input}
use Rattle.mesa_scan.specs.declared.cursor.Cursor.{Cursor}
use Rattle.mesa_scan.specs.Cursors.{at_hand}
use Rattle.mesa_merge.specs.Hands.{hands_of}
use Rattle.mesa_merge.specs.Merging.{HasGivens}

sum_next : (hand : List Row) (hands : List (List Row)) → sum_by length (hand ∷ hands) ≡ length hand + sum_by length hands
sum_next hand hands = sum_by-append length (hand ∷ []) hands ∙ ap (λ n. n + sum_by length hands) (zero-add (length hand))

sum_more : (cs : List Cursor) (n : ℕ) (d : Cursor) → n < length cs → sum_by length (hands_of (take (suc n) cs)) ≡ sum_by length (hands_of (take n cs)) + length (at_hand (get_or cs n d))
sum_more [] n d lt = absurd (omega (arith, lt))
sum_more (c ∷ cs) zero d lt = sum_next (at_hand c) [] ∙ omega arith
sum_more (c ∷ cs) (suc n) d lt =
    omega (arith, sum_next (at_hand c) (hands_of (take (suc n) cs)), sum_next (at_hand c) (hands_of (take n cs)), sum_more cs n d (omega (arith, lt)))

-- one input more
pub held_more : (cs : List Cursor) (n held : ℕ) (d : Cursor) → n < length cs → held ≡ min (sum_by length (hands_of (take n cs))) (2 ^ 64 - 1)
    → min (held + length (at_hand (get_or cs n d))) (2 ^ 64 - 1) ≡ min (sum_by length (hands_of (take (suc n) cs))) (2 ^ 64 - 1)
held_more cs n held d lt is = omega (arith, is, sum_more cs n d lt)

-- at most a block of each
pub held_few : {R : Type 0} (bytes : R → Option (List ℕ)) (low : Option (List ℕ)) (is : List (Input R)) (cs : List Cursor) (gs : List (List Row)) → HasGivens bytes low is cs gs → sum_by length (hands_of cs) ≤ 1024 * length is
held_few bytes low [] [] gs h = omega arith
held_few bytes low [] (c ∷ cs) gs h = absurd h
held_few bytes low (i ∷ is) [] gs h = absurd h
held_few bytes low (i ∷ is) (c ∷ cs) [] h = absurd h
held_few bytes low (i ∷ is) (c ∷ cs) (g ∷ gs) h = omega (arith, h.0.few, held_few bytes low is cs gs h.1, sum_next (at_hand c) (hands_of cs))
