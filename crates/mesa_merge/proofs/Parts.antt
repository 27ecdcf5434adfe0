-- Inputs of which nothing was read yet.
use Rattle.std.proofs.Common.{◌≡◌, ℕ, zero, suc, ◌<◌, List, [], ◌∷◌, ◌++◌, refl, ap, length, get_or, take, arith}
use Rattle.std.specs.Prelude.{Option, map}
use Rattle.mesa_value.specs.declared.Agg.{Agg}
use Rattle.mesa_scan.specs.mesa_fold.Folded.{folded, folded_at, keys_of, rows_of}
use Rattle.mesa_delta.specs.declared.input.Input.{Input}
use Rattle.mesa_scan.specs.declared.cursor.Cursor.{Cursor}
use Rattle.mesa_scan.specs.Cursors.{HasGivenFrom, at_hand}
use Rattle.mesa_merge.specs.Hands.{hands_of}
use Rattle.mesa_merge.specs.Merged.{nothing_given}
use Rattle.mesa_merge.specs.Merging.{HasGivens}

-- one input more
pub givens_push : {R : Type 0} (bytes : R → Option (List ℕ)) (low : Option (List ℕ)) (is : List (Input R)) (cs : List Cursor) (n : ℕ) (c : Cursor) (d : Input R) → HasGivens bytes low (take n is) cs (nothing_given (take n is)) → n < length is → HasGivenFrom bytes low (get_or is n d) c []
    → HasGivens bytes low (take (suc n) is) (cs ++ c ∷ []) (nothing_given (take (suc n) is))
givens_push bytes low [] cs n c d h lt one = absurd (omega (arith, lt))
givens_push bytes low (i ∷ is) [] zero c d h lt one = (one, tt)
givens_push bytes low (i ∷ is) (x ∷ cs) zero c d h lt one = absurd h
givens_push bytes low (i ∷ is) [] (suc n) c d h lt one = absurd h
givens_push bytes low (i ∷ is) (x ∷ cs) (suc n) c d h lt one = (h.0, givens_push bytes low is cs n c d h.1 (omega (arith, lt)) one)

pub none_push : (cs : List Cursor) (c : Cursor) → ((j : ℕ) → get_or (hands_of cs) j [] ≡ []) → at_hand c ≡ [] → (j : ℕ) → get_or (hands_of (cs ++ c ∷ [])) j [] ≡ []
none_push [] c none one zero = one
none_push [] c none one (suc j) = refl
none_push (x ∷ cs) c none one zero = none zero
none_push (x ∷ cs) c none one (suc j) = none_push cs c (λ k. none (suc k)) one j

no_rows : {R : Type 0} (is : List (Input R)) → rows_of (nothing_given is) ≡ []
no_rows [] = refl
no_rows (i ∷ is) = no_rows is

-- no rows fold to none
pub nothing_folds : {R : Type 0} (aggs : List Agg) (is : List (Input R)) → folded aggs (nothing_given is) ≡ []
nothing_folds aggs is = ap (λ rows. map (folded_at aggs rows) (keys_of rows)) (no_rows is)

pub nothing_at : {R : Type 0} (is : List (Input R)) (j : ℕ) → get_or (nothing_given is) j [] ≡ []
nothing_at [] j = refl
nothing_at (i ∷ is) zero = refl
nothing_at (i ∷ is) (suc j) = nothing_at is j
