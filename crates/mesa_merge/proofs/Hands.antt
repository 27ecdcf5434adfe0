-- The rows at hand of inputs, one after the other.
use Rattle.std.proofs.Common.{◌≡◌, ◌≢◌, ℕ, zero, suc, ◌<◌, List, [], ◌∷◌, refl, sym, ap, length, get_or, set, arith}
use Rattle.mesa_scan.specs.declared.cursor.Cursor.{Cursor}
use Rattle.mesa_scan.specs.Cursors.{at_hand}
use Rattle.mesa_merge.specs.Hands.{hands_of}

pub hands_length : (cs : List Cursor) → length (hands_of cs) ≡ length cs
hands_length [] = refl
hands_length (c ∷ cs) = ap suc (hands_length cs)

-- an input that was looked at
pub hand_at : (cs : List Cursor) (i : ℕ) (c : Cursor) → i < length cs → c ≡ get_or cs i c → get_or (hands_of cs) i [] ≡ at_hand c
hand_at [] i c lt e = absurd (omega (arith, lt))
hand_at (x ∷ cs) zero c lt e = ap at_hand (sym e)
hand_at (x ∷ cs) (suc i) c lt e = hand_at cs i c (omega (arith, lt)) e

-- an input that has changed, and the others
pub hand_same : (cs : List Cursor) (i : ℕ) (c : Cursor) → i < length cs → get_or (hands_of (set cs i c)) i [] ≡ at_hand c
hand_same [] i c lt = absurd (omega (arith, lt))
hand_same (x ∷ cs) zero c lt = refl
hand_same (x ∷ cs) (suc i) c lt = hand_same cs i c (omega (arith, lt))

pub hand_other : (cs : List Cursor) (i j : ℕ) (c : Cursor) → j ≢ i → get_or (hands_of (set cs i c)) j [] ≡ get_or (hands_of cs) j []
hand_other [] i j c ne = refl
hand_other (x ∷ cs) zero zero c ne = absurd (ne refl)
hand_other (x ∷ cs) zero (suc j) c ne = refl
hand_other (x ∷ cs) (suc i) zero c ne = refl
hand_other (x ∷ cs) (suc i) (suc j) c ne = hand_other cs i j c (λ e. ne (ap suc e))

-- the row at hand of an input, by its place
pub hand_of_get : (cs : List Cursor) (i : ℕ) (d : Cursor) → i < length cs → get_or (hands_of cs) i [] ≡ at_hand (get_or cs i d)
hand_of_get [] i d lt = absurd (omega (arith, lt))
hand_of_get (x ∷ cs) zero d lt = refl
hand_of_get (x ∷ cs) (suc i) d lt = hand_of_get cs i d (omega (arith, lt))
