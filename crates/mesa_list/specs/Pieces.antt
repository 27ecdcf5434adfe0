-- Pieces that stand one behind the other in one list, as fields do in their bytes.
use Rattle.std.specs.Prelude.{ℕ, ◌+◌, ◌≤◌, List, [], ◌∷◌, length, slice_range}

-- the pieces of a list that end at these places, the first of which begins at start
abbrev pub pieces : {X : Type 0} → List X → ℕ → List ℕ → List (List X)
pieces items start [] = []
pieces items start (end ∷ ends) = slice_range items start end ∷ pieces items end ends

-- no piece ends before it begins
abbrev pub Rise : ℕ → List ℕ → Type 0
Rise start [] = Unit {0}
Rise start (end ∷ ends) = (start ≤ end) × Rise end ends

-- where the last piece ends
abbrev pub last_end : ℕ → List ℕ → ℕ
last_end start [] = start
last_end start (end ∷ ends) = last_end end ends

-- where each of these pieces ends, the first of which begins at start
abbrev pub ends_from : {X : Type 0} → ℕ → List (List X) → List ℕ
ends_from start [] = []
ends_from start (piece ∷ pieces) = (start + length piece) ∷ ends_from (start + length piece) pieces
