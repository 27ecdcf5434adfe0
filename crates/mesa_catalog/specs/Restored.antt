-- What is asked of the ids that a checkpoint states.
use Rattle.std.specs.Prelude.{ℕ, List, [], ◌∷◌, Bool, true, ◌&&◌, nat_lt}

-- each id is above the one before it, and the first above this one
abbrev pub ids_above : ℕ → List ℕ → Bool
ids_above last [] = true
ids_above last (id ∷ ids) = nat_lt last id && ids_above id ids

-- each id is above the one before it
abbrev pub ids_rise : List ℕ → Bool
ids_rise [] = true
ids_rise (id ∷ ids) = ids_above id ids
