-- How a source moves on.
use Rattle.std.specs.Prelude.{ℕ, List, Option}
use Rattle.std.specs.Io.KnownBytes.{Consumes}

-- some bytes were taken from the front of those that were left
abbrev pub MovesOn : Option (List ℕ) → Option (List ℕ) → Type 0
MovesOn old new = (taken : List ℕ) × Consumes old new taken
