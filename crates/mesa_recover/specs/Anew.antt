-- When a catalogue is stated anew, and by which body.
use Rattle.std.specs.Prelude.{◌≡◌, ℕ, ◌+◌, ◌-◌, ◌^◌, ◌<◌, ◌≤◌, List, length, Option, None, Some}
use Rattle.mesa_store_spec.specs.Catalog.{Catalog}
use Rattle.mesa_store_spec.specs.Checkpoint.{checkpoint_body, checkpoint_of}

-- the end from which on an area is long
abbrev pub long_end : ℕ
long_end = 2 ^ 16

-- the greatest number that a checkpoint may have
abbrev pub most_number : ℕ
most_number = 2 ^ 32 - 1

-- the length of the longest checkpoint that is written
abbrev pub longest_body : ℕ
longest_body = 2 ^ 30

-- the body that states a catalogue anew, behind an area with a number
abbrev pub anew_body : ℕ → Catalog → List ℕ
anew_body number c = checkpoint_body (checkpoint_of (number + 1) c)

-- A catalogue is stated anew where the live area, which has this end and this number, is long, there is a number for the next checkpoint, and that isn't too long.
pub record IsStatedAnew (end number : ℕ) (c : Catalog) : Type 0 where
  pub long : long_end ≤ end
  pub few : number < most_number
  pub short : length (anew_body number c) ≤ longest_body

-- what is written for that, if anything is
abbrev pub StatesAnewBy : ℕ → ℕ → Catalog → Option (List ℕ) → Type 0
StatesAnewBy end number c None = IsStatedAnew end number c → ⊥
StatesAnewBy end number c (Some body) = IsStatedAnew end number c × (body ≡ anew_body number c)
