-- Lines of a text.
use Rattle.std.specs.Prelude.{◌≡◌, ◌||◌, Bool, false, ℕ, zero, suc, List, [], ◌∷◌, ◌==◌, if◌then◌else◌}

-- a text behind so many of its lines; nothing where it has no more
unfoldable pub behind_lines : ℕ → List ℕ → List ℕ
behind_lines zero text = text
behind_lines (suc n) [] = []
behind_lines (suc n) (b ∷ text) = if b == 10 then behind_lines n text else behind_lines (suc n) text

-- whether a text has a line break
abbrev pub has_break : List ℕ → Bool
has_break [] = false
has_break (b ∷ text) = (b == 10) || has_break text

-- it has none
abbrev pub IsUnbroken : List ℕ → Type 0
IsUnbroken text = has_break text ≡ false
