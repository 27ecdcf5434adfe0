-- Where to begin to look for a key.
use Rattle.std.specs.Prelude.{◌≡◌, ℕ, ◌+◌, List, [], ◌∷◌, true, if◌then◌else◌}
use Rattle.std.specs.Ordering.{is_le}
use Rattle.mesa_block.specs.mesa_key.Order.{byte_cmp}

-- The block at which to begin to look for a short key, by the short keys of the blocks' first keys: the least that is the last one, or whose next has a short key at least this one.
abbrev pub seek_in : List ℕ → List (List ℕ) → ℕ
seek_in key [] = 0
seek_in key (a ∷ []) = 0
seek_in key (a ∷ b ∷ shorts) = if is_le (byte_cmp key b) then 0 else seek_in key (b ∷ shorts) + 1

-- Short keys never fall.
abbrev pub NeverFall : List (List ℕ) → Type 0
NeverFall [] = Unit {0}
NeverFall (a ∷ []) = Unit {0}
NeverFall (a ∷ b ∷ shorts) = (is_le (byte_cmp a b) ≡ true) × NeverFall (b ∷ shorts)
