-- Bytes that are held for a draft.
use Rattle.std.specs.Prelude.{◌+◌, ℕ, zero, suc, List, [], ◌∷◌, ◌++◌, Option, None, Some, option_map}
use Rattle.mesa_split.specs.declared.held.Held.{Held}

-- a number doubled so often
abbrev pub doubled : ℕ → ℕ → ℕ
doubled zero n = n
doubled (suc times) n = doubled times n + doubled times n

-- A number for a list, another one for each.
abbrev pub number_of : List ℕ → ℕ
number_of [] = 0
number_of (x ∷ xs) = doubled x (number_of xs + number_of xs + 1)

abbrev pub number_told : Option (List ℕ) → ℕ
number_told None = 0
number_told (Some bytes) = suc (number_of bytes)

module _ {M D : Type 0} (bytes : D → Option (List ℕ)) where
  -- what the draft has
  abbrev pub sent_bytes : Held M D → Option (List ℕ)
  sent_bytes h = bytes h.sent.value

  -- The number by which a writer that goes on is known to hold bytes for a draft that has the same ones.
  abbrev pub sent_number : Held M D → ℕ
  sent_number h = number_told (sent_bytes h)

  -- what the draft has, and then what is held
  abbrev pub held_bytes : Held M D → Option (List ℕ)
  held_bytes h = option_map (λ b. b ++ h.bytes.items) (sent_bytes h)

-- memory doesn't fail
abbrev pub held_faults : {M D : Type 0} → Held M D → ℕ
held_faults h = 0
