-- Keys at which inputs are cut.
use Rattle.std.specs.Prelude.{◌≡◌, ◌⊎◌, ℕ, ◌+◌, ◌*◌, ◌/◌, ◌-◌, ◌≤◌, List, [], ◌∷◌, ◌++◌, length, map, get_or, Option, None, Some, Bool, true, if◌then◌else◌}
use Rattle.std.specs.List.{AllByRecursion, Contains, range_with_len}
use Rattle.std.specs.Ordering.{is_lt}
use Rattle.mesa_key.specs.Order.{byte_cmp}
use Rattle.mesa_compact.specs.mesa_delta_format.Indexed.{Indexed}
use Rattle.mesa_compact.specs.mesa_delta_format.Places.{shorts_of}
use Rattle.mesa_delta.specs.Reading.{index_of}
use Rattle.mesa_delta.specs.declared.input.Input.{Input}

-- a key lies above an end, where there is one
abbrev pub lies_above : Option (List ℕ) → List ℕ → Bool
lies_above None key = true
lies_above (Some low) key = is_lt (byte_cmp low key)

-- Of keys, in their order, each that lies above an end and above all that were taken before it: of keys that never fall each one, and equal ones once.
abbrev pub risen : Option (List ℕ) → List (List ℕ) → List (List ℕ)
risen low [] = []
risen low (key ∷ keys) = if lies_above low key then key ∷ risen (Some key) keys else risen low keys

-- The short key with which a part begins, counted from 0, where a file's blocks, of which these are the short keys, are divided as evenly as may be into so many parts.
abbrev pub part_key : ℕ → List (List ℕ) → ℕ → List ℕ
part_key parts shorts part = get_or shorts (length shorts * part / parts) []

-- the short keys with which all parts but the first begin
abbrev pub spread : ℕ → List (List ℕ) → List (List ℕ)
spread parts shorts = map (part_key parts shorts) (range_with_len 1 (parts - 1))

-- the indexes of inputs' files
abbrev pub indexes_of : {R : Type 0} → List (Input R) → List Indexed
indexes_of {R = R} inputs = map (λ (i : Input R). index_of i.reader) inputs

-- An index is one of these, and none of them has more blocks.
pub record HasMost (indexes : List Indexed) (index : Indexed) : Type 0 where
  pub one : Contains indexes index
  pub most : AllByRecursion (λ (other : Indexed). length other.entries ≤ length index.entries) indexes

-- The cuts of inputs into so many parts: short keys of an input that has the most blocks, with which the parts begin into which its blocks are divided as evenly as may be. Equal ones are one cut. Without inputs there is none.
abbrev pub AreCutsOf : List Indexed → ℕ → List (List ℕ) → Type 0
AreCutsOf [] parts cuts = cuts ≡ []
AreCutsOf (first ∷ others) parts cuts = (index : Indexed) × HasMost (first ∷ others) index × (cuts ≡ risen None (spread parts (shorts_of index.entries)))

-- So many pieces are two rounds or more, in each of which so many parts merge one; or there are none.
abbrev pub AreRounds : ℕ → ℕ → Type 0
AreRounds parts pieces = (pieces ≡ 0) ⊎ ((rounds : ℕ) × (2 ≤ rounds) × (pieces ≡ rounds * parts))

-- The cuts between which inputs are merged piece by piece: those of the parts, of which each merges one piece; or the cuts of the inputs into as many pieces as each part merges in two rounds or more.
abbrev pub ArePieceCuts : List Indexed → List (List ℕ) → List (List ℕ) → Type 0
ArePieceCuts indexes cuts finer = (finer ≡ cuts) ⊎ ((rounds : ℕ) × (2 ≤ rounds) × AreCutsOf indexes (rounds * (length cuts + 1)) finer)

-- the last of keys behind an end, or that end
abbrev pub end_of : Option (List ℕ) → List (List ℕ) → Option (List ℕ)
end_of low [] = low
end_of low (key ∷ keys) = end_of (Some key) keys

-- keys behind an end, and one more, if it lies above the last of them
abbrev pub with_key : Option (List ℕ) → List (List ℕ) → List ℕ → List (List ℕ)
with_key low keys key = if lies_above (end_of low keys) key then keys ++ key ∷ [] else keys
