-- The ranges of versions that a table's deltas cover.
use Rattle.std.specs.Prelude.{◌≡◌, ℕ, ◌+◌, ◌-◌, ◌*◌, ◌≤◌, ◌==◌, if◌then◌else◌, List, [], ◌∷◌, map, length, Option, Some, None, Contains, ◌⊎◌, ⊤}
use Rattle.std.specs.List.{range_with_len}
use Rattle.mesa_span.specs.declared.ranges.Ranges.{Ranges}

-- a range of versions, from its first to its last
abbrev pub Span : Type 0
Span = ℕ × ℕ

-- the version behind the base's last, or the first of all where there is no base
abbrev pub start_behind : Option ℕ → ℕ
start_behind None = 0
start_behind (Some to) = to + 1

-- a base to the version before this one, and none where that is the first version
abbrev pub base_before : ℕ → Option ℕ
base_before version = if version == 0 then None else Some (version - 1)

-- the ranges of a table that is made while this version is the oldest: an empty base to the one before it
abbrev pub new_ranges : ℕ → Ranges
new_ranges oldest = record { base_to = base_before oldest; cumulatives = [] }

-- The first version behind the base: every cumulative starts there.
abbrev pub start_of : Ranges → ℕ
start_of r = start_behind r.base_to

-- The last version of the ten that has so many tens before it, counted from the first version behind the base.
abbrev pub end_of : ℕ → ℕ → ℕ
end_of start tens = start + 10 * tens + 9

-- The last versions of the first so many tens behind the base.
abbrev pub ends_of_tens : ℕ → ℕ → List ℕ
ends_of_tens start tens = map (end_of start) (range_with_len 0 tens)

-- the numbers rise, and the first is at least this one
abbrev pub Rise : ℕ → List ℕ → Type 0
Rise from [] = ⊤
Rise from (number ∷ numbers) = (from ≤ number) × Rise (number + 1) numbers

-- The ends of cumulatives rise, and each lies behind the base.
abbrev pub IsInOrder : Ranges → Type 0
IsInOrder r = Rise (start_of r) r.cumulatives

-- The cumulatives are those of the first so many tens behind the base: what one work after another makes.
abbrev pub IsReachable : Ranges → Type 0
IsReachable r = r.cumulatives ≡ ends_of_tens (start_of r) (length r.cumulatives)

-- A range is there: it is the base, a cumulative, or one version behind the base.
abbrev pub IsThere : Ranges → Span → Type 0
IsThere r s =
    ((s.0 ≡ 0) × (r.base_to ≡ Some s.1))
    ⊎ ((s.0 ≡ start_of r) × Contains r.cumulatives s.1)
    ⊎ ((s.0 ≡ s.1) × (start_of r ≤ s.0))
