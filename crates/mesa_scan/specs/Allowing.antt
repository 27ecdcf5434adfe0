-- Which blocks of a file are read for a filter.
use Rattle.std.specs.Prelude.{ℕ, zero, suc, ◌+◌, List, [], ◌∷◌, ◌++◌, map, take, get_or, Bool, true, if◌then◌else◌}
use Rattle.std.specs.Ordering.{is_gt}
use Rattle.mesa_delta.specs.mesa_key.Order.{byte_cmp}
use Rattle.mesa_filter.specs.Filter.{KeyFilter}
use Rattle.mesa_filter.specs.Walk.{may_meet_from}
use Rattle.mesa_delta.specs.mesa_delta_format.Indexed.{Indexed}
use Rattle.mesa_delta.specs.mesa_delta_format.Places.{short_of}

-- The first key columns of a row between two short keys may meet a filter. Short keys that fall, which no sound file has, rule nothing out.
abbrev pub is_allowed : KeyFilter → ℕ → List ℕ → List ℕ → Bool
is_allowed f columns low high = if is_gt (byte_cmp low high) then true else may_meet_from (take columns f.kinds) 0 f.terms low high

-- the short keys between which the blocks lie, by the index: those of the blocks' first keys, and behind them that of the last key of all
abbrev pub bounds_in : Indexed → List (List ℕ)
bounds_in x = map short_of x.entries ++ x.last ∷ []

-- a block may have a row that meets a filter: by its short key and the next one's
abbrev pub allows_block : KeyFilter → ℕ → Indexed → ℕ → Bool
allows_block f columns x n = is_allowed f columns (get_or (bounds_in x) n []) (get_or (bounds_in x) (n + 1) [])

-- how many of the first blocks may have one
abbrev pub allowed_among : KeyFilter → ℕ → Indexed → ℕ → ℕ
allowed_among f columns x zero = 0
allowed_among f columns x (suc n) = allowed_among f columns x n + (if allows_block f columns x n then 1 else 0)
