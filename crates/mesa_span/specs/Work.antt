-- Which range a table's next compaction makes, and what is there once it is swapped in.
use Rattle.std.specs.Prelude.{ℕ, ◌+◌, ◌-◌, ◌/◌, List, [], ◌∷◌, ◌++◌, Bool, ◌&&◌, ◌==◌, nat_le, not, if◌then◌else◌, Option, Some, None, option_map, find}
use Rattle.std.specs.List.{list_any}
use Rattle.mesa_span.specs.declared.ranges.Ranges.{Ranges}
use Rattle.mesa_span.specs.declared.works.Work.{Work}
use Rattle.mesa_span.specs.declared.works.Work.TheVariants.{Base, Cumulative}
use Rattle.mesa_span.specs.Ranges.{start_of, ends_of_tens}

-- the ends of all cumulatives that the versions up to the newest have room for
abbrev pub possible_ends : ℕ → Option ℕ → List ℕ
possible_ends start None = []
possible_ends start (Some newest) = ends_of_tens start ((newest + 1 - start) / 10)

-- whether no cumulative ends there
abbrev pub is_missing : List ℕ → ℕ → Bool
is_missing ends end = not (list_any (λ there. there == end) ends)

-- the end of the first cumulative that the versions have room for and that isn't there
abbrev pub missing_end : ℕ → List ℕ → Option ℕ → Option ℕ
missing_end start ends newest = find (is_missing ends) (possible_ends start newest)

-- The next work, with the oldest version that can be queried and the newest: a base up to the oldest, where that is behind the present base and isn't the first version; else the first cumulative that isn't there; else none.
abbrev pub next_work : Ranges → ℕ → Option ℕ → Option Work
next_work r oldest newest =
    if nat_le 1 oldest && nat_le (start_of r) oldest then Some (Base oldest)
    else option_map (Cumulative (start_of r)) (missing_end (start_of r) r.cumulatives newest)

-- The ranges once a work's delta is swapped in: a new base takes the place of every delta that starts at or before its end, so no cumulative stays.
abbrev pub swapped : Work → Ranges → Ranges
swapped (Base to) r = record { base_to = Some to; cumulatives = [] }
swapped (Cumulative from to) r = record r { cumulatives = r.cumulatives ++ to ∷ [] }
