-- Which faults of a range are told, by the tests of a table's ranges.
use Rattle.std.specs.Prelude.{ℕ, List, [], ◌∷◌, Bool, true, false, not, ◌&&◌, ◌||◌, Option, Some, None}
use Rattle.mesa_store_spec.specs.Catalog.{TableMeta}
use Rattle.mesa_check.specs.Found.{Found}
use Rattle.mesa_check.specs.Faults.{Fault, exceeds_totals}
use Rattle.mesa_check.specs.Ranges.{Range, is_range, totals_range}
use Rattle.mesa_check.specs.Ranges.{Base, Single, Cumulative}
use Rattle.mesa_check.specs.Counted.{tells_of}
use Rattle.mesa_check.specs.Held.{kind_in, range_in}
use Rattle.mesa_check.specs.declared.faults.Shown.{Shown}
use Rattle.mesa_check.specs.declared.testing.Test.{Test}

-- the fault of a table that is told
abbrev pub shown_fault : TableMeta → Shown → Fault
shown_fault t s = record { table = t.name; from = s.from; to = s.to; key = s.key }

abbrev pub key_list : Option (List ℕ) → List (List ℕ)
key_list None = []
key_list (Some key) = key ∷ []

-- the range that was tested
abbrev pub tested_range : Test → Range
tested_range t = range_in t.range

abbrev pub is_found_in : Test → Bool
is_found_in t = t.found

abbrev pub tells_totals : Test → Bool
tells_totals t = tells_of (range_in t.range)

-- a range tells of the table's totals, and the rows exceed them
abbrev pub tells_excess : Found → TableMeta → Range → Bool
tells_excess found t r = is_range (totals_range t) r && exceeds_totals found t

-- a base whose files are the recorded ones, and a singleton whose totals are true too
abbrev pub is_sure : Test → Bool
is_sure t = elim (kind_in t.range.kind) [ Base ↦ t.found | Single ↦ t.found && t.totalled | Cumulative ↦ true ]

abbrev pub has_false_of : Test → Bool
has_false_of t = elim (kind_in t.range.kind) [ Base ↦ false | Single ↦ not t.totalled | Cumulative ↦ false ]

-- a range has a fault that no single key shows
abbrev pub stands_of : Test → Bool → Bool
stands_of t over = not t.found || has_false_of t || over

abbrev pub is_merged : Range → Bool
is_merged r = elim (r.kind) [ Base ↦ false | Single ↦ false | Cumulative ↦ true ]
