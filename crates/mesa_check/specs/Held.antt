-- The ranges of a table as it is held: a version that brought it nothing has none.
use denote.Bor.{Bor}
use Rattle.std.specs.Prelude.{ℕ, ◌^◌, ◌<◌, List, [], ◌∷◌, ◌++◌, map, take, drop, ◌==◌, if◌then◌else◌, Option, Some, None, option_map}
use Rattle.mesa_store_spec.specs.Catalog.{Delta, empty_delta}
use Rattle.mesa_catalog_table.specs.declared.table.Loaded.{Loaded}
use Rattle.mesa_catalog_table.specs.declared.table.Table.{Table}
use Rattle.mesa_store_spec.specs.Shape.{IsShaped}
use Rattle.mesa_catalog_table.specs.Meaning.{IsTable, ending_of, start_of_base, meta_of, tens_from}
use Rattle.mesa_check.specs.Ranges.{Kind, Range, base_range, cumulative_range}
use Rattle.mesa_check.specs.Ranges.{Base, Single, Cumulative}
use Rattle.mesa_check.specs.declared.range.Kind.{Kind as HeldKind}
use Rattle.mesa_check.specs.declared.range.Kind.TheVariants as kind
use Rattle.mesa_check.specs.declared.range.Held.{Held}

abbrev pub kind_in : HeldKind → Kind
kind_in kind.Base = Base
kind_in kind.Single = Single
kind_in kind.Cumulative = Cumulative

-- a delta that is lent, or one without rows
abbrev pub lent_delta : Option (Bor Delta) → Delta
lent_delta None = empty_delta
lent_delta (Some d) = d.now

-- the delta of a range that is held
abbrev pub delta_of : Held → Delta
delta_of r = lent_delta r.delta

abbrev pub range_in : Held → Range
range_in r = record { kind = kind_in r.kind; from = r.from; to = r.to; delta = lent_delta r.delta }

-- what a version brought
abbrev pub loaded_range : Loaded → Range
loaded_range l = record { kind = Single; from = l.version; to = l.version; delta = l.delta.value }

-- how many of those that were loaded are of this version: the first, or none
abbrev pub firsts : ℕ → List Loaded → ℕ
firsts start [] = 0
firsts start (l ∷ loaded) = if l.version == start then 1 else 0

-- The ranges in the order in which they are checked: the base, what the first version behind it brought, the cumulatives, and what the others brought.
abbrev pub held_ranges : Table → List Range
held_ranges t =
    base_range (option_map ending_of t.base)
    ++ (map loaded_range (take (firsts (start_of_base t.base) t.loaded.items) t.loaded.items)
    ++ (map (cumulative_range (start_of_base t.base)) (tens_from (start_of_base t.base) t.cumulatives.items)
    ++ map loaded_range (drop (firsts (start_of_base t.base) t.loaded.items) t.loaded.items)))

-- A table of a catalogue of so many versions, as it is held.
pub record IsHeld (next : ℕ) (t : Table) : Type 0 where
  pub table : IsTable next t
  pub few : next < 2 ^ 32
  pub floor : ℕ
  pub shaped : IsShaped floor next (meta_of next t)
