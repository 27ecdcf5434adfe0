-- What a table that is held stands for.
use Rattle.std.specs.Prelude.{◌≡◌, ℕ, ◌+◌, ◌-◌, ◌*◌, ◌≤◌, ◌<◌, List, [], ◌∷◌, ◌++◌, map, length, replicate, Option, Some, None, option_map, ⊤}
use Rattle.std.specs.List.{range_with_len}
use Rattle.std.specs.declared.alloc.Global.{Global}
use Rattle.std.specs.declared.sync.Arc.{Arc}
use Rattle.mesa_schema.specs.Changes.{Lineage, columns_at, epoch_of}
use Rattle.mesa_span.specs.Ranges.{start_behind}
use Rattle.mesa_store_spec.specs.Catalog.{Delta, Ending, TableMeta, empty_delta}
use Rattle.mesa_catalog_table.specs.declared.table.Base.{Base}
use Rattle.mesa_catalog_table.specs.declared.table.Loaded.{Loaded}
use Rattle.mesa_catalog_table.specs.declared.table.Table.{Table}

-- a delta that is held, or one without rows
abbrev pub delta_or_empty : Option (Arc Delta Global) → Delta
delta_or_empty None = empty_delta
delta_or_empty (Some d) = d.value

abbrev pub ending_of : Base → Ending
ending_of b = record { to = b.to; delta = delta_or_empty b.delta }

-- the first version behind a base
abbrev pub start_of_base : Option Base → ℕ
start_of_base b = start_behind (option_map (λ (base : Base). base.to) b)

-- cumulatives of ten, twenty and so on versions from a version on
abbrev pub tens_from : ℕ → List (Arc Delta Global) → List Ending
tens_from start [] = []
tens_from start (d ∷ ds) = record { to = start + 9; delta = d.value } ∷ tens_from (start + 10) ds

-- a singleton for each version from one on and below another: what was loaded, and a delta without rows for each version that brought nothing
abbrev pub singles_from : ℕ → ℕ → List Loaded → List Delta
singles_from from next [] = replicate (next - from) empty_delta
singles_from from next (l ∷ loaded) = replicate (l.version - from) empty_delta ++ l.delta.value ∷ singles_from (l.version + 1) next loaded

-- A table that is held, where there were so many versions, stands for a table of the catalogue.
abbrev pub meta_of : ℕ → Table → TableMeta
meta_of next t = record {
  name = t.name;
  lineage = t.evolving.value;
  totals = t.totals;
  oldest = t.oldest;
  base = option_map ending_of t.base;
  cumulatives = tens_from (start_of_base t.base) t.cumulatives.items;
  singles = singles_from (start_of_base t.base) next t.loaded.items;
}

-- the versions rise from one on, all of them below another
abbrev pub AreLoaded : ℕ → ℕ → List Loaded → Type 0
AreLoaded from next [] = ⊤
AreLoaded from next (l ∷ loaded) = (from ≤ l.version) × (l.version < next) × AreLoaded (l.version + 1) next loaded

-- how many value columns there were in each epoch
abbrev pub widths_of : Lineage → List ℕ
widths_of l = map (λ epoch. length (columns_at l epoch).values) (range_with_len 0 (epoch_of l + 1))

-- A table whose cumulatives and singletons are of versions that are there, and so is its oldest version, where there is any.
pub record IsTable (next : ℕ) (t : Table) : Type 0 where
  pub tens : start_of_base t.base + 10 * length t.cumulatives.items ≤ next
  pub loaded : AreLoaded (start_of_base t.base) next t.loaded.items
  pub oldest : t.oldest ≤ next - 1
  pub widths : t.widths ≡ widths_of t.evolving.value
