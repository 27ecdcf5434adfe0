-- What every catalogue keeps, whatever records made it.
use Rattle.std.specs.Prelude.{◌≡◌, ℕ, ◌+◌, ◌<◌, ◌≤◌, ◌⊎◌, List, ◌++◌, length, map, flat_map, IfSome, IsTrue, is_none}
use Rattle.std.specs.List.{AllByRecursion}
use Rattle.mesa_history_spec.specs.mesa_columns.Names.{repeated}
use Rattle.mesa_history_spec.specs.mesa_columns.Columns.{aggs_of}
use Rattle.mesa_history_spec.specs.mesa_schema.Changes.{Lineage, columns_of, epoch_of}
use Rattle.mesa_history_spec.specs.mesa_schema.Lineages.{IsLineage}
use Rattle.mesa_history_spec.specs.mesa_batch.Totals.{sum_bound, sums_in}
use Rattle.mesa_history_spec.specs.mesa_span.Ranges.{IsReachable}
use Rattle.mesa_history_spec.specs.mesa_model.Warehouse.{max_tables, max_versions}
use Rattle.mesa_store_spec.specs.Catalog.{Delta, Ending, TableMeta, Catalog, ranges_of, start_in}
use Rattle.mesa_store_spec.specs.Fitting.{base_deltas, delta_in, deltas_of, names_in}

-- The totals that are recorded with a delta, if any are, are within the bound.
abbrev pub IsWithinBound : Delta → Type 0
IsWithinBound d = IfSome d.totals (λ totals. AllByRecursion (λ total. total < sum_bound) totals)

-- the base and the cumulatives of a table
abbrev pub merged_deltas : TableMeta → List Delta
merged_deltas t = base_deltas t.base ++ map delta_in t.cumulatives

-- A delta is of an epoch that its table has had since it was made or recast.
abbrev pub HasBegun : Lineage → Delta → Type 0
HasBegun l d = l.begins ≤ d.epoch

-- So is a singleton, if it has files; one without rows has none of its own.
abbrev pub HasBegunIfAny : Lineage → Delta → Type 0
HasBegunIfAny l d = IfSome d.files (λ f. l.begins ≤ d.epoch)

-- A table of a catalogue: its columns followed the rules; it has a total for each sum column, within the bound; its oldest version is one that is there, where there is any, and isn't below the floor; its singletons are those of the versions behind its base, which ends before the oldest version or at it; its cumulatives are what works make, of versions that are there; its deltas have epochs that it has had, those of merged ranges and of files since it was made or last recast; and recorded totals are within the bound, if any.
pub record IsShaped (floor next : ℕ) (t : TableMeta) : Type 0 where
  pub lineage : IsLineage t.lineage
  pub totals : length t.totals ≡ sums_in (aggs_of (columns_of t.lineage))
  pub bounded : AllByRecursion (λ total. total < sum_bound) t.totals
  pub above : floor ≤ t.oldest
  pub oldest : (t.oldest < next) ⊎ ((t.oldest ≡ 0) × (next ≡ 0))
  pub singles : start_in t + length t.singles ≡ next
  pub base : start_in t ≤ t.oldest + 1
  pub reachable : IsReachable (ranges_of t)
  pub ends : AllByRecursion (λ (e : Ending). e.to < next) t.cumulatives
  pub epochs : AllByRecursion (λ (d : Delta). d.epoch ≤ epoch_of t.lineage) (deltas_of t)
  pub merged_begun : AllByRecursion (HasBegun t.lineage) (merged_deltas t)
  pub singles_begun : AllByRecursion (HasBegunIfAny t.lineage) t.singles
  pub recorded : AllByRecursion IsWithinBound (deltas_of t)

-- A catalogue: its tables are shaped, no two relations have one name, the floor is a version that is there where there is any, and there are not too many tables or versions.
pub record IsCatalog (c : Catalog) : Type 0 where
  pub tables : AllByRecursion (IsShaped c.floor c.next) c.tables
  pub names : IsTrue (is_none (repeated (flat_map names_in c.tables)))
  pub floor : (c.floor < c.next) ⊎ ((c.floor ≡ 0) × (c.next ≡ 0))
  pub few : length c.tables ≤ max_tables
  pub most : c.next ≤ max_versions
