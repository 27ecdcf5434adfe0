-- What holds of the tables of a plain warehouse, whatever was done to it.
use Rattle.std.specs.Prelude.{◌≡◌, ℕ, ◌+◌, ◌<◌, ◌≤◌, ◌⊎◌, List, length, slice_get, Some}
use Rattle.std.specs.List.{AllByRecursion}
use Rattle.mesa_answer.specs.mesa_columns.declared.rows.Row.{Row}
use Rattle.mesa_answer.specs.mesa_columns.Columns.{Columns, aggs_of}
use Rattle.mesa_answer.specs.mesa_columns.Rows.{AreRowsOf}
use Rattle.mesa_schema.specs.Changes.{columns_of}
use Rattle.mesa_batch.specs.Glance.{Known}
use Rattle.mesa_batch.specs.Totals.{AreAtMost, abs_totals, sum_bound, sums_in}
use Rattle.mesa_batch.specs.Put.{IsFold}
use Rattle.mesa_answer.specs.Answering.{KeepsSums}
use Rattle.mesa_model.specs.Warehouse.{max_tables, max_versions}
use Rattle.mesa_oracle_tables.specs.Kept.{Contents, From, contents_in, totals_in}

-- A table's content: rows of the form of its columns in the order of their keys, whose absolute values add up to at most its totals.
pub record IsHeld (s : Columns) (totals : List ℕ) (rows : List Row) : Type 0 where
  pub forms : AreRowsOf s rows
  pub fold : IsFold (aggs_of s) rows
  pub sums : AreAtMost (abs_totals s rows) totals

-- Rows of these columns may be grouped: they have their form, and no sum of them leaves its type.
pub record CanGroup (s : Columns) (rows : List Row) : Type 0 where
  pub forms : AreRowsOf s rows
  pub sums : KeepsSums s rows

-- A table has a total for each sum column, at most 2^127 - 1.
pub record HasTotals (s : Columns) (totals : List ℕ) : Type 0 where
  pub count : length totals ≡ sums_in (aggs_of s)
  pub bound : AllByRecursion (λ total. total < sum_bound) totals

-- each table has
abbrev pub HaveTotals : List Known → List (List ℕ) → Type 0
HaveTotals tables totals = (number : ℕ) (known : Known) → slice_get tables number ≡ Some known → HasTotals (columns_of known.lineage) (totals_in number totals)

-- No content of a table passes its totals.
abbrev pub AreHeld : List Known → List (List ℕ) → List Contents → Type 0
AreHeld tables totals versions = (number : ℕ) (known : Known) → slice_get tables number ≡ Some known → AllByRecursion (IsHeld (columns_of known.lineage) (totals_in number totals)) (contents_in number versions)

-- An oldest version isn't below the floor, and is one that is there, where there is any.
abbrev pub IsOldest : ℕ → ℕ → ℕ → Type 0
IsOldest floor next oldest = (floor ≤ oldest) × ((oldest < next) ⊎ ((oldest ≡ 0) × (next ≡ 0)))

-- What is kept of tables fits together: each table has totals and an oldest version, no version has a content for a table that isn't there, and the versions are those from the floor, which is one of them where there is any, to the newest.
pub record AreKept (tables : List Known) (totals : List (List ℕ)) (versions : List Contents) (from : From) (next : ℕ) : Type 0 where
  pub few : length tables ≤ max_tables
  pub count : length totals ≡ length tables
  pub oldests : length from.oldests ≡ length tables
  pub apart : AllByRecursion (IsOldest from.floor next) from.oldests
  pub widths : AllByRecursion (λ (contents : Contents). length contents ≤ length tables) versions
  pub numbers : from.floor + length versions ≡ next
  pub floor : (from.floor < next) ⊎ ((from.floor ≡ 0) × (next ≡ 0))
  pub most : next ≤ max_versions
  pub have : HaveTotals tables totals
  pub held : AreHeld tables totals versions
