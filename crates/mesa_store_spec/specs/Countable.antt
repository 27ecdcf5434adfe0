-- What every catalogue keeps, so that its checkpoint fits.
use Rattle.std.specs.Prelude.{◌≡◌, ◌≤◌, length, true, IfSome}
use Rattle.std.specs.List.{AllByRecursion}
use Rattle.mesa_history_spec.specs.mesa_columns.Columns.{aggs_of}
use Rattle.mesa_history_spec.specs.mesa_schema.Changes.{Lineage, columns_at}
use Rattle.mesa_history_spec.specs.mesa_batch.Totals.{sums_in}
use Rattle.mesa_store_spec.specs.Catalog.{Delta, TableMeta, Catalog}
use Rattle.mesa_store_spec.specs.Fitting.{deltas_of, files_fit_if_any, max_runs}
use Rattle.mesa_store_spec.specs.CheckpointFits.{changes_pass}

-- A delta's files count the columns of its epoch.
abbrev pub CountsFiles : Lineage → Delta → Type 0
CountsFiles l d = files_fit_if_any l d.epoch d.files ≡ true

-- Where totals are recorded of a delta, there is one for each sum column of its epoch.
abbrev pub CountsTotals : Lineage → Delta → Type 0
CountsTotals l d = IfSome d.totals (λ totals. length totals ≡ sums_in (aggs_of (columns_at l d.epoch)))

-- A table's changes passed their rules, and its deltas count their columns.
pub record IsCounted (t : TableMeta) : Type 0 where
  pub changes : changes_pass t.lineage.first t.lineage.changes ≡ true
  pub files : AllByRecursion (CountsFiles t.lineage) (deltas_of t)
  pub totals : AllByRecursion (CountsTotals t.lineage) t.singles

pub record AreCounted (c : Catalog) : Type 0 where
  pub tables : AllByRecursion IsCounted c.tables
  pub run : c.run ≤ max_runs
