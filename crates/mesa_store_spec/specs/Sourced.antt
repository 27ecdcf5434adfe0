-- What the rows of a delta were made of: what a run found of a table when it began, and what the batches brought to it since, carried through its recasts.
use Rattle.std.specs.Prelude.{◌≡◌, ℕ, ◌+◌, ◌<◌, ◌≤◌, List, [], ◌∷◌, ◌++◌, map, length, Option, None, Some, IfSome, ⊤}
use Rattle.std.specs.List.{AllByRecursion}
use Rattle.mesa_history_spec.specs.mesa_schema.Changes.{Lineage, columns_at, columns_of, epoch_of}
use Rattle.mesa_history_spec.specs.mesa_columns.Rows.{AreRowsOf}
use Rattle.mesa_history_spec.specs.mesa_batch.Batch.{Named, Placed, rows_for}
use Rattle.mesa_history_spec.specs.mesa_span.Ranges.{Rise}
use Rattle.mesa_history_spec.specs.Law.{Writing, written_through}
use Rattle.mesa_history_spec.specs.Sources.{Source, Written, range_rows, sources_from, version_written}
use Rattle.mesa_store_spec.specs.Catalog.{Catalog, Delta, Ending, TableMeta, start_in}
use Rattle.mesa_store_spec.specs.Contents.{Rows, kept_of, rows_in, present}

-- ---- what was written

-- a delta's rows as it has them
abbrev pub source_of : Rows → Delta → Source
source_of rows d = record { epoch = d.epoch; rows = rows_in rows d }

-- the singletons from a version on
abbrev pub singles_written : Rows → ℕ → List Delta → List Written
singles_written rows version [] = []
singles_written rows version (d ∷ singles) = record { version = version; source = source_of rows d } ∷ singles_written rows (version + 1) singles

-- the base, as if its last version had made all of it
abbrev pub base_written : Rows → Option Ending → List Written
base_written rows None = []
base_written rows (Some e) = record { version = e.to; source = source_of rows e.delta } ∷ []

-- What a run finds written of a table: its base and its singletons.
abbrev pub found_written : Rows → TableMeta → List Written
found_written rows t = base_written rows t.base ++ singles_written rows (start_in t) t.singles

-- What stands written of each table behind a turn of the warehouse for which a catalogue stands.
abbrev pub written_behind : Rows → Catalog → Writing → (ℕ → List Written) → ℕ → List Written
written_behind rows c w written number = written_through (kept_of rows c).store w number (written number)

-- Rows are of an epoch that the table had, and have the form of its columns then.
pub record HasForm (l : Lineage) (s : Source) : Type 0 where
  pub epoch : s.epoch ≤ epoch_of l
  pub form : AreRowsOf (columns_at l s.epoch) s.rows

-- What was written of a table, by rising versions, each in the form of its epoch.
pub record AreWritten (l : Lineage) (written : List Written) : Type 0 where
  pub rise : Rise 0 (map version_written written)
  pub forms : AllByRecursion (λ (w : Written). HasForm l w.source) written

-- ---- what deltas were made of

-- A delta that covers these versions has, lifted to the present epoch, the rows to which what was written in them folds.
abbrev pub IsMadeOf : Rows → Lineage → List Written → ℕ → ℕ → Delta → Type 0
IsMadeOf rows l written from to d = present rows l d ≡ range_rows l (epoch_of l) (sources_from from to written)

-- so each singleton from a version on
abbrev pub AreMadeOf : Rows → Lineage → List Written → ℕ → List Delta → Type 0
AreMadeOf rows l written version [] = ⊤
AreMadeOf rows l written version (d ∷ singles) = IsMadeOf rows l written version version d × AreMadeOf rows l written (version + 1) singles

-- What was written of a table is of versions that are there, and each of its deltas has the rows of its range: the base those from the first version on, a cumulative those behind the base, and a singleton those of its version.
pub record IsSourced (rows : Rows) (written : List Written) (t : TableMeta) : Type 0 where
  pub are : AreWritten t.lineage written
  pub there : AllByRecursion (λ (w : Written). w.version < start_in t + length t.singles) written
  pub base : IfSome t.base (λ (e : Ending). IsMadeOf rows t.lineage written 0 e.to e.delta)
  pub cumulatives : AllByRecursion (λ (e : Ending). IsMadeOf rows t.lineage written (start_in t) e.to e.delta) t.cumulatives
  pub singles : AreMadeOf rows t.lineage written (start_in t) t.singles

-- so each table from a number on
abbrev pub AreSourced : Rows → (ℕ → List Written) → ℕ → List TableMeta → Type 0
AreSourced rows written number [] = ⊤
AreSourced rows written number (t ∷ tables) = IsSourced rows (written number) t × AreSourced rows written (number + 1) tables

-- ---- what a work makes

-- A delta has, in its own epoch, the rows to which what was written in a range folds, all of which is of that epoch or an earlier one.
pub record IsMergedOf (rows : Rows) (l : Lineage) (written : List Written) (from to : ℕ) (d : Delta) : Type 0 where
  pub epochs : AllByRecursion (λ (s : Source). s.epoch ≤ d.epoch) (sources_from from to written)
  pub rows_are : rows_in rows d ≡ range_rows l d.epoch (sources_from from to written)

-- Nothing is written: no rows, in the first epoch.
abbrev pub IsUnwritten : Written → Type 0
IsUnwritten w = (w.source.epoch ≡ 0) × (w.source.rows ≡ [])

-- ---- a whole catalogue

-- What was written of a table to come: nothing yet, in versions that were there.
pub record AreToCome (next : ℕ) (written : List Written) : Type 0 where
  pub nothing : AllByRecursion IsUnwritten written
  pub rise : Rise 0 (map version_written written)
  pub there : AllByRecursion (λ (w : Written). w.version < next) written

-- Each table of a catalogue was made of what was written of it, and of other tables nothing was written yet.
pub record HasSources (rows : Rows) (written : ℕ → List Written) (c : Catalog) : Type 0 where
  pub tables : AreSourced rows written 0 c.tables
  pub others : (number : ℕ) → length c.tables ≤ number → AreToCome c.next (written number)

-- A batch's rows for each table from a number on have the form of its present columns.
abbrev pub AreFormed : List Placed → ℕ → List TableMeta → Type 0
AreFormed batch number [] = ⊤
AreFormed batch number (t ∷ tables) = AreRowsOf (columns_of t.lineage) (rows_for number batch) × AreFormed batch (number + 1) tables

-- A batch may be accepted: it has rows of the present form for the tables that are there, and none for others.
pub record IsAccepted (c : Catalog) (batch : List Placed) : Type 0 where
  pub formed : AreFormed batch 0 c.tables
  pub within : (number : ℕ) → length c.tables ≤ number → rows_for number batch ≡ []

-- the tables by which a load's rows are read
abbrev pub tables_read : Catalog → List Named
tables_read c = map (λ (t : TableMeta). record { name = t.name; columns = columns_of t.lineage }) c.tables
