-- Sound images, and what they stand for.
use Rattle.std.specs.Prelude.{◌≡◌, ℕ, ◌+◌, ◌-◌, List, [], ◌++◌, map, take, Option, Some, None, IfSome, slice_get}
use Rattle.std.specs.List.{AllByRecursion}
use Rattle.std.specs.FinMap.{empty}
use Rattle.mesa_history_spec.specs.mesa_columns.declared.rows.Row.{Row}
use Rattle.mesa_history_spec.specs.mesa_columns.declared.views.View.{View}
use Rattle.mesa_history_spec.specs.mesa_columns.Columns.{aggs_of}
use Rattle.mesa_history_spec.specs.mesa_schema.Changes.{Lineage, columns_at, columns_of}
use Rattle.mesa_history_spec.specs.mesa_schema.Views.{view_rows}
use Rattle.mesa_history_spec.specs.mesa_fold.Folded.{folded, rows_of}
use Rattle.mesa_history_spec.specs.mesa_batch.Totals.{AreAtMost, abs_totals}
use Rattle.mesa_commit.specs.mesa_disk.Image.{Image}
use Rattle.mesa_commit.specs.mesa_disk.declared.area.Area.{Area}
use Rattle.mesa_commit.specs.mesa_journal.Areas.{HasJournal}
use Rattle.mesa_commit.specs.Images.{Has}
use Rattle.mesa_record.specs.declared.record.ViewRef.{ViewRef}
use Rattle.mesa_delta_format.specs.mesa_block.Layout.{Layout}
use Rattle.mesa_delta_format.specs.File.{IsFile, file_bytes}
use Rattle.mesa_delta_format.specs.Summary.{IsReferenceOf, file_layout}
use Rattle.mesa_history_spec.specs.Found.{Kept}
use Rattle.mesa_store_spec.specs.Catalog.{Delta, Ending, TableMeta, Catalog, start_in}
use Rattle.mesa_store_spec.specs.Fitting.{LiveFile, base_deltas, deltas_of, live_files, meta_live}
use Rattle.mesa_store_spec.specs.Journaled.{catalog}
use Rattle.mesa_store_spec.specs.Contents.{Rows, rows_in, present, kept_of}

-- ---- files

-- how a file's rows stand in its blocks
abbrev pub layout_of : LiveFile → Layout
layout_of x = file_layout x.columns x.file

-- the bytes of a file's rows
abbrev pub bytes_of : Rows → LiveFile → List ℕ
bytes_of rows x = file_bytes (layout_of x) (rows x.file.id)

-- a file's id, and the bytes that it has
abbrev pub wanted : Rows → LiveFile → ℕ × List ℕ
wanted rows x = (x.file.id, bytes_of rows x)

-- files by their ids, with their bytes
abbrev pub wants : Rows → List LiveFile → List (ℕ × List ℕ)
wants rows files = map (wanted rows) files

-- The rows make a file of the columns, and its reference is true of it.
pub record IsTold (rows : Rows) (x : LiveFile) : Type 0 where
  pub file : IsFile (layout_of x) (rows x.file.id) (bytes_of rows x)
  pub true : IsReferenceOf (layout_of x) x.file.id (rows x.file.id) x.file

-- ---- what holds of the rows

-- A cumulative's rows are the fold of its range's singletons, both lifted to the present epoch.
abbrev pub IsMerged : Rows → TableMeta → Ending → Type 0
IsMerged rows t e = present rows t.lineage e.delta ≡ folded (aggs_of (columns_of t.lineage)) (map (present rows t.lineage) (take (e.to + 1 - start_in t) t.singles))

abbrev pub IsGroupedAs : Rows → Lineage → Delta → Option View → ViewRef → Type 0
IsGroupedAs rows l d None v = ⊥
IsGroupedAs rows l d (Some view) v = rows v.file.id ≡ view_rows (columns_of l) view (present rows l d)

-- A view file's rows are its delta's table rows, lifted to the present epoch and grouped.
abbrev pub IsGrouped : Rows → Lineage → Delta → ViewRef → Type 0
IsGrouped rows l d v = IsGroupedAs rows l d (slice_get l.views v.view) v

-- Each of a delta's view files is grouped from its rows.
abbrev pub AreGrouped : Rows → Lineage → Delta → Type 0
AreGrouped rows l d = IfSome d.files (λ f. AllByRecursion (IsGrouped rows l d) f.views)

-- A singleton's recorded totals are those of its rows.
abbrev pub IsTotalled : Rows → Lineage → Delta → Type 0
IsTotalled rows l d = IfSome d.totals (λ totals. totals ≡ abs_totals (columns_at l d.epoch) (rows_in rows d))

-- the rows of the base and of all singletons, each lifted to the present epoch
abbrev pub all_parts : Rows → TableMeta → List (List Row)
all_parts rows t = map (present rows t.lineage) (base_deltas t.base ++ t.singles)

-- What holds of a table's rows in a sound image: each file has its recorded form; cumulatives are merged, and view files grouped, from what they stand for; recorded totals are true; and the absolute values of all rows add up to at most the table's totals.
pub record HasSoundRows (rows : Rows) (t : TableMeta) : Type 0 where
  pub files : AllByRecursion (IsTold rows) (meta_live t)
  pub merged : AllByRecursion (IsMerged rows t) t.cumulatives
  pub grouped : AllByRecursion (AreGrouped rows t.lineage) (deltas_of t)
  pub totals : AllByRecursion (IsTotalled rows t.lineage) t.singles
  pub bound : AreAtMost (abs_totals (columns_of t.lineage) (rows_of (all_parts rows t))) t.totals

-- It holds of each table.
abbrev pub HaveSoundRows : Rows → Catalog → Type 0
HaveSoundRows rows c = AllByRecursion (HasSoundRows rows) c.tables

-- ---- images

-- An image's journal is whole and its bodies make this catalogue, the files that the catalogue names are there with these rows, and what holds of rows holds of these.
pub record IsSoundAs (image : Image) (bodies : List (List ℕ)) (c : Catalog) (rows : Rows) : Type 0 where
  pub live : Area
  pub end : ℕ
  pub journal : HasJournal image live bodies end
  pub records : catalog live bodies ≡ Some c
  pub files : Has (wants rows (live_files c)) image
  pub rows_are : HaveSoundRows rows c

-- Sound: there are such bodies, such a catalogue and such rows.
pub record IsSound (image : Image) : Type 0 where
  pub bodies : List (List ℕ)
  pub catalogue : Catalog
  pub rows : Rows
  pub is : IsSoundAs image bodies catalogue rows

-- An image is sound and stands for this.
pub record StandsFor (image : Image) (kept : Kept) : Type 0 where
  pub bodies : List (List ℕ)
  pub catalogue : Catalog
  pub rows : Rows
  pub is : IsSoundAs image bodies catalogue rows
  pub same : kept ≡ kept_of rows catalogue

-- An image in which nothing was written.
abbrev pub empty_image : Image
empty_image = record { zero = []; one = []; files = empty }
