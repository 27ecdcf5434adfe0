-- Laws of batches.
use Rattle.std.specs.Prelude.{◌≡◌, ℕ, List, [], ◌∷◌, map, Ok, Err}
use Rattle.std.specs.Result.{MatchResult}
use Rattle.mesa_list.specs.Checks.{◌>>◌}
use Rattle.mesa_schema.specs.mesa_columns.declared.changes.Change.{Change}
use Rattle.mesa_schema.specs.mesa_columns.declared.rows.Row.{Row}
use Rattle.mesa_schema.specs.mesa_columns.Columns.{Columns, aggs_of}
use Rattle.mesa_schema.specs.mesa_columns.Changes.{changed, lifted_once}
use Rattle.mesa_schema.specs.Lineages.{HasDefault}
use Rattle.mesa_schema.specs.mesa_fold.Folded.{folded}
use Rattle.mesa_schema.specs.mesa_columns.Rows.{AreRowsOf}
use Rattle.mesa_batch.specs.declared.words.RowWords.{RowWords}
use Rattle.mesa_batch.specs.Totals.{AreAtMost, abs_totals, totals_after}
use Rattle.mesa_batch.specs.Batch.{Named, Placed, batch_from, batch_of, columns_at, rows_for}
use Rattle.mesa_batch.specs.Gathered.{each_once, with_row}

-- A table's rows of a batch have the form of its columns, and so has their fold.
abbrev pub KeepsForms : Type 0
KeepsForms = (tables : List Named) (words : List RowWords) (batch : List Placed) (table : ℕ) → batch_of tables words ≡ Ok batch
    → AreRowsOf (columns_at table tables) (rows_for table batch) × AreRowsOf (columns_at table tables) (folded (aggs_of (columns_at table tables)) (rows_for table batch ∷ []))

-- Rows may be read one after another, and their keys compared once all are read, or those before the first that can't be.
abbrev pub GoesRowByRow : Type 0
GoesRowByRow = (tables : List Named) (before : List Placed) (words : RowWords) (rest : List RowWords)
    → MatchResult (with_row tables before words) (λ rows. (each_once before >> batch_from tables before (words ∷ rest)) ≡ (each_once rows >> batch_from tables rows rest))
    (λ refusal. (each_once before >> batch_from tables before (words ∷ rest)) ≡ (each_once before >> Err refusal))

-- Totals that bound those of rows bound, after a change whose default is one of its column, those of the lifted rows.
abbrev pub TotalsLast : Type 0
TotalsLast = (s : Columns) (change : Change) (rows : List Row) (totals : List ℕ) → HasDefault change → AreRowsOf s rows → AreAtMost (abs_totals s rows) totals
    → AreAtMost (abs_totals (changed s change) (map (lifted_once s change) rows)) (totals_after s change totals)
