-- A law of batches.
use Rattle.std.specs.Prelude.{◌≡◌, ℕ, List, [], ◌∷◌, Ok}
use Rattle.mesa_columns.specs.Columns.{Columns, aggs_of}
use Rattle.mesa_open_files.specs.mesa_fold.Folded.{folded}
use Rattle.mesa_batch.specs.declared.words.RowWords.{RowWords}
use Rattle.mesa_batch.specs.Batch.{Named, Placed, batch_of, rows_for}
use Rattle.mesa_batch.specs.Totals.{abs_totals}

-- A table's rows of a batch, of which no two have one key, have the same absolute totals one by one and by their keys.
abbrev pub KeepsTotals : Type 0
KeepsTotals = (tables : List Named) (words : List RowWords) (batch : List Placed) (table : ℕ) (s : Columns) → batch_of tables words ≡ Ok batch
    → abs_totals s (folded (aggs_of s) (rows_for table batch ∷ [])) ≡ abs_totals s (rows_for table batch)
