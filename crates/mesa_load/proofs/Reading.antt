-- A load's rows, read one after another.
use Rattle.std.proofs.Common.{◌≡◌, ◌≢◌, ℕ, ◌+◌, ◌<◌, List, [], ◌∷◌, drop, length, Ok, Err, sym, ap, subst, ◌∙◌}
use Rattle.std.specs.Prelude.{Some, Result, slice_get, OnOk, IfErr, unwrap_or}
use Rattle.std.specs.Result.{MatchResult, result_err}
use Rattle.mesa_batch.specs.mesa_list.Checks.{◌>>◌}
use Rattle.mesa_open_files.specs.mesa_value.declared.Agg.{Agg}
use Rattle.mesa_open_files.specs.mesa_columns.declared.rows.Row.{Row}
use Rattle.mesa_open_files.specs.mesa_columns.Columns.{Columns, aggs_of}
use Rattle.mesa_open_files.specs.mesa_fold.Folded.{folded}
use Rattle.mesa_open_files.specs.mesa_columns.Rows.{AreRowsOf}
use Rattle.mesa_batch.specs.declared.words.BatchError.{BatchError}
use Rattle.mesa_batch.specs.declared.words.BatchError.TheVariants.{Memory}
use Rattle.mesa_batch.specs.declared.words.RowWords.{RowWords}
use Rattle.mesa_batch.specs.Batch.{Named, Placed, batch_from, batch_of, columns_at, rows_for}
use Rattle.mesa_batch.specs.Gathered.{Batched, each_once, rows_at, with_row}
use Rattle.mesa_batch.specs.Glance.{Sight, columns_in, tables_of}
use Rattle.mesa_batch.specs.Laws.{GoesRowByRow, KeepsForms}
use Rattle.mesa_batch.specs.Totals.{abs_totals}
use Rattle.mesa_load.specs.Plans.{IsBatched}
use Rattle.mesa_load.proofs.Places.{splits_at}

-- what keys compared behind rows and then other rows give
abbrev pub given : List Named → List Placed → List RowWords → Result (List Placed) BatchError
given tables before rows = each_once before >> batch_from tables before rows

-- the next row is what stands before the rest
rest_from : GoesRowByRow → (tables : List Named) (before : List Placed) (rows : List RowWords) (i : ℕ) (words : RowWords) (r : Result (List Placed) BatchError) → i < length rows → slice_get rows i ≡ Some words
    → with_row tables before words ≡ r → MatchResult r (λ placed. given tables before (drop i rows) ≡ given tables placed (drop (i + 1) rows)) (λ e. given tables before (drop i rows) ≡ (each_once before >> Err e))
rest_from law tables before rows i words r lt at is =
    let s = splits_at i rows lt in
    let same : s.x ≡ words = cc (s.at, at) in
    let next : drop i rows ≡ words ∷ drop (i + 1) rows = s.back ∙ ap (λ (w : RowWords). w ∷ drop (i + 1) rows) same in
    subst (λ (l : List RowWords). MatchResult r (λ placed. given tables before l ≡ given tables placed (drop (i + 1) rows)) (λ e. given tables before l ≡ (each_once before >> Err e))) (sym next)
    (subst (λ (v : Result (List Placed) BatchError). MatchResult v (λ placed. given tables before (words ∷ drop (i + 1) rows) ≡ given tables placed (drop (i + 1) rows)) (λ e. given tables before (words ∷ drop (i + 1) rows) ≡ (each_once before >> Err e))) is
    (law tables before words (drop (i + 1) rows)))

pub read_next : GoesRowByRow → (tables : List Named) (before new : List Placed) (rows : List RowWords) (i : ℕ) (words : RowWords) → i < length rows → slice_get rows i ≡ Some words
    → with_row tables before words ≡ Ok new → batch_of tables rows ≡ given tables before (drop i rows) → batch_of tables rows ≡ given tables new (drop (i + 1) rows)
read_next law tables before new rows i words lt at is so_far = so_far ∙ rest_from law tables before rows i words (Ok new) lt at is

-- what is told of a row that is refused: a key that came twice before it, or its own refusal
pub read_refused : GoesRowByRow → (tables : List Named) (before : List Placed) (e : BatchError) (rows : List RowWords) (i : ℕ) (words : RowWords) (last : Result Batched BatchError) → i < length rows → slice_get rows i ≡ Some words
    → (e ≢ Memory → with_row tables before words ≡ Err e) → batch_of tables rows ≡ given tables before (drop i rows) → OnOk last (each_once before ≡ Ok tt) → IfErr last (λ d. d ≢ Memory → each_once before ≡ Err d)
    → unwrap_or (result_err last) e ≢ Memory → batch_of tables rows ≡ Err (unwrap_or (result_err last) e)
read_refused law tables before e rows i words (Ok b) lt at is so_far once twice other =
    so_far ∙ rest_from law tables before rows i words (Err e) lt at (is other) ∙ ap (λ (r : Result (Unit {0}) BatchError). r >> Err e) once
read_refused law tables before e rows i words (Err d) lt at is so_far once twice other = so_far ∙ ap (λ (r : Result (Unit {0}) BatchError). r >> batch_from tables before (drop i rows)) (twice other)

-- all rows were read
pub read_all : (tables : List Named) (batch : List Placed) (rows : List RowWords) (i : ℕ) → drop i rows ≡ [] → batch_of tables rows ≡ given tables batch (drop i rows) → batch_of tables rows ≡ (each_once batch >> Ok batch)
read_all tables batch rows i none so_far = so_far ∙ ap (given tables batch) none

-- a batch by tables is what was read
pub batched : KeepsForms → (sight : Sight) (words : List RowWords) (batch : List Placed) (b : Batched) → batch_of (tables_of sight) words ≡ Ok batch
    → ((table : ℕ) (aggs : List Agg) → rows_at table b ≡ folded aggs (rows_for table batch ∷ []))
    → ((table : ℕ) (s : Columns) → abs_totals s (rows_at table b) ≡ abs_totals s (rows_for table batch))
    → (0 < length batch → b.columns ≡ columns_in sight) → IsBatched sight batch b
batched law sight words batch b read rows totals columns = record {
  rows = rows;
  totals = totals;
  form = λ table. subst (λ (rs : List Row). AreRowsOf (columns_at table (tables_of sight)) rs) (sym (rows table (aggs_of (columns_at table (tables_of sight))))) (law (tables_of sight) words batch table read).1;
  columns = columns;
}
