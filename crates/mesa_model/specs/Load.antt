-- Loading a batch of rows.
use Rattle.std.specs.Prelude.{ℕ, ◌+◌, List, [], ◌∷◌, ◌++◌, map, length, nat_le, Some, None, Result, Ok, Err}
use Rattle.mesa_batch.specs.mesa_list.Checks.{◌>>=◌, ◌>>◌, refuse_if, refused_as}
use Rattle.mesa_columns.specs.declared.rows.Row.{Row}
use Rattle.mesa_columns.specs.Columns.{aggs_of}
use Rattle.mesa_batch.specs.mesa_schema.Changes.{columns_of}
use Rattle.mesa_batch.specs.mesa_fold.Folded.{folded}
use Rattle.mesa_batch.specs.declared.words.RowWords.{RowWords}
use Rattle.mesa_batch.specs.Batch.{Named, Placed, batch_of, rows_for}
use Rattle.mesa_batch.specs.Totals.{abs_totals, over_bound, sum_name, totals_with}
use Rattle.mesa_model.specs.declared.replies.Refusal.{Refusal}
use Rattle.mesa_model.specs.declared.replies.Refusal.TheVariants as no
use Rattle.mesa_model.specs.declared.replies.Reply.{Reply}
use Rattle.mesa_model.specs.declared.replies.Reply.TheVariants as reply
use Rattle.mesa_model.specs.Warehouse.{Table, Store, Warehouse, max_versions, with_tables}
use Rattle.mesa_model.specs.Refusals.{refuse_closed, batch_refusal}

-- the tables by which a load's rows are read
abbrev pub tables_named : Store → List Named
tables_named s = map (λ (t : Table). record { name = t.name; columns = columns_of t.lineage }) s.tables

-- for each sum column of a table the absolute values of these rows, added up
abbrev pub totals_of : Table → List Row → List ℕ
totals_of t rows = abs_totals (columns_of t.lineage) rows

-- the first sum column whose total would pass the bound with these rows
abbrev pub bound_checked : Table → List Row → Result (Unit {0}) Refusal
bound_checked t rows = elim (over_bound t.totals (totals_of t rows)) [ None ↦ Ok tt | Some place ↦ Err (no.SumBound t.name (sum_name (columns_of t.lineage) place)) ]

-- the same of the tables from a number on, in their order
abbrev pub bounds_checked : List Placed → ℕ → List Table → Result (Unit {0}) Refusal
bounds_checked batch number [] = Ok tt
bounds_checked batch number (t ∷ tables) = do
  bound_checked t (rows_for number batch)
  bounds_checked batch (number + 1) tables

-- the newest of the contents, and no rows where there is none
abbrev pub newest_content : List (List Row) → List Row
newest_content [] = []
newest_content (content ∷ []) = content
newest_content (content ∷ next ∷ contents) = newest_content (next ∷ contents)

-- a table with one version more, whose content is the fold of the newest content and the batch's rows
abbrev pub table_loaded : Table → List Row → Table
table_loaded t rows = record t {
  totals = totals_with t.totals (totals_of t rows);
  contents = t.contents ++ folded (aggs_of (columns_of t.lineage)) (newest_content t.contents ∷ rows ∷ []) ∷ [];
}

-- the tables from a number on, each with its rows of the batch
abbrev pub tables_loaded : List Placed → ℕ → List Table → List Table
tables_loaded batch number [] = []
tables_loaded batch number (t ∷ tables) = table_loaded t (rows_for number batch) ∷ tables_loaded batch (number + 1) tables

-- the warehouse with a version more: one batch is seen in all tables at once
abbrev pub with_batch : Warehouse → List Placed → Warehouse
with_batch w batch = record (with_tables w (tables_loaded batch 0 w.store.tables)) { next = w.next + 1 }

-- The warehouse with a batch more, or the first refusal.
abbrev pub load_batch : Warehouse → List RowWords → Result (Warehouse × Reply) Refusal
load_batch w rows = do
  refuse_closed w.closed
  batch ← refused_as batch_refusal (batch_of (tables_named w.store) rows)
  refuse_if (nat_le max_versions w.next) (no.VersionsFull max_versions)
  bounds_checked batch 0 w.store.tables
  Ok (with_batch w batch, reply.Loaded w.next (length batch))
