-- A batch is seen whole: in all tables at once, or in none.
use Rattle.std.specs.Prelude.{◌≡◌, ℕ, ◌+◌, ◌-◌, ◌<◌, ◌≤◌, List, [], ◌∷◌, length, Ok}
use Rattle.mesa_history_spec.specs.mesa_columns.Columns.{aggs_of}
use Rattle.mesa_history_spec.specs.mesa_schema.Changes.{columns_of}
use Rattle.mesa_history_spec.specs.mesa_fold.Folded.{folded}
use Rattle.mesa_history_spec.specs.mesa_batch.declared.words.RowWords.{RowWords}
use Rattle.mesa_history_spec.specs.mesa_batch.Batch.{Placed, batch_of, rows_for}
use Rattle.mesa_history_spec.specs.mesa_model.declared.replies.Reply.{Reply}
use Rattle.mesa_history_spec.specs.mesa_model.declared.replies.Reply.TheVariants as reply
use Rattle.mesa_history_spec.specs.mesa_model.Warehouse.{Warehouse, content_at, table_at}
use Rattle.mesa_history_spec.specs.mesa_model.Load.{tables_named}

-- A table's contents after a batch: at the new version the fold of the newest content and of the batch's rows of the table, at the versions before it what was there; its name, columns, views and oldest version stay.
pub record HasBatch (w : Warehouse) (batch : List Placed) (after : Warehouse) (number : ℕ) : Type 0 where
  pub name : (table_at after.store number).name ≡ (table_at w.store number).name
  pub lineage : (table_at after.store number).lineage ≡ (table_at w.store number).lineage
  pub oldest : (table_at after.store number).oldest ≡ (table_at w.store number).oldest
  pub new : content_at (table_at after.store number) w.next ≡ folded (aggs_of (columns_of (table_at w.store number).lineage)) (content_at (table_at w.store number) (w.next - 1) ∷ rows_for number batch ∷ [])
  pub old : (version : ℕ) → (table_at w.store number).oldest ≤ version → version < w.next → content_at (table_at after.store number) version ≡ content_at (table_at w.store number) version

-- A warehouse after a load that was accepted: one version more, in which every table has the batch, and nothing else changed.
pub record HasWhole (w : Warehouse) (rows : List RowWords) (version count : ℕ) (after : Warehouse) : Type 0 where
  pub batch : List Placed
  pub read : batch_of (tables_named w.store) rows ≡ Ok batch
  pub numbered : version ≡ w.next
  pub counted : count ≡ length batch
  pub tables : (number : ℕ) → number < length w.store.tables → HasBatch w batch after number
  pub rest : after ≡ record w { store = record w.store { tables = after.store.tables }; next = w.next + 1 }
  pub no_more : length after.store.tables ≡ length w.store.tables

-- A load is accepted whole, or refused, and then nothing changed.
abbrev pub IsWholeOrNone : Warehouse → List RowWords → Warehouse → Reply → Type 0
IsWholeOrNone w rows after (reply.Loaded version count) = HasWhole w rows version count after
IsWholeOrNone w rows after (reply.Refused refusal) = after ≡ w
IsWholeOrNone w rows after other = ⊥
