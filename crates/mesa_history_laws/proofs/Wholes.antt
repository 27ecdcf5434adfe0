-- A load changes all tables or none, and what is refused changes nothing.
use Rattle.std.proofs.Common.{◌≡◌, ℕ, zero, suc, ◌+◌, ◌-◌, ◌<◌, ◌≤◌, List, [], ◌∷◌, length, get_or, refl, ◌∙◌, ap, arith, Some, Result, Ok, Err, nat_le, inl, inr}
use Rattle.std.proofs.lemmas.List.{get_or_append_left, get_or_push}
use Rattle.std.proofs.lemmas.Option.{slice_get-get_or}
use Rattle.mesa_history_spec.specs.mesa_columns.declared.rows.Row.{Row}
use Rattle.mesa_history_spec.specs.mesa_columns.declared.views.View.{View}
use Rattle.mesa_history_spec.specs.mesa_columns.Columns.{aggs_of}
use Rattle.mesa_history_spec.specs.mesa_schema.Views.{view_key_places, view_value_places}
use Rattle.mesa_history_spec.specs.mesa_schema.Changes.{columns_of}
use Rattle.mesa_history_spec.specs.mesa_fold.Folded.{folded, grouped}
use Rattle.mesa_history_spec.specs.mesa_batch.declared.words.RowWords.{RowWords}
use Rattle.mesa_history_spec.specs.mesa_batch.Batch.{Placed, batch_of, rows_for}
use Rattle.mesa_history_spec.specs.mesa_model.declared.commands.Command.TheVariants as command
use Rattle.mesa_history_spec.specs.mesa_model.declared.replies.Refusal.{Refusal}
use Rattle.mesa_history_spec.specs.mesa_model.declared.replies.Reply.{Reply}
use Rattle.mesa_history_spec.specs.mesa_model.Relations.{relation_content}
use Rattle.mesa_history_spec.specs.mesa_model.Warehouse.{Table, Warehouse, content_at, max_versions, no_table, table_at}
use Rattle.mesa_history_spec.specs.mesa_model.WellFormed.{IsTable, IsWellFormed}
use Rattle.mesa_history_spec.specs.mesa_model.Load.{bounds_checked, load_batch, newest_content, table_loaded, tables_loaded, tables_named, with_batch}
use Rattle.mesa_history_spec.specs.mesa_model.Step.{done_or_refused, step}
use Rattle.mesa_history_spec.specs.mesa_model.Refusals.{refuse_closed}
use Rattle.mesa_history_laws.specs.Whole.{HasBatch, HasWhole, IsWholeOrNone}
use Rattle.mesa_history_laws.proofs.Checks.{after_check, after_other, after_refuse_if}
use Rattle.mesa_history_laws.proofs.LawLoads.{length_loaded, newest_last}
use Rattle.mesa_history_spec.proofs.mesa_columns.Lists.{all_got}
use Rattle.mesa_history_laws.proofs.WellFormed.{kept_there}

-- the table of a number after a load
loaded_at : (batch : List Placed) (n : ℕ) (tables : List Table) (i : ℕ) → i < length tables → get_or (tables_loaded batch n tables) i no_table ≡ table_loaded (get_or tables i no_table) (rows_for (n + i) batch)
loaded_at batch n [] i lt = absurd (omega (arith, lt))
loaded_at batch n (t ∷ tables) zero lt = ap (λ k. table_loaded t (rows_for k batch)) (omega arith)
loaded_at batch n (t ∷ tables) (suc i) lt =
    let place : n + 1 + i ≡ n + suc i = omega arith in
    loaded_at batch (n + 1) tables i (omega (arith, lt)) ∙ ap (λ k. table_loaded (get_or tables i no_table) (rows_for k batch)) place

module _ (w : Warehouse) (is : IsWellFormed w) (batch : List Placed) where
  abbrev after : Warehouse
  after = with_batch w batch

  -- the newest content of a table is that of the version before the new one
  newest_is : (t : Table) → IsTable w t → newest_content t.contents ≡ content_at t (w.next - 1)
  newest_is t table =
      let count = table.versions in
      newest_last t.contents ∙ (elim (kept_there w.next t.oldest table.oldest) as (λ _. get_or t.contents (length t.contents - 1) [] ≡ content_at t (w.next - 1)) [
        | inl lt ↦ (let place : length t.contents - 1 ≡ w.next - 1 - t.oldest = omega (arith, count, lt) in ap (λ i. get_or t.contents i []) place)
        | inr empty ↦ (let place : length t.contents - 1 ≡ w.next - 1 - t.oldest = omega (arith, count, empty.0, empty.1) in ap (λ i. get_or t.contents i []) place)
      ])

  -- the contents of a loaded table
  loaded_new : (t : Table) (rows : List Row) → IsTable w t → content_at (table_loaded t rows) w.next ≡ folded (aggs_of (columns_of t.lineage)) (content_at t (w.next - 1) ∷ rows ∷ [])
  loaded_new t rows table =
      let count = table.versions in
      get_or_push t.contents (folded (aggs_of (columns_of t.lineage)) (newest_content t.contents ∷ rows ∷ [])) [] (w.next - t.oldest) count
      ∙ ap (λ (newest : List Row). folded (aggs_of (columns_of t.lineage)) (newest ∷ rows ∷ [])) (newest_is t table)

  loaded_old : (t : Table) (rows : List Row) (version : ℕ) → IsTable w t → t.oldest ≤ version → version < w.next → content_at (table_loaded t rows) version ≡ content_at t version
  loaded_old t rows version table le lt =
      let count = table.versions in
      get_or_append_left t.contents (folded (aggs_of (columns_of t.lineage)) (newest_content t.contents ∷ rows ∷ []) ∷ []) [] (version - t.oldest) (omega (arith, count, le, lt))

  has_batch : (number : ℕ) → number < length w.store.tables → HasBatch w batch after number
  has_batch number lt =
      let t : Table = table_at w.store number in
      let rows : List Row = rows_for number batch in
      let at : 0 + number ≡ number = omega arith in
      let loaded : table_at after.store number ≡ table_loaded t rows = loaded_at batch 0 w.store.tables number lt ∙ ap (λ k. table_loaded t (rows_for k batch)) at in
      let table : IsTable w t = all_got (IsTable w) w.store.tables number t (slice_get-get_or w.store.tables number no_table lt) is.tables in
      record {
        name = ap (λ (x : Table). x.name) loaded;
        lineage = ap (λ (x : Table). x.lineage) loaded;
        oldest = ap (λ (x : Table). x.oldest) loaded;
        new = ap (λ (x : Table). content_at x w.next) loaded ∙ loaded_new t rows table;
        old = λ version le below. ap (λ (x : Table). content_at x version) loaded ∙ loaded_old t rows version table le below;
      }

  has_whole : (rows : List RowWords) → batch_of (tables_named w.store) rows ≡ Ok batch → HasWhole w rows w.next (length batch) after
  has_whole rows read = record { batch = batch; read = read; numbered = refl; counted = refl; tables = has_batch; rest = refl; no_more = length_loaded batch 0 w.store.tables }

-- what is true of a load once it was done or refused
record Whole (w : Warehouse) (rows : List RowWords) (r : Result (Warehouse × Reply) Refusal) : Type 0 where
  holds : IsWholeOrNone w rows (done_or_refused w r).0 (done_or_refused w r).1

-- A load changes all tables or none.
pub whole_or_none : (w : Warehouse) (session : ℕ) (rows : List RowWords) → IsWellFormed w → IsWholeOrNone w rows (step w session (command.Load rows)).0 (step w session (command.Load rows)).1
whole_or_none w session rows is =
    let W = Whole w rows in
    let no : (e : Refusal) → W (Err e) = λ e. record { holds = refl } in
    let all : W (load_batch w rows) =
    after_check W no (refuse_closed w.closed) _ (λ open'. after_other W no _ (batch_of (tables_named w.store) rows) _ (λ batch read. after_refuse_if W no (nat_le max_versions w.next) _ _ (λ room. after_check W no (bounds_checked batch 0 w.store.tables) _ (λ bound.
    record { holds = has_whole w is batch rows read })))) in
    all.holds

-- A view's content is its table's content, grouped by the view's columns.
pub view_is : (number version : ℕ) (t : Table) (view : View)
    → relation_content (record { number = number; table = t; view = Some view }) version ≡ grouped (columns_of t.lineage) (view_key_places (columns_of t.lineage) view) (view_value_places (columns_of t.lineage) view) (content_at t version)
view_is number version t view = refl
