-- A command of the reference warehouse but a recast takes back no version, no expiry and no epoch, and a table more is told.
use Rattle.std.proofs.Common.{◌≡◌, ℕ, suc, ◌+◌, ◌<◌, ◌≤◌, List, [], ◌∷◌, length, refl, ap, arith, ok_or, nat_le, is_none, set, Option, Some, None}
use Rattle.std.specs.Prelude.{Result, Ok, Err, IfOk}
use Rattle.std.proofs.lemmas.List.{length-append, length-set, length-map}
use Rattle.mesa_script.specs.mesa_list.Checks.{◌>>◌, refuse_if, refuse_unless, refused_as}
use Rattle.mesa_script.specs.mesa_columns.Names.{is_name}
use Rattle.mesa_script.specs.mesa_columns.Schema.{schema_checked}
use Rattle.mesa_script.specs.mesa_columns.declared.changes.Change.{Change}
use Rattle.mesa_script.specs.mesa_schema.Changes.{columns_of, change_checked}
use Rattle.mesa_script.specs.mesa_batch.declared.words.RowWords.{RowWords}
use Rattle.mesa_script.specs.mesa_batch.Batch.{Placed, batch_of}
use Rattle.mesa_script.specs.mesa_filter.declared.words.VersionWord.{VersionWord}
use Rattle.mesa_script.specs.mesa_model.declared.commands.TableWords.{TableWords}
use Rattle.mesa_script.specs.mesa_model.declared.commands.ViewWords.{ViewWords}
use Rattle.mesa_script.specs.mesa_model.declared.commands.AlterWords.{AlterWords}
use Rattle.mesa_script.specs.mesa_model.declared.replies.Reply.{Reply}
use Rattle.mesa_script.specs.mesa_model.declared.replies.Reply.TheVariants as reply
use Rattle.mesa_script.specs.mesa_model.declared.replies.Refusal.{Refusal}
use Rattle.mesa_script.specs.mesa_model.declared.replies.Refusal.TheVariants as no
use Rattle.mesa_script.specs.mesa_model.declared.replies.SchemaFault.TheVariants as fault
use Rattle.mesa_script.specs.mesa_model.Warehouse.{Table, Warehouse, max_tables, max_versions, max_pins, table_at}
use Rattle.mesa_script.specs.mesa_model.Relations.{table_number, is_taken}
use Rattle.mesa_script.specs.mesa_model.Refusals.{bad_schema, batch_refusal, change_refusal, no_such_table, refuse_closed, schema_refusal}
use Rattle.mesa_script.specs.mesa_model.Tables.{columns_asked, names_are_good, new_table, make_table, make_view, view_of_table_checked, change_asked, changed_name, alter_table, table_changed}
use Rattle.mesa_script.specs.mesa_model.Load.{tables_named, bounds_checked, tables_loaded, load_batch}
use Rattle.mesa_script.specs.mesa_model.Versions.{common_oldest, version_asked, version_checked, table_from, expire_all, expire_table, expire_to}
use Rattle.mesa_script.specs.mesa_model.Pins.{make_pin, pin_of, release_pin}
use Rattle.mesa_script.specs.mesa_model.Step.{done_or_refused}
use Rattle.mesa_history_spec.proofs.Checks.{ok_bind, ok_then}
use Rattle.mesa_history_spec.proofs.Going.{GoesOn, pushed, set_later, stays_so, mapped, loaded}

-- how many tables a reply says were made
abbrev pub made_by : Reply → ℕ
made_by (reply.Table name) = 1
made_by r = 0

-- what a command does to each table, to the number of versions and to that of tables
pub record Grows (w : Warehouse) (done : Warehouse × Reply) : Type 0 where
  pub on : (number : ℕ) → number < length w.store.tables → GoesOn (table_at w.store number) (table_at done.0.store number)
  pub versions : w.next ≤ done.0.next
  pub tables : length done.0.store.tables ≡ length w.store.tables + made_by done.1

module _ (w : Warehouse) where
  -- nothing is done
  nothing : (r : Reply) → made_by r ≡ 0 → Grows w (w, r)
  nothing r none = record { on = λ number lt. stays_so (table_at w.store number); versions = omega arith; tables = omega (arith, none) }

  pub done_grows : (r : Result (Warehouse × Reply) Refusal) → IfOk r (Grows w) → Grows w (done_or_refused w r)
  done_grows (Ok done) grows = grows
  done_grows (Err refusal) grows = nothing (reply.Refused refusal) refl

  pub table_grows : (words : TableWords) → IfOk (make_table w words) (Grows w)
  table_grows words =
      ok_then (Grows w) (refuse_closed w.closed) _ (
      ok_then (Grows w) (refuse_unless (is_name words.table) (bad_schema fault.BadName)) _ (
      ok_then (Grows w) (refuse_if (is_taken w.store words.table) no.TableExists) _ (
      ok_then (Grows w) (refuse_unless (names_are_good (columns_asked words)) (bad_schema fault.BadName)) _ (
      ok_then (Grows w) (refused_as schema_refusal (schema_checked (columns_asked words))) _ (
      ok_then (Grows w) (refuse_if (nat_le max_tables (length w.store.tables)) (no.TablesFull max_tables)) _ (
      record { on = pushed w.store.tables (new_table w words.table (columns_asked words) ∷ []); versions = omega arith; tables = length-append w.store.tables (new_table w words.table (columns_asked words) ∷ []) }))))))

  set_grows : (number : ℕ) (t : Table) (r : Reply) → made_by r ≡ 0 → GoesOn (table_at w.store number) t → Grows w (record w { store = record w.store { tables = set w.store.tables number t } }, r)
  set_grows number t r none on = record { on = λ other lt. set_later w.store.tables number t on other; versions = omega arith; tables = (let same = length-set w.store.tables number t in omega (arith, same, none)) }

  pub view_grows : (words : ViewWords) → IfOk (make_view w words) (Grows w)
  view_grows words =
      ok_then (Grows w) (refuse_closed w.closed) _ (
      ok_then (Grows w) (refuse_unless (is_name words.view) (bad_schema fault.BadName)) _ (
      ok_then (Grows w) (refuse_if (is_taken w.store words.view) no.TableExists) _ (
      ok_bind (Grows w) (ok_or (table_number w.store words.table) no_such_table) _ (λ number found.
      ok_then (Grows w) (view_of_table_checked (table_at w.store number) words) _ (
      set_grows number _ (reply.View words.view) refl (record { oldest = omega arith; begins = refl; epoch = omega arith; columns = λ same. refl }))))))

  -- a change raises the epoch
  changed_later : (t : Table) (c : Change) → GoesOn t (table_changed t c)
  changed_later t c = record { oldest = omega arith; begins = refl; epoch = omega (arith, length-append t.lineage.changes (c ∷ [])); columns = λ same. absurd (omega (arith, same, length-append t.lineage.changes (c ∷ []))) }

  pub alter_grows : (words : AlterWords) → IfOk (alter_table w words) (Grows w)
  alter_grows words =
      ok_then (Grows w) (refuse_closed w.closed) _ (
      ok_bind (Grows w) (ok_or (table_number w.store words.table) no_such_table) _ (λ number found.
      ok_bind (Grows w) (change_asked (columns_of (table_at w.store number).lineage) words.change) _ (λ c asked.
      ok_then (Grows w) (refused_as (change_refusal (changed_name c)) (change_checked (table_at w.store number).lineage c)) _ (
      set_grows number _ (reply.Altered words.table _) refl (changed_later (table_at w.store number) c)))))

  loaded_length : (batch : List Placed) (number : ℕ) (ts : List Table) → length (tables_loaded batch number ts) ≡ length ts
  loaded_length batch number [] = refl
  loaded_length batch number (t ∷ ts) = ap suc (loaded_length batch (number + 1) ts)

  pub load_grows : (rows : List RowWords) → IfOk (load_batch w rows) (Grows w)
  load_grows rows =
      ok_then (Grows w) (refuse_closed w.closed) _ (
      ok_bind (Grows w) (refused_as batch_refusal (batch_of (tables_named w.store) rows)) _ (λ batch read.
      ok_then (Grows w) (refuse_if (nat_le max_versions w.next) (no.VersionsFull max_versions)) _ (
      ok_then (Grows w) (bounds_checked batch 0 w.store.tables) _ (
      record { on = λ number lt. loaded batch 0 w.store.tables number; versions = omega arith; tables = (let same = loaded_length batch 0 w.store.tables in omega (arith, same)) }))))

  -- a table without its versions below one has no lower oldest version
  from_later : (version : ℕ) (t : Table) → GoesOn t (table_from version t)
  from_later version t = record { oldest = omega arith; begins = refl; epoch = omega arith; columns = λ same. refl }

  all_grows : (version : ℕ) → IfOk (expire_all w version) (Grows w)
  all_grows version =
      ok_then (Grows w) (refuse_closed w.closed) _ (
      ok_then (Grows w) (version_checked w w.store.floor version) _ (
      record { on = λ number lt. mapped (table_from version) (from_later version) w.store.tables number; versions = omega arith; tables = (let same = length-map w.store.tables (table_from version) in omega (arith, same)) }))

  one_grows : (name : List ℕ) (version : ℕ) → IfOk (expire_table w name version) (Grows w)
  one_grows name version =
      ok_then (Grows w) (refuse_closed w.closed) _ (
      ok_bind (Grows w) (ok_or (table_number w.store name) no_such_table) _ (λ number found.
      ok_then (Grows w) (version_checked w (table_at w.store number).oldest version) _ (
      set_grows number (table_from version (table_at w.store number)) (reply.Expired (Some name) version) refl (from_later version (table_at w.store number)))))

  pub expire_grows : (table : Option (List ℕ)) (version : ℕ) → IfOk (expire_to w table version) (Grows w)
  expire_grows None version = all_grows version
  expire_grows (Some name) version = one_grows name version

  pub pin_grows : (session : ℕ) (asked : VersionWord) → IfOk (make_pin w session asked) (Grows w)
  pin_grows session asked =
      ok_then (Grows w) (refuse_closed w.closed) _ (
      ok_bind (Grows w) (version_asked w (common_oldest w.store) asked) _ (λ version is.
      ok_then (Grows w) (refuse_if (nat_le max_pins (length w.pins)) (no.PinsFull max_pins)) _ (
      record { on = λ number lt. stays_so (table_at w.store number); versions = omega arith; tables = omega arith })))

  pub release_grows : (session token : ℕ) → IfOk (release_pin w session token) (Grows w)
  release_grows session token =
      ok_then (Grows w) (refuse_closed w.closed) _ (
      ok_then (Grows w) (refuse_if (is_none (pin_of w session token)) (no.NoPin token)) _ (
      record { on = λ number lt. stays_so (table_at w.store number); versions = omega arith; tables = omega arith }))

  pub nothing_grows : IfOk (refuse_closed w.closed >> Ok (w, reply.Idle)) (Grows w)
  nothing_grows = ok_then (Grows w) (refuse_closed w.closed) _ (nothing reply.Idle refl)
