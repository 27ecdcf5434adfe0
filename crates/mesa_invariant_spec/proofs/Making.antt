-- What a command that writes makes of a warehouse, and the change of books that it is.
use Rattle.std.proofs.Common.{◌≡◌, ℕ, ◌+◌, List, [], ◌∷◌, ◌++◌, length, Bool, true, refl, sym, ◌∙◌, ap, IsTrue, None, Option, Some, Result, Ok, Err, ok_or}
use Rattle.std.specs.Prelude.{nat_le}
use Rattle.mesa_history_spec.specs.mesa_list.Checks.{◌>>=◌, ◌>>◌, refuse_if, refuse_unless, refused_as}
use Rattle.mesa_history_spec.specs.mesa_columns.declared.changes.Change.{Change}
use Rattle.mesa_history_spec.specs.mesa_schema.Changes.{change_checked, columns_of, epoch_of}
use Rattle.mesa_history_spec.specs.mesa_columns.Names.{is_name}
use Rattle.mesa_history_spec.specs.mesa_columns.Schema.{schema_checked}
use Rattle.mesa_history_spec.specs.mesa_schema.Views.{with_view}
use Rattle.mesa_history_spec.specs.mesa_batch.Batch.{Placed, batch_of}
use Rattle.mesa_history_spec.specs.mesa_batch.declared.words.RowWords.{RowWords}
use Rattle.mesa_history_spec.specs.mesa_model.declared.commands.AlterWords.{AlterWords}
use Rattle.mesa_history_spec.specs.mesa_model.declared.commands.TableWords.{TableWords}
use Rattle.mesa_history_spec.specs.mesa_model.declared.commands.ViewWords.{ViewWords}
use Rattle.mesa_history_spec.specs.mesa_model.declared.replies.Refusal.{Refusal}
use Rattle.mesa_history_spec.specs.mesa_model.declared.replies.Refusal.TheVariants as no
use Rattle.mesa_history_spec.specs.mesa_model.declared.replies.Reply.{Reply}
use Rattle.mesa_history_spec.specs.mesa_model.declared.replies.Reply.TheVariants as reply
use Rattle.mesa_history_spec.specs.mesa_model.declared.replies.SchemaFault.TheVariants as fault
use Rattle.mesa_history_spec.specs.mesa_model.Load.{load_batch, bounds_checked, tables_named, with_batch}
use Rattle.mesa_history_spec.specs.mesa_model.Refusals.{no_such_table, refuse_closed, bad_schema, batch_refusal, schema_refusal, change_refusal}
use Rattle.mesa_history_spec.specs.mesa_model.Relations.{is_taken, table_number}
use Rattle.mesa_history_spec.specs.mesa_model.Tables.{make_table, make_view, alter_table, columns_asked, names_are_good, new_table, view_of_table_checked, change_asked, changed_name, table_changed}
use Rattle.mesa_history_spec.specs.mesa_model.Versions.{expire_all, expire_table, store_from, table_from, version_checked}
use Rattle.mesa_history_spec.specs.mesa_model.Warehouse.{Warehouse, max_tables, max_versions, table_at, with_table, with_tables}
use Rattle.mesa_history_spec.specs.Found.{kept_of}
use Rattle.mesa_history_spec.specs.Machine.{Machine}
use Rattle.mesa_history_spec.specs.Replay.{machine_after, stepped}
use Rattle.mesa_history_spec.specs.Run.{State}
use Rattle.mesa_history_spec.specs.Bare.{bare, bare_done, bare_result}
use Rattle.mesa_invariant_spec.specs.Books.{Books, AreBooksOf}
use Rattle.mesa_invariant_spec.specs.Changes.{Doing, IsChange, is_plain}
use Rattle.mesa_invariant_spec.proofs.Pinning.{bare_after}

-- ---- what passed

passed : {A B E : Type 0} (q : Result A E) (next : Result B E) (x : B) → (q >> next) ≡ Ok x → next ≡ Ok x
passed (Ok a) next x is = is
passed (Err e) next x is = cc

got : {A B E : Type 0} (q : Result A E) (next : A → Result B E) (x : B) → (q >>= next) ≡ Ok x → (a : A) × (q ≡ Ok a) × (next a ≡ Ok x)
got (Ok a) next x is = (a, refl, is)
got (Err e) next x is = cc

said : {A D E : Type 0} (f : D → E) (q : Result A D) (a : A) → refused_as f q ≡ Ok a → q ≡ Ok a
said f (Ok b) a is = let same : b ≡ a = cc in ap Ok same
said f (Err d) a is = cc

there : {A E : Type 0} (q : Option A) (e : E) (a : A) → ok_or q e ≡ Ok a → q ≡ Some a
there None e a is = cc
there (Some b) e a is = let same : b ≡ a = cc in ap Some same

-- the warehouse and the reply
abbrev done_as : Warehouse → Reply → Result (Warehouse × Reply) Refusal
done_as w r = Ok (w, r)

both : (w after : Warehouse) (p r : Reply) → done_as w p ≡ done_as after r → (after ≡ w) × (r ≡ p)
both w after p r is = let same : (w, p) ≡ (after, r) = cc in (ap (λ (d : Warehouse × Reply). d.0) (sym same), ap (λ (d : Warehouse × Reply). d.1) (sym same))

-- ---- each command

pub expire_made : (w : Warehouse) (version : ℕ) (after : Warehouse) (r : Reply) → expire_all w version ≡ Ok (after, r) → (after ≡ record w { store = store_from w.store version }) × (r ≡ reply.Expired None version)
expire_made w version after r is = both _ after _ r (passed (version_checked w w.store.floor version) _ (after, r) (passed (refuse_closed w.closed) _ (after, r) is))

pub expire_table_made : (w : Warehouse) (name : List ℕ) (version : ℕ) (after : Warehouse) (r : Reply) → expire_table w name version ≡ Ok (after, r)
    → (number : ℕ) × (table_number w.store name ≡ Some number) × (after ≡ with_table w number (table_from version (table_at w.store number))) × (r ≡ reply.Expired (Some name) version)
expire_table_made w name version after r is =
    let found = got (ok_or (table_number w.store name) no_such_table) _ (after, r) (passed (refuse_closed w.closed) _ (after, r) is) in
    let made = both _ after _ r (passed (version_checked w (table_at w.store found.0).oldest version) _ (after, r) found.2) in
    (found.0, there (table_number w.store name) no_such_table found.0 found.1, made.0, made.1)

pub load_made : (w : Warehouse) (rows : List RowWords) (after : Warehouse) (r : Reply) → load_batch w rows ≡ Ok (after, r)
    → (batch : List Placed) × (batch_of (tables_named w.store) rows ≡ Ok batch) × (after ≡ with_batch w batch) × (r ≡ reply.Loaded w.next (length batch))
load_made w rows after r is =
    let read = got (refused_as batch_refusal (batch_of (tables_named w.store) rows)) _ (after, r) (passed (refuse_closed w.closed) _ (after, r) is) in
    let made = both _ after _ r (passed (bounds_checked read.0 0 w.store.tables) _ (after, r) (passed (refuse_if (nat_le max_versions w.next) (no.VersionsFull max_versions)) _ (after, r) read.2)) in
    (read.0, said _ (batch_of (tables_named w.store) rows) read.0 read.1, made.0, made.1)

pub table_made : (w : Warehouse) (words : TableWords) (after : Warehouse) (r : Reply) → make_table w words ≡ Ok (after, r)
    → (after ≡ with_tables w (w.store.tables ++ new_table w words.table (columns_asked words) ∷ [])) × (r ≡ reply.Table words.table)
table_made w words after r is =
    let open' = passed (refuse_closed w.closed) _ (after, r) is in
    let named = passed (refuse_unless (is_name words.table) (bad_schema fault.BadName)) _ (after, r) open' in
    let new = passed (refuse_if (is_taken w.store words.table) no.TableExists) _ (after, r) named in
    let good = passed (refuse_unless (names_are_good (columns_asked words)) (bad_schema fault.BadName)) _ (after, r) new in
    let ruled = passed (refused_as schema_refusal (schema_checked (columns_asked words))) _ (after, r) good in
    both _ after _ r (passed (refuse_if (nat_le max_tables (length w.store.tables)) (no.TablesFull max_tables)) _ (after, r) ruled)

pub view_made : (w : Warehouse) (words : ViewWords) (after : Warehouse) (r : Reply) → make_view w words ≡ Ok (after, r)
    → (number : ℕ) × (table_number w.store words.table ≡ Some number)
    × (after ≡ with_table w number (record (table_at w.store number) { lineage = with_view (table_at w.store number).lineage (record { name = words.view; keys = words.keys; values = words.values }) })) × (r ≡ reply.View words.view)
view_made w words after r is =
    let open' = passed (refuse_closed w.closed) _ (after, r) is in
    let named = passed (refuse_unless (is_name words.view) (bad_schema fault.BadName)) _ (after, r) open' in
    let found = got (ok_or (table_number w.store words.table) no_such_table) _ (after, r) (passed (refuse_if (is_taken w.store words.view) no.TableExists) _ (after, r) named) in
    let made = both _ after _ r (passed (view_of_table_checked (table_at w.store found.0) words) _ (after, r) found.2) in
    (found.0, there (table_number w.store words.table) no_such_table found.0 found.1, made.0, made.1)

pub alter_made : (w : Warehouse) (words : AlterWords) (after : Warehouse) (r : Reply) → alter_table w words ≡ Ok (after, r)
    → (number : ℕ) × (table_number w.store words.table ≡ Some number) × (change : Change) × (change_asked (columns_of (table_at w.store number).lineage) words.change ≡ Ok change)
    × (after ≡ with_table w number (table_changed (table_at w.store number) change)) × (r ≡ reply.Altered words.table (epoch_of (table_at w.store number).lineage + 1))
alter_made w words after r is =
    let found = got (ok_or (table_number w.store words.table) no_such_table) _ (after, r) (passed (refuse_closed w.closed) _ (after, r) is) in
    let asked = got (change_asked (columns_of (table_at w.store found.0).lineage) words.change) _ (after, r) found.2 in
    let made = both _ after _ r (passed (refused_as (change_refusal (changed_name asked.0)) (change_checked (table_at w.store found.0).lineage asked.0)) _ (after, r) asked.2) in
    (found.0, there (table_number w.store words.table) no_such_table found.0 found.1, asked.0, asked.1, made.0, made.1)

-- ---- the change

-- the range machine after a command hangs on no rows
machine_bare : (w : Warehouse) (r : Reply) (m : Machine) → machine_after w r m ≡ machine_after (bare w) r m
machine_bare w (reply.Table name) m = refl
machine_bare w (reply.View name) m = refl
machine_bare w (reply.Altered table epoch) m = refl
machine_bare w (reply.Loaded v rows) m = refl
machine_bare w (reply.Page page) m = refl
machine_bare w (reply.Rows rows v more) m = refl
machine_bare w (reply.Spans spans by) m = refl
machine_bare w (reply.Pinned token v) m = refl
machine_bare w (reply.Released token) m = refl
machine_bare w (reply.Expired table oldest) m = refl
machine_bare w (reply.Swapped from to) m = refl
machine_bare w (reply.Recast table epoch) m = refl
machine_bare w reply.Idle m = refl
machine_bare w (reply.Busy lease) m = refl
machine_bare w (reply.Refused refusal) m = refl

-- Books change by what the command makes of them, where it makes what they then keep of whatever state they are the books of.
pub made_change : (sound : Bool) (old new : Books) (f : Doing) (r : Reply) → ((w : Warehouse) → bare_result bare_done (f w) ≡ bare_result bare_done (f (bare w))) → (made : Warehouse) → f old.bare ≡ Ok (made, r) → old.bare.closed ≡ None → is_plain r ≡ true
    → bare made ≡ new.bare → machine_after made r old.machine ≡ new.machine → (IsTrue sound → old.pins ≡ new.pins)
    → ((s : State) (after : Warehouse) → AreBooksOf sound old s → f s.warehouse ≡ Ok (after, r) → IsTrue sound → (kept_of (stepped s after r) ≡ new.kept) × (after.pins ≡ s.warehouse.pins)) → IsChange sound old new f r
made_change sound old new f r alike made done was_open plain projection machine pins does = record {
  projection = (made, done);
  follows = λ s after had is. (let bares = bare_after old s.warehouse f (alike s.warehouse) had.projection after made r is done in
      record {
        projection = bares ∙ projection;
        machine = machine_bare after r s.machine ∙ (λ i. machine_after (bares i) r (had.machine i)) ∙ sym (machine_bare made r old.machine) ∙ machine;
        rows = λ ok. (does s after had is ok).0;
        pins = λ ok. (does s after had is ok).1 ∙ had.pins ok ∙ pins ok;
      });
  opened = was_open;
  plain = plain;
}
