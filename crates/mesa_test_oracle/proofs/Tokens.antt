-- How many tokens commands give.
use Rattle.std.proofs.Common.{◌≡◌, ◌≤◌, ◌+◌, ℕ, zero, suc, List, [], ◌∷◌, length, Option, Some, None, Result, Ok, Err, sym, subst, arith}
use Rattle.std.specs.Prelude.{is_none, nat_le, IfOk}
use Rattle.std.specs.Option.{ok_or}
use Rattle.mesa_list.specs.Checks.{◌>>=◌, ◌>>◌, refuse_if, refuse_unless, refused_as}
use Rattle.mesa_schema.specs.Changes.{change_checked, columns_of}
use Rattle.mesa_oracle_tables.specs.mesa_columns.Names.{is_name}
use Rattle.mesa_schema.specs.Recasts.{recast_checked}
use Rattle.mesa_oracle_tables.specs.mesa_columns.Schema.{schema_checked}
use Rattle.mesa_batch.specs.Batch.{batch_of}
use Rattle.mesa_filter.specs.declared.words.VersionWord.{VersionWord}
use Rattle.mesa_model.specs.declared.commands.AlterWords.{AlterWords}
use Rattle.mesa_model.specs.declared.commands.Command.{Command}
use Rattle.mesa_model.specs.declared.commands.Command.TheVariants as command
use Rattle.mesa_model.specs.declared.commands.RecastWords.{RecastWords}
use Rattle.mesa_model.specs.declared.commands.TableWords.{TableWords}
use Rattle.mesa_model.specs.declared.commands.ViewWords.{ViewWords}
use Rattle.mesa_batch.specs.declared.words.RowWords.{RowWords}
use Rattle.mesa_model.specs.declared.replies.Refusal.{Refusal}
use Rattle.mesa_model.specs.declared.replies.Refusal.TheVariants as no
use Rattle.mesa_model.specs.declared.replies.Reply.{Reply}
use Rattle.mesa_model.specs.declared.replies.Reply.TheVariants as reply
use Rattle.mesa_model.specs.declared.replies.SchemaFault.TheVariants as fault
use Rattle.mesa_model.specs.Load.{bounds_checked, load_batch, tables_named}
use Rattle.mesa_model.specs.Pins.{count_at, counted_at, make_pin, pin_of, release_pin}
use Rattle.mesa_model.specs.Query.{query_answer}
use Rattle.mesa_model.specs.Refusals.{bad_schema, batch_refusal, change_refusal, no_such_table, recast_refusal, refuse_closed, schema_refusal}
use Rattle.mesa_model.specs.Relations.{is_taken, table_number}
use Rattle.mesa_model.specs.Step.{done_or_refused, reply_to_query, step}
use Rattle.mesa_model.specs.Tables.{alter_table, change_asked, changed_name, columns_asked, make_table, make_view, names_are_good, recast_asked, recast_table, view_of_table_checked}
use Rattle.mesa_model.specs.Versions.{common_oldest, expire_to, version_asked, version_checked}
use Rattle.mesa_model.specs.Warehouse.{Warehouse, max_pins, max_tables, max_versions, table_at}
use Rattle.mesa_test_oracle.specs.Plain.{GaveAtMost}

-- what holds of what is done behind a check
then : {A B E : Type 0} (P : B → Type 0) (checked : Result A E) (next : Result B E) → IfOk next P → IfOk (checked >> next) P
then P (Ok x) next holds = holds
then P (Err e) next holds = tt

bind : {A B E : Type 0} (P : B → Type 0) (found : Result A E) (next : A → Result B E) → ((x : A) → IfOk (next x) P) → IfOk (found >>= next) P
bind P (Ok x) next holds = holds x
bind P (Err e) next holds = tt

-- each session got at most one token more
abbrev Gives : Warehouse → Warehouse × Reply → Type 0
Gives w done = (session : ℕ) → count_at done.0.given session ≤ count_at w.given session + 1

none : (w : Warehouse) (given : Reply) → Gives w (w, given)
none w given session = omega arith

done_gives : (w : Warehouse) (r : Result (Warehouse × Reply) Refusal) → IfOk r (Gives w) → Gives w (done_or_refused w r)
done_gives w (Ok done) gives = gives
done_gives w (Err refusal) gives = λ session. omega arith

counted : (counts : List ℕ) (place session : ℕ) → count_at (counted_at counts place) session ≤ count_at counts session + 1
counted [] zero zero = omega arith
counted [] zero (suc session) = omega arith
counted [] (suc place) zero = omega arith
counted [] (suc place) (suc session) = counted [] place session
counted (count ∷ counts) zero zero = omega arith
counted (count ∷ counts) zero (suc session) = omega arith
counted (count ∷ counts) (suc place) zero = omega arith
counted (count ∷ counts) (suc place) (suc session) = counted counts place session

table_gives : (w : Warehouse) (words : TableWords) → IfOk (make_table w words) (Gives w)
table_gives w words =
    then (Gives w) (refuse_closed w.closed) _ (
    then (Gives w) (refuse_unless (is_name words.table) (bad_schema fault.BadName)) _ (
    then (Gives w) (refuse_if (is_taken w.store words.table) no.TableExists) _ (
    then (Gives w) (refuse_unless (names_are_good (columns_asked words)) (bad_schema fault.BadName)) _ (
    then (Gives w) (refused_as schema_refusal (schema_checked (columns_asked words))) _ (
    then (Gives w) (refuse_if (nat_le max_tables (length w.store.tables)) (no.TablesFull max_tables)) _ (λ session. omega arith))))))

view_gives : (w : Warehouse) (words : ViewWords) → IfOk (make_view w words) (Gives w)
view_gives w words =
    then (Gives w) (refuse_closed w.closed) _ (
    then (Gives w) (refuse_unless (is_name words.view) (bad_schema fault.BadName)) _ (
    then (Gives w) (refuse_if (is_taken w.store words.view) no.TableExists) _ (
    bind (Gives w) (ok_or (table_number w.store words.table) no_such_table) _ (λ number.
    then (Gives w) (view_of_table_checked (table_at w.store number) words) _ (λ session. omega arith)))))

alter_gives : (w : Warehouse) (words : AlterWords) → IfOk (alter_table w words) (Gives w)
alter_gives w words =
    then (Gives w) (refuse_closed w.closed) _ (
    bind (Gives w) (ok_or (table_number w.store words.table) no_such_table) _ (λ number.
    bind (Gives w) (change_asked (columns_of (table_at w.store number).lineage) words.change) _ (λ c.
    then (Gives w) (refused_as (change_refusal (changed_name c)) (change_checked (table_at w.store number).lineage c)) _ (λ session. omega arith))))

recast_gives : (w : Warehouse) (words : RecastWords) → IfOk (recast_table w words) (Gives w)
recast_gives w words =
    then (Gives w) (refuse_closed w.closed) _ (
    bind (Gives w) (ok_or (table_number w.store words.table) no_such_table) _ (λ number.
    then (Gives w) (refused_as recast_refusal (recast_checked (table_at w.store number).lineage (recast_asked words))) _ (λ session. omega arith)))

load_gives : (w : Warehouse) (rows : List RowWords) → IfOk (load_batch w rows) (Gives w)
load_gives w rows =
    then (Gives w) (refuse_closed w.closed) _ (
    bind (Gives w) (refused_as batch_refusal (batch_of (tables_named w.store) rows)) _ (λ batch.
    then (Gives w) (refuse_if (nat_le max_versions w.next) (no.VersionsFull max_versions)) _ (
    then (Gives w) (bounds_checked batch 0 w.store.tables) _ (λ session. omega arith))))

pin_gives : (w : Warehouse) (session : ℕ) (asked : VersionWord) → IfOk (make_pin w session asked) (Gives w)
pin_gives w session asked =
    then (Gives w) (refuse_closed w.closed) _ (
    bind (Gives w) (version_asked w (common_oldest w.store) asked) _ (λ version.
    then (Gives w) (refuse_if (nat_le max_pins (length w.pins)) (no.PinsFull max_pins)) _ (counted w.given session)))

release_gives : (w : Warehouse) (session token : ℕ) → IfOk (release_pin w session token) (Gives w)
release_gives w session token =
    then (Gives w) (refuse_closed w.closed) _ (
    then (Gives w) (refuse_if (is_none (pin_of w session token)) (no.NoPin token)) _ (λ s. omega arith))

expire_gives : (w : Warehouse) (table : Option (List ℕ)) (version : ℕ) → IfOk (expire_to w table version) (Gives w)
expire_gives w None version =
    then (Gives w) (refuse_closed w.closed) _ (
    then (Gives w) (version_checked w w.store.floor version) _ (λ session. omega arith))
expire_gives w (Some name) version =
    then (Gives w) (refuse_closed w.closed) _ (
    bind (Gives w) (ok_or (table_number w.store name) no_such_table) _ (λ number.
    then (Gives w) (version_checked w (table_at w.store number).oldest version) _ (λ session. omega arith)))

nothing_gives : (w : Warehouse) (given : Reply) → IfOk (refuse_closed w.closed >> Ok (w, given)) (Gives w)
nothing_gives w given = then (Gives w) (refuse_closed w.closed) _ (none w given)

gives : (w : Warehouse) (session : ℕ) (c : Command) → Gives w (step w session c)
gives w session (command.Table words) = done_gives w (make_table w words) (table_gives w words)
gives w session (command.View words) = done_gives w (make_view w words) (view_gives w words)
gives w session (command.Alter words) = done_gives w (alter_table w words) (alter_gives w words)
gives w session (command.Recast words) = done_gives w (recast_table w words) (recast_gives w words)
gives w session (command.Load rows) = done_gives w (load_batch w rows) (load_gives w rows)
gives w session (command.Query words) = none w (reply_to_query (query_answer w session words))
gives w session (command.Explain words) = done_gives w (refuse_closed w.closed >> Ok (w, reply.Idle)) (nothing_gives w reply.Idle)
gives w session (command.Pin version) = done_gives w (make_pin w session version) (pin_gives w session version)
gives w session (command.Release token) = done_gives w (release_pin w session token) (release_gives w session token)
gives w session (command.Expire table version) = done_gives w (expire_to w table version) (expire_gives w table version)
gives w session (command.Work words) = done_gives w (refuse_closed w.closed >> Ok (w, reply.Idle)) (nothing_gives w reply.Idle)

-- a command gives each session at most one
pub few_given : (w after : Warehouse) (session : ℕ) (c : Command) (given : Reply) → step w session c ≡ (after, given) → (count : ℕ) → GaveAtMost count w → GaveAtMost (count + 1) after
few_given w after session c given did count few s =
    let more : count_at after.given s ≤ count_at w.given s + 1 = subst (λ (done : Warehouse × Reply). count_at done.0.given s ≤ count_at w.given s + 1) did (gives w session c s) in
    omega (arith, more, few s)

-- and none where it isn't done
pub none_given : (w after : Warehouse) → after ≡ w → (count : ℕ) → GaveAtMost count w → GaveAtMost (count + 1) after
none_given w after same count few s = subst (λ (v : Warehouse). count_at v.given s ≤ count + 1) (sym same) (omega (arith, few s))
