-- What a turn that stands does, of a command that is due in a warehouse that isn't closed.
use Rattle.std.proofs.Common.{◌≡◌, ℕ, ◌+◌, ◌*◌, ◌≤◌, ◌&&◌, ◌||◌, List, length, true, not, false, IsTrue, refl, sym, arith, ok_or, nat_le, is_none, Option, Some, None}
use Rattle.std.specs.Prelude.{Result, Ok, Err, IfOk}
use Rattle.mesa_history_spec.specs.mesa_list.Checks.{◌>>◌, refuse_if, refuse_unless, refused_as}
use Rattle.mesa_history_spec.specs.mesa_columns.Names.{is_name}
use Rattle.mesa_history_spec.specs.mesa_columns.Schema.{schema_checked}
use Rattle.mesa_history_spec.specs.mesa_schema.Changes.{columns_of, change_checked}
use Rattle.mesa_history_spec.specs.mesa_schema.Recasts.{Recast}
use Rattle.mesa_history_spec.specs.mesa_batch.Batch.{batch_of}
use Rattle.mesa_history_spec.specs.mesa_model.declared.commands.Command.{Command}
use Rattle.mesa_history_spec.specs.mesa_model.declared.commands.Command.TheVariants as command
use Rattle.mesa_history_spec.specs.mesa_model.declared.commands.AlterWords.{AlterWords}
use Rattle.mesa_history_spec.specs.mesa_model.declared.commands.TableWords.{TableWords}
use Rattle.mesa_history_spec.specs.mesa_model.declared.commands.ViewWords.{ViewWords}
use Rattle.mesa_history_spec.specs.mesa_batch.declared.words.RowWords.{RowWords}
use Rattle.mesa_history_spec.specs.mesa_filter.declared.words.VersionWord.{VersionWord}
use Rattle.mesa_history_spec.specs.mesa_model.declared.entries.Kind.{Kind}
use Rattle.mesa_history_spec.specs.mesa_model.declared.entries.Kind.TheVariants as kind
use Rattle.mesa_history_spec.specs.mesa_model.declared.entries.Outcome.TheVariants as outcome
use Rattle.mesa_history_spec.specs.mesa_model.declared.replies.Refusal.{Refusal}
use Rattle.mesa_history_spec.specs.mesa_model.declared.replies.Refusal.TheVariants as no
use Rattle.mesa_history_spec.specs.mesa_model.declared.replies.Reply.{Reply}
use Rattle.mesa_history_spec.specs.mesa_model.declared.replies.Reply.TheVariants as reply
use Rattle.mesa_history_spec.specs.mesa_model.declared.replies.SchemaFault.TheVariants as fault
use Rattle.mesa_history_spec.specs.mesa_model.Load.{tables_named, bounds_checked, load_batch}
use Rattle.mesa_history_spec.specs.mesa_model.Pins.{make_pin, pin_of, release_pin}
use Rattle.mesa_history_spec.specs.mesa_model.Query.{Answer, query_answer}
use Rattle.mesa_history_spec.specs.mesa_model.Refusals.{bad_schema, batch_refusal, change_refusal, no_such_table, refuse_closed, schema_refusal}
use Rattle.mesa_history_spec.specs.mesa_model.Relations.{table_number, is_taken}
use Rattle.mesa_history_spec.specs.mesa_model.Step.{done_or_refused}
use Rattle.mesa_history_spec.specs.mesa_model.Tables.{columns_asked, names_are_good, make_table, make_view, view_of_table_checked, change_asked, changed_name, alter_table}
use Rattle.mesa_history_spec.specs.mesa_model.Versions.{common_oldest, version_asked, version_checked, expire_to}
use Rattle.mesa_history_spec.specs.mesa_model.Warehouse.{Warehouse, max_tables, max_versions, max_pins, table_at}
use Rattle.mesa_history_spec.specs.Alone.{kind_due}
use Rattle.mesa_history_spec.specs.Legal.{first_kind, is_due_at, is_stands, is_unrenewed, same_kind}
use Rattle.mesa_history_spec.specs.Machine.{Claim, Errand, Merges, Recasts, claim_checked, claim_of, explained, recast_claim_of, still_checked}
use Rattle.mesa_history_spec.specs.Replay.{Turned, standing, decide, decided_explain, decided_query, does, grants, recasts, renews, completes, place_after}
use Rattle.mesa_history_spec.specs.Run.{State, Stage, First, Looked, Answered, Granted, Renewed, Finished, CutOff, Place}
use Rattle.mesa_history_spec.proofs.Checks.{ok_bind, ok_then}

-- ---- its kind

kind_is : (a b : Kind) → IsTrue (same_kind a b) → b ≡ a
kind_is kind.Look kind.Look is = refl
kind_is kind.Decide kind.Decide is = refl
kind_is kind.Close kind.Close is = refl
kind_is kind.Grant kind.Grant is = refl
kind_is kind.Renew kind.Renew is = refl
kind_is a b is = absurd cc

-- a work's lease is renewed before its close, since nothing closed the warehouse
renewed_first : (k : Kind) → IsTrue (same_kind kind.Renew k || same_kind kind.Close k) → IsTrue (not (same_kind kind.Close k && true) || false) → k ≡ kind.Renew
renewed_first kind.Renew due renewal = refl
renewed_first kind.Close due renewal = absurd cc
renewed_first k due renewal = absurd cc

-- A turn that stands, and is due, is of the one kind that comes next.
pub kind_stands : (c : Command) (stage : Stage) (k : Kind) → IsTrue (is_due_at c stage k) → IsTrue (not (is_unrenewed stage && same_kind kind.Close k && is_stands outcome.Stands) || false) → k ≡ kind_due c stage
kind_stands c First k due renewal = kind_is (first_kind c) k due
kind_stands c Looked k due renewal = kind_is kind.Decide k due
kind_stands c (Answered at answer) k due renewal = kind_is kind.Close k due
kind_stands c (Granted claim) k due renewal = renewed_first k due renewal
kind_stands c (Renewed claim) k due renewal = kind_is kind.Close k due
kind_stands c Finished k due renewal = absurd cc
kind_stands c CutOff k due renewal = absurd cc

-- A look that is due comes next.
pub look_due : (c : Command) (stage : Stage) → IsTrue (is_due_at c stage kind.Look) → kind_due c stage ≡ kind.Look
look_due c First due = sym (kind_is (first_kind c) kind.Look due)
look_due c Looked due = absurd cc
look_due c (Answered at answer) due = absurd cc
look_due c (Granted claim) due = absurd cc
look_due c (Renewed claim) due = absurd cc
look_due c Finished due = refl
look_due c CutOff due = refl

-- ---- how far it takes its command

-- how many turns a command has had at least, at a stage
abbrev pub turns_at : Stage → ℕ
turns_at First = 0
turns_at Looked = 1
turns_at (Answered at answer) = 2
turns_at (Granted claim) = 1
turns_at (Renewed claim) = 2
turns_at Finished = 3
turns_at CutOff = 3

-- the same of all commands up to a session's place; those before the first count too
abbrev pub turns_to : Place → ℕ
turns_to p = 3 * p.number + turns_at p.stage

pub turns_after : (number : ℕ) (stage : Stage) → turns_to (place_after number stage) ≡ 3 * number + turns_at stage
turns_after number First = refl
turns_after number Looked = refl
turns_after number (Answered at answer) = refl
turns_after number (Granted claim) = refl
turns_after number (Renewed claim) = refl
turns_after number Finished = omega arith
turns_after number CutOff = refl

pub few_turns : (c : Command) (stage : Stage) (k : Kind) → IsTrue (is_due_at c stage k) → turns_at stage ≤ 2
few_turns c First k due = omega arith
few_turns c Looked k due = omega arith
few_turns c (Answered at answer) k due = omega arith
few_turns c (Granted claim) k due = omega arith
few_turns c (Renewed claim) k due = omega arith
few_turns c Finished k due = absurd cc
few_turns c CutOff k due = absurd cc

query_goes : (position : ℕ) (s : State) (o : Result Answer Refusal) → 2 ≤ turns_at (decided_query position s o).stage
query_goes position s (Ok answer) = omega arith
query_goes position s (Err refusal) = omega arith

explain_goes : (position : ℕ) (s : State) (o : Result Reply Refusal) → 2 ≤ turns_at (decided_explain position s o).stage
explain_goes position s (Ok r) = omega arith
explain_goes position s (Err refusal) = omega arith

decide_goes : (position : ℕ) (s : State) (session : ℕ) (c : Command) → 2 ≤ turns_at (decide position s session c).stage
decide_goes position s session (command.Query words) = query_goes position s (query_answer s.warehouse session words)
decide_goes position s session (command.Explain words) = explain_goes position s (explained s.warehouse s.machine words)
decide_goes position s session (command.Table words) = omega arith
decide_goes position s session (command.View words) = omega arith
decide_goes position s session (command.Alter words) = omega arith
decide_goes position s session (command.Load rows) = omega arith
decide_goes position s session (command.Pin version) = omega arith
decide_goes position s session (command.Release token) = omega arith
decide_goes position s session (command.Expire table version) = omega arith
decide_goes position s session (command.Work words) = omega arith
decide_goes position s session (command.Recast words) = omega arith

grant_goes : (position : ℕ) (s : State) (o : Result Claim Reply) → 1 ≤ turns_at (grants position s o).stage
grant_goes position s (Ok claim) = omega arith
grant_goes position s (Err r) = omega arith

renew_goes : (position : ℕ) (s : State) (claim : Claim) (o : Result (Unit {0}) Refusal) → 2 ≤ turns_at (renews position s claim o).stage
renew_goes position s claim (Ok ok) = omega arith
renew_goes position s claim (Err refusal) = omega arith

recast_goes : (position : ℕ) (s : State) (claim : Claim) (r : Recast) (o : Result (Unit {0}) Refusal) → 3 ≤ turns_at (recasts position s claim r o).stage
recast_goes position s claim r (Ok ok) = omega arith
recast_goes position s claim r (Err refusal) = omega arith

does_goes : (position : ℕ) (s : State) (claim : Claim) (errand : Errand) → 3 ≤ turns_at (does position s claim errand).stage
does_goes position s claim (Merges work) = omega arith
does_goes position s claim (Recasts epoch r) = recast_goes position s claim r (still_checked (table_at s.warehouse.store claim.table).lineage epoch r)

complete_goes : (position : ℕ) (s : State) (claim : Claim) (o : Result (Unit {0}) Refusal) → 3 ≤ turns_at (completes position s claim o).stage
complete_goes position s claim (Ok ok) = does_goes position s claim claim.errand
complete_goes position s claim (Err refusal) = omega arith

first_goes : (position : ℕ) (s : State) (session : ℕ) (c : Command) → 1 ≤ turns_at (standing position s session c (first_kind c) First).stage
first_goes position s session (command.Load rows) = omega arith
first_goes position s session (command.Work words) = grant_goes position s (claim_of s.warehouse s.machine position words.table)
first_goes position s session (command.Recast words) = grant_goes position s (recast_claim_of s.warehouse s.machine position words)
first_goes position s session (command.Query words) = let goes = decide_goes position s session (command.Query words) in omega (arith, goes)
first_goes position s session (command.Explain words) = let goes = decide_goes position s session (command.Explain words) in omega (arith, goes)
first_goes position s session (command.Table words) = omega arith
first_goes position s session (command.View words) = omega arith
first_goes position s session (command.Alter words) = omega arith
first_goes position s session (command.Pin version) = omega arith
first_goes position s session (command.Release token) = omega arith
first_goes position s session (command.Expire table version) = omega arith

-- It takes its command on by a turn at least.
pub turn_goes : (position : ℕ) (s : State) (session : ℕ) (c : Command) (stage : Stage) → turns_at stage ≤ 2 → turns_at stage + 1 ≤ turns_at (standing position s session c (kind_due c stage) stage).stage
turn_goes position s session c First few = first_goes position s session c
turn_goes position s session c Looked few = decide_goes position s session c
turn_goes position s session c (Answered at answer) few = omega arith
turn_goes position s session c (Granted claim) few = renew_goes position s claim (claim_checked s.warehouse s.machine position claim)
turn_goes position s session c (Renewed claim) few = complete_goes position s claim (claim_checked s.warehouse s.machine position claim)
turn_goes position s session c Finished few = absurd (omega (arith, few))
turn_goes position s session c CutOff few = absurd (omega (arith, few))

-- ---- it closes nothing

-- what was done leaves a warehouse open that was
abbrev Keeps : Warehouse → Warehouse × Reply → Type 0
Keeps w done = done.0.closed ≡ w.closed

done_keeps : (w : Warehouse) (o : Result (Warehouse × Reply) Refusal) → IfOk o (Keeps w) → Keeps w (done_or_refused w o)
done_keeps w (Ok done) keeps = keeps
done_keeps w (Err refusal) keeps = refl

table_keeps : (w : Warehouse) (words : TableWords) → IfOk (make_table w words) (Keeps w)
table_keeps w words =
    ok_then (Keeps w) (refuse_closed w.closed) _ (
    ok_then (Keeps w) (refuse_unless (is_name words.table) (bad_schema fault.BadName)) _ (
    ok_then (Keeps w) (refuse_if (is_taken w.store words.table) no.TableExists) _ (
    ok_then (Keeps w) (refuse_unless (names_are_good (columns_asked words)) (bad_schema fault.BadName)) _ (
    ok_then (Keeps w) (refused_as schema_refusal (schema_checked (columns_asked words))) _ (
    ok_then (Keeps w) (refuse_if (nat_le max_tables (length w.store.tables)) (no.TablesFull max_tables)) _ refl)))))

view_keeps : (w : Warehouse) (words : ViewWords) → IfOk (make_view w words) (Keeps w)
view_keeps w words =
    ok_then (Keeps w) (refuse_closed w.closed) _ (
    ok_then (Keeps w) (refuse_unless (is_name words.view) (bad_schema fault.BadName)) _ (
    ok_then (Keeps w) (refuse_if (is_taken w.store words.view) no.TableExists) _ (
    ok_bind (Keeps w) (ok_or (table_number w.store words.table) no_such_table) _ (λ number found.
    ok_then (Keeps w) (view_of_table_checked (table_at w.store number) words) _ refl))))

alter_keeps : (w : Warehouse) (words : AlterWords) → IfOk (alter_table w words) (Keeps w)
alter_keeps w words =
    ok_then (Keeps w) (refuse_closed w.closed) _ (
    ok_bind (Keeps w) (ok_or (table_number w.store words.table) no_such_table) _ (λ number found.
    ok_bind (Keeps w) (change_asked (columns_of (table_at w.store number).lineage) words.change) _ (λ c asked.
    ok_then (Keeps w) (refused_as (change_refusal (changed_name c)) (change_checked (table_at w.store number).lineage c)) _ refl)))

load_keeps : (w : Warehouse) (rows : List RowWords) → IfOk (load_batch w rows) (Keeps w)
load_keeps w rows =
    ok_then (Keeps w) (refuse_closed w.closed) _ (
    ok_bind (Keeps w) (refused_as batch_refusal (batch_of (tables_named w.store) rows)) _ (λ batch read.
    ok_then (Keeps w) (refuse_if (nat_le max_versions w.next) (no.VersionsFull max_versions)) _ (
    ok_then (Keeps w) (bounds_checked batch 0 w.store.tables) _ refl)))

pin_keeps : (w : Warehouse) (session : ℕ) (asked : VersionWord) → IfOk (make_pin w session asked) (Keeps w)
pin_keeps w session asked =
    ok_then (Keeps w) (refuse_closed w.closed) _ (
    ok_bind (Keeps w) (version_asked w (common_oldest w.store) asked) _ (λ version is.
    ok_then (Keeps w) (refuse_if (nat_le max_pins (length w.pins)) (no.PinsFull max_pins)) _ refl))

release_keeps : (w : Warehouse) (session token : ℕ) → IfOk (release_pin w session token) (Keeps w)
release_keeps w session token =
    ok_then (Keeps w) (refuse_closed w.closed) _ (
    ok_then (Keeps w) (refuse_if (is_none (pin_of w session token)) (no.NoPin token)) _ refl)

expire_keeps : (w : Warehouse) (table : Option (List ℕ)) (version : ℕ) → IfOk (expire_to w table version) (Keeps w)
expire_keeps w None version =
    ok_then (Keeps w) (refuse_closed w.closed) _ (
    ok_then (Keeps w) (version_checked w w.store.floor version) _ refl)
expire_keeps w (Some name) version =
    ok_then (Keeps w) (refuse_closed w.closed) _ (
    ok_bind (Keeps w) (ok_or (table_number w.store name) no_such_table) _ (λ number found.
    ok_then (Keeps w) (version_checked w (table_at w.store number).oldest version) _ refl))

nothing_keeps : (w : Warehouse) → IfOk (refuse_closed w.closed >> Ok (w, reply.Idle)) (Keeps w)
nothing_keeps w = ok_then (Keeps w) (refuse_closed w.closed) _ refl

-- the state that a turn makes has closed where the one before it had
abbrev Stays : State → Turned → Type 0
Stays s t = t.state.warehouse.closed ≡ s.warehouse.closed

query_stays : (position : ℕ) (s : State) (o : Result Answer Refusal) → Stays s (decided_query position s o)
query_stays position s (Ok answer) = refl
query_stays position s (Err refusal) = refl

explain_stays : (position : ℕ) (s : State) (o : Result Reply Refusal) → Stays s (decided_explain position s o)
explain_stays position s (Ok r) = refl
explain_stays position s (Err refusal) = refl

decide_stays : (position : ℕ) (s : State) (session : ℕ) (c : Command) → Stays s (decide position s session c)
decide_stays position s session (command.Query words) = query_stays position s (query_answer s.warehouse session words)
decide_stays position s session (command.Explain words) = explain_stays position s (explained s.warehouse s.machine words)
decide_stays position s session (command.Table words) = done_keeps s.warehouse (make_table s.warehouse words) (table_keeps s.warehouse words)
decide_stays position s session (command.View words) = done_keeps s.warehouse (make_view s.warehouse words) (view_keeps s.warehouse words)
decide_stays position s session (command.Alter words) = done_keeps s.warehouse (alter_table s.warehouse words) (alter_keeps s.warehouse words)
decide_stays position s session (command.Load rows) = done_keeps s.warehouse (load_batch s.warehouse rows) (load_keeps s.warehouse rows)
decide_stays position s session (command.Pin version) = done_keeps s.warehouse (make_pin s.warehouse session version) (pin_keeps s.warehouse session version)
decide_stays position s session (command.Release token) = done_keeps s.warehouse (release_pin s.warehouse session token) (release_keeps s.warehouse session token)
decide_stays position s session (command.Expire table version) = done_keeps s.warehouse (expire_to s.warehouse table version) (expire_keeps s.warehouse table version)
decide_stays position s session (command.Work words) = done_keeps s.warehouse (refuse_closed s.warehouse.closed >> Ok (s.warehouse, reply.Idle)) (nothing_keeps s.warehouse)
decide_stays position s session (command.Recast words) = done_keeps s.warehouse (refuse_closed s.warehouse.closed >> Ok (s.warehouse, reply.Idle)) (nothing_keeps s.warehouse)

grant_stays : (position : ℕ) (s : State) (o : Result Claim Reply) → Stays s (grants position s o)
grant_stays position s (Ok claim) = refl
grant_stays position s (Err r) = refl

renews_stays : (position : ℕ) (s : State) (claim : Claim) (o : Result (Unit {0}) Refusal) → Stays s (renews position s claim o)
renews_stays position s claim (Ok ok) = refl
renews_stays position s claim (Err refusal) = refl

recasts_stays : (position : ℕ) (s : State) (claim : Claim) (r : Recast) (o : Result (Unit {0}) Refusal) → Stays s (recasts position s claim r o)
recasts_stays position s claim r (Ok ok) = refl
recasts_stays position s claim r (Err refusal) = refl

does_stays : (position : ℕ) (s : State) (claim : Claim) (errand : Errand) → Stays s (does position s claim errand)
does_stays position s claim (Merges work) = refl
does_stays position s claim (Recasts epoch r) = recasts_stays position s claim r (still_checked (table_at s.warehouse.store claim.table).lineage epoch r)

completes_stays : (position : ℕ) (s : State) (claim : Claim) (o : Result (Unit {0}) Refusal) → Stays s (completes position s claim o)
completes_stays position s claim (Ok ok) = does_stays position s claim claim.errand
completes_stays position s claim (Err refusal) = refl

first_stays : (position : ℕ) (s : State) (session : ℕ) (c : Command) → Stays s (standing position s session c (first_kind c) First)
first_stays position s session (command.Load rows) = refl
first_stays position s session (command.Work words) = grant_stays position s (claim_of s.warehouse s.machine position words.table)
first_stays position s session (command.Recast words) = grant_stays position s (recast_claim_of s.warehouse s.machine position words)
first_stays position s session (command.Query words) = decide_stays position s session (command.Query words)
first_stays position s session (command.Explain words) = decide_stays position s session (command.Explain words)
first_stays position s session (command.Table words) = decide_stays position s session (command.Table words)
first_stays position s session (command.View words) = decide_stays position s session (command.View words)
first_stays position s session (command.Alter words) = decide_stays position s session (command.Alter words)
first_stays position s session (command.Pin version) = decide_stays position s session (command.Pin version)
first_stays position s session (command.Release token) = decide_stays position s session (command.Release token)
first_stays position s session (command.Expire table version) = decide_stays position s session (command.Expire table version)

-- It leaves a warehouse open that was.
pub turn_stays : (position : ℕ) (s : State) (session : ℕ) (c : Command) (stage : Stage) → Stays s (standing position s session c (kind_due c stage) stage)
turn_stays position s session c First = first_stays position s session c
turn_stays position s session c Looked = decide_stays position s session c
turn_stays position s session c (Answered at answer) = refl
turn_stays position s session c (Granted claim) = renews_stays position s claim (claim_checked s.warehouse s.machine position claim)
turn_stays position s session c (Renewed claim) = completes_stays position s claim (claim_checked s.warehouse s.machine position claim)
turn_stays position s session c Finished = refl
turn_stays position s session c CutOff = refl
