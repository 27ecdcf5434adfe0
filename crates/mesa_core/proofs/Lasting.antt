-- What a load sees stays, while no turn says that a table, a view or columns were made or changed.
use Rattle.std.proofs.Common.{◌≡◌, ℕ, zero, suc, ◌+◌, List, [], ◌∷◌, ◌++◌, false, true, true≢false, refl, ap, ◌∙◌, arith, ok_or, nat_le, is_none, Bool}
use Rattle.std.specs.Prelude.{Result, Ok, Err, IfOk, Option, None, Some, length, map, slice_index_or, slice_set}
use Rattle.mesa_recast_turns.specs.mesa_list.Checks.{◌>>◌, refuse_if, refuse_unless, refused_as}
use Rattle.mesa_recast_turns.specs.mesa_columns.Names.{is_name}
use Rattle.mesa_recast_turns.specs.mesa_columns.Schema.{schema_checked}
use Rattle.mesa_recast_turns.specs.mesa_schema.Changes.{columns_of, change_checked}
use Rattle.mesa_batch.specs.declared.words.RowWords.{RowWords}
use Rattle.mesa_batch.specs.Batch.{Placed, batch_of}
use Rattle.mesa_batch.specs.Glance.{Known}
use Rattle.mesa_filter.specs.declared.words.VersionWord.{VersionWord}
use Rattle.mesa_model.specs.declared.commands.Command.{Command}
use Rattle.mesa_model.specs.declared.commands.Command.TheVariants as command
use Rattle.mesa_model.specs.declared.commands.Script.{Script}
use Rattle.mesa_model.specs.declared.commands.TableWords.{TableWords}
use Rattle.mesa_model.specs.declared.commands.ViewWords.{ViewWords}
use Rattle.mesa_model.specs.declared.commands.AlterWords.{AlterWords}
use Rattle.mesa_model.specs.declared.entries.Entry.{Entry}
use Rattle.mesa_model.specs.declared.entries.Kind.{Kind}
use Rattle.mesa_model.specs.declared.entries.Kind.TheVariants as kind
use Rattle.mesa_model.specs.declared.entries.Outcome.{Outcome}
use Rattle.mesa_model.specs.declared.entries.Outcome.TheVariants as outcome
use Rattle.mesa_model.specs.declared.replies.Reply.{Reply}
use Rattle.mesa_model.specs.declared.replies.Reply.TheVariants as reply
use Rattle.mesa_model.specs.declared.replies.Refusal.{Refusal}
use Rattle.mesa_model.specs.declared.replies.Refusal.TheVariants as no
use Rattle.mesa_model.specs.declared.replies.SchemaFault.TheVariants as fault
use Rattle.mesa_model.specs.Warehouse.{Table, Warehouse, max_tables, max_versions, max_pins, no_table, table_at}
use Rattle.mesa_model.specs.Relations.{table_number, is_taken}
use Rattle.mesa_model.specs.Refusals.{bad_schema, batch_refusal, change_refusal, no_such_table, refuse_closed, schema_refusal}
use Rattle.mesa_model.specs.Tables.{columns_asked, names_are_good, make_table, make_view, view_of_table_checked, change_asked, changed_name, alter_table}
use Rattle.mesa_model.specs.Load.{tables_named, bounds_checked, tables_loaded, load_batch}
use Rattle.mesa_model.specs.Versions.{common_oldest, expire_to, table_from, version_asked, version_checked}
use Rattle.mesa_model.specs.Pins.{make_pin, pin_of, release_pin}
use Rattle.mesa_model.specs.Query.{Answer, query_answer}
use Rattle.mesa_model.specs.Step.{step, done_or_refused, nothing_done}
use Rattle.mesa_recast_turns.specs.mesa_history_spec.Counting.{count_in, one_if}
use Rattle.mesa_recast_turns.specs.mesa_schema.Recasts.{Recast}
use Rattle.mesa_recast_turns.specs.mesa_history_spec.Machine.{Claim, Errand, Merges, Recasts, claim_checked, explained, still_checked}
use Rattle.mesa_recast_turns.specs.mesa_history_spec.Run.{State, Stage, First, Looked, Answered, Granted, Renewed, Finished, CutOff, Run, place_of, begins, command_of}
use Rattle.mesa_recast_turns.specs.mesa_history_spec.Replay.{Turned, decided, decided_query, decided_explain, decide, grants, claim_asked, renews, renew, completes, does, recasts, close, refused_turn, closed_if, closes, standing, turn_of, turn_as, turned, go, runs}
use Rattle.mesa_engine.proofs.mesa_history_spec.Checks.{ok_bind, ok_then}
use Rattle.mesa_engine.proofs.mesa_history_spec.More.{runs-append, state_after}
use Rattle.mesa_recast_turns.specs.mesa_invariant_spec.Sight.{is_of_schemas, tells_of_schemas, changes_schemas, schema_changes}
use Rattle.mesa_core.specs.Sight.{tables_known, SightLasts}

-- what a command did leaves the tables as a load sees them, unless its reply says otherwise
abbrev Keeps : Warehouse → Warehouse × Reply → Type 0
Keeps w done = is_of_schemas done.1 ≡ false → tables_known done.0.store ≡ tables_known w.store

-- the same of a turn
abbrev Leaves : State → Turned → Type 0
Leaves s t = tells_of_schemas t.told ≡ false → tables_known t.state.warehouse.store ≡ tables_known s.warehouse.store

module _ (w : Warehouse) where
  done_keeps : (r : Result (Warehouse × Reply) Refusal) → IfOk r (Keeps w) → Keeps w (done_or_refused w r)
  done_keeps (Ok done) keeps = keeps
  done_keeps (Err refusal) keeps = λ none. refl

  table_keeps : (words : TableWords) → IfOk (make_table w words) (Keeps w)
  table_keeps words =
      ok_then (Keeps w) (refuse_closed w.closed) _ (
      ok_then (Keeps w) (refuse_unless (is_name words.table) (bad_schema fault.BadName)) _ (
      ok_then (Keeps w) (refuse_if (is_taken w.store words.table) no.TableExists) _ (
      ok_then (Keeps w) (refuse_unless (names_are_good (columns_asked words)) (bad_schema fault.BadName)) _ (
      ok_then (Keeps w) (refused_as schema_refusal (schema_checked (columns_asked words))) _ (
      ok_then (Keeps w) (refuse_if (nat_le max_tables (length w.store.tables)) (no.TablesFull max_tables)) _ (
      λ none. absurd (true≢false none)))))))

  view_keeps : (words : ViewWords) → IfOk (make_view w words) (Keeps w)
  view_keeps words =
      ok_then (Keeps w) (refuse_closed w.closed) _ (
      ok_then (Keeps w) (refuse_unless (is_name words.view) (bad_schema fault.BadName)) _ (
      ok_then (Keeps w) (refuse_if (is_taken w.store words.view) no.TableExists) _ (
      ok_bind (Keeps w) (ok_or (table_number w.store words.table) no_such_table) _ (λ number found.
      ok_then (Keeps w) (view_of_table_checked (table_at w.store number) words) _ (
      λ none. absurd (true≢false none))))))

  alter_keeps : (words : AlterWords) → IfOk (alter_table w words) (Keeps w)
  alter_keeps words =
      ok_then (Keeps w) (refuse_closed w.closed) _ (
      ok_bind (Keeps w) (ok_or (table_number w.store words.table) no_such_table) _ (λ number found.
      ok_bind (Keeps w) (change_asked (columns_of (table_at w.store number).lineage) words.change) _ (λ c asked.
      ok_then (Keeps w) (refused_as (change_refusal (changed_name c)) (change_checked (table_at w.store number).lineage c)) _ (
      λ none. absurd (true≢false none)))))

  loaded_known : (batch : List Placed) (number : ℕ) (ts : List Table) → map {B = Known} (λ (t : Table). record { name = t.name; lineage = t.lineage }) (tables_loaded batch number ts) ≡ map {B = Known} (λ (t : Table). record { name = t.name; lineage = t.lineage }) ts
  loaded_known batch number [] = refl
  loaded_known batch number (t ∷ ts) = ap (λ (more : List Known). record { name = t.name; lineage = t.lineage } ∷ more) (loaded_known batch (number + 1) ts)

  load_keeps : (rows : List RowWords) → IfOk (load_batch w rows) (Keeps w)
  load_keeps rows =
      ok_then (Keeps w) (refuse_closed w.closed) _ (
      ok_bind (Keeps w) (refused_as batch_refusal (batch_of (tables_named w.store) rows)) _ (λ batch read.
      ok_then (Keeps w) (refuse_if (nat_le max_versions w.next) (no.VersionsFull max_versions)) _ (
      ok_then (Keeps w) (bounds_checked batch 0 w.store.tables) _ (
      λ none. loaded_known batch 0 w.store.tables))))

  expired_known : (version : ℕ) (ts : List Table) → map {B = Known} (λ (t : Table). record { name = t.name; lineage = t.lineage }) (map (table_from version) ts) ≡ map {B = Known} (λ (t : Table). record { name = t.name; lineage = t.lineage }) ts
  expired_known version [] = refl
  expired_known version (t ∷ ts) = ap (λ (more : List Known). record { name = t.name; lineage = t.lineage } ∷ more) (expired_known version ts)

  -- so it is where versions of one table are let go
  one_known : (version number : ℕ) (ts : List Table) → map {B = Known} (λ (t : Table). record { name = t.name; lineage = t.lineage }) (slice_set ts number (table_from version (slice_index_or ts number no_table))) ≡ map {B = Known} (λ (t : Table). record { name = t.name; lineage = t.lineage }) ts
  one_known version number [] = refl
  one_known version zero (t ∷ ts) = refl
  one_known version (suc number) (t ∷ ts) = ap (λ (more : List Known). record { name = t.name; lineage = t.lineage } ∷ more) (one_known version number ts)

  expire_keeps : (table : Option (List ℕ)) (version : ℕ) → IfOk (expire_to w table version) (Keeps w)
  expire_keeps None version =
      ok_then (Keeps w) (refuse_closed w.closed) _ (
      ok_then (Keeps w) (version_checked w w.store.floor version) _ (
      λ none. expired_known version w.store.tables))
  expire_keeps (Some name) version =
      ok_then (Keeps w) (refuse_closed w.closed) _ (
      ok_bind (Keeps w) (ok_or (table_number w.store name) no_such_table) _ (λ number found.
      ok_then (Keeps w) (version_checked w (table_at w.store number).oldest version) _ (
      λ none. one_known version number w.store.tables)))

  pin_keeps : (session : ℕ) (asked : VersionWord) → IfOk (make_pin w session asked) (Keeps w)
  pin_keeps session asked =
      ok_then (Keeps w) (refuse_closed w.closed) _ (
      ok_bind (Keeps w) (version_asked w (common_oldest w.store) asked) _ (λ version is.
      ok_then (Keeps w) (refuse_if (nat_le max_pins (length w.pins)) (no.PinsFull max_pins)) _ (
      λ none. refl)))

  release_keeps : (session token : ℕ) → IfOk (release_pin w session token) (Keeps w)
  release_keeps session token =
      ok_then (Keeps w) (refuse_closed w.closed) _ (
      ok_then (Keeps w) (refuse_if (is_none (pin_of w session token)) (no.NoPin token)) _ (
      λ none. refl))

  nothing_keeps : IfOk (refuse_closed w.closed >> Ok (w, reply.Idle)) (Keeps w)
  nothing_keeps = ok_then (Keeps w) (refuse_closed w.closed) _ (λ none. refl)

-- ---- turns

module _ (position : ℕ) (s : State) where
  deciding : (done : Warehouse × Reply) → Keeps s.warehouse done → Leaves s (decided position s done)
  deciding done keeps = keeps

  querying : (r : Result Answer Refusal) → Leaves s (decided_query position s r)
  querying (Ok answer) none = refl
  querying (Err refusal) none = refl

  explaining : (r : Result Reply Refusal) → Leaves s (decided_explain position s r)
  explaining (Ok r) none = refl
  explaining (Err refusal) none = refl

  decides : (session : ℕ) (c : Command) → Leaves s (decide position s session c)
  decides session (command.Query words) = querying (query_answer s.warehouse session words)
  decides session (command.Explain words) = explaining (explained s.warehouse s.machine words)
  decides session (command.Table words) = deciding (step s.warehouse session (command.Table words)) (done_keeps s.warehouse (make_table s.warehouse words) (table_keeps s.warehouse words))
  decides session (command.View words) = deciding (step s.warehouse session (command.View words)) (done_keeps s.warehouse (make_view s.warehouse words) (view_keeps s.warehouse words))
  decides session (command.Alter words) = deciding (step s.warehouse session (command.Alter words)) (done_keeps s.warehouse (alter_table s.warehouse words) (alter_keeps s.warehouse words))
  decides session (command.Load rows) = deciding (step s.warehouse session (command.Load rows)) (done_keeps s.warehouse (load_batch s.warehouse rows) (load_keeps s.warehouse rows))
  decides session (command.Pin asked) = deciding (step s.warehouse session (command.Pin asked)) (done_keeps s.warehouse (make_pin s.warehouse session asked) (pin_keeps s.warehouse session asked))
  decides session (command.Release token) = deciding (step s.warehouse session (command.Release token)) (done_keeps s.warehouse (release_pin s.warehouse session token) (release_keeps s.warehouse session token))
  decides session (command.Expire table version) = deciding (step s.warehouse session (command.Expire table version)) (done_keeps s.warehouse (expire_to s.warehouse table version) (expire_keeps s.warehouse table version))
  decides session (command.Work words) = deciding (step s.warehouse session (command.Work words)) (done_keeps s.warehouse _ (nothing_keeps s.warehouse))
  decides session (command.Recast words) = deciding (done_or_refused s.warehouse (nothing_done s.warehouse)) (done_keeps s.warehouse _ (nothing_keeps s.warehouse))

  granting : (r : Result Claim Reply) → Leaves s (grants position s r)
  granting (Err r) none = refl
  granting (Ok claim) none = refl

  renewing : (claim : Claim) (r : Result (Unit {0}) Refusal) → Leaves s (renews position s claim r)
  renewing claim (Err refusal) none = refl
  renewing claim (Ok ok) none = refl

  recasting : (claim : Claim) (recast : Recast) (r : Result (Unit {0}) Refusal) → Leaves s (recasts position s claim recast r)
  recasting claim recast (Err refusal) none = refl
  recasting claim recast (Ok ok) none = absurd (true≢false none)

  doing : (claim : Claim) (errand : Errand) → Leaves s (does position s claim errand)
  doing claim (Merges work) none = refl
  doing claim (Recasts epoch recast) none = recasting claim recast (still_checked (table_at s.warehouse.store claim.table).lineage epoch recast) none

  completing : (claim : Claim) (r : Result (Unit {0}) Refusal) → Leaves s (completes position s claim r)
  completing claim (Err refusal) none = refl
  completing claim (Ok ok) none = doing claim claim.errand none

  renews_from : (stage : Stage) → Leaves s (renew position s stage)
  renews_from First none = refl
  renews_from Looked none = refl
  renews_from (Answered at answer) none = refl
  renews_from (Granted claim) none = renewing claim (claim_checked s.warehouse s.machine position claim) none
  renews_from (Renewed claim) none = refl
  renews_from Finished none = refl
  renews_from CutOff none = refl

  closes_from : (stage : Stage) → Leaves s (close position s stage)
  closes_from First none = refl
  closes_from Looked none = refl
  closes_from (Answered at answer) none = refl
  closes_from (Granted claim) none = completing claim (claim_checked s.warehouse s.machine position claim) none
  closes_from (Renewed claim) none = completing claim (claim_checked s.warehouse s.machine position claim) none
  closes_from Finished none = refl
  closes_from CutOff none = refl

  stands_as : (session : ℕ) (c : Command) (k : Kind) (stage : Stage) → Leaves s (standing position s session c k stage)
  stands_as session c kind.Look stage none = refl
  stands_as session c kind.Decide stage none = decides session c none
  stands_as session c kind.Close stage none = closes_from stage none
  stands_as session c kind.Grant stage none = granting (claim_asked s.warehouse s.machine position c) none
  stands_as session c kind.Renew stage none = renews_from stage none

  closed_off_from : (stage : Stage) (refusal : Refusal) → Leaves s (refused_turn position s kind.Close stage refusal)
  closed_off_from First refusal none = refl
  closed_off_from Looked refusal none = refl
  closed_off_from (Answered at answer) refusal none = refl
  closed_off_from (Granted claim) refusal none = refl
  closed_off_from (Renewed claim) refusal none = refl
  closed_off_from Finished refusal none = refl
  closed_off_from CutOff refusal none = refl

  refused_as_one : (k : Kind) (stage : Stage) (refusal : Refusal) → Leaves s (refused_turn position s k stage refusal)
  refused_as_one kind.Look stage refusal none = refl
  refused_as_one kind.Decide stage refusal none = refl
  refused_as_one kind.Close stage refusal none = closed_off_from stage refusal none
  refused_as_one kind.Grant stage refusal none = refl
  refused_as_one kind.Renew stage refusal none = refl

closed_known : (b : Bool) (position : ℕ) (s : State) → tables_known (closed_if b position s).warehouse.store ≡ tables_known s.warehouse.store
closed_known true position s = refl
closed_known false position s = refl

module _ (r : Run) (c : Command) (e : Entry) (stage : Stage) where
  turns_from : (o : Outcome) → Leaves r.state (turn_of r c e stage o)
  turns_from outcome.Stands none = stands_as r.position r.state e.session c e.kind stage none
  turns_from outcome.Memory none = refused_as_one r.position r.state e.kind stage no.Memory none
  turns_from outcome.ReadFault none = refused_as_one r.position r.state e.kind stage no.ReadFault none
  turns_from outcome.WriteFault none = refused_as_one r.position (closed_if (closes r.moment e) r.position r.state) e.kind stage no.WriteFault none ∙ closed_known (closes r.moment e) r.position r.state
  turns_from outcome.Damaged none = refused_as_one r.position r.state e.kind stage _ none
  turns_from outcome.Skipped none = refl

turns_as : (r : Run) (e : Entry) (o : Option Command) → Leaves r.state (turn_as r e o)
turns_as r e None none = refl
turns_as r e (Some c) none = turns_from r c e (place_of r e.session).stage e.outcome none

turn_leaves : (script : Script) (r : Run) (e : Entry) → Leaves r.state (turned script r e)
unfolding turned
turn_leaves script r e none = turns_as r e (command_of script e) none

-- ---- histories

none_counted : (b : Bool) (n : ℕ) → one_if b + n ≡ 0 → (b ≡ false) × (n ≡ 0)
none_counted true n is = absurd (omega (arith, is))
none_counted false n is = (refl, omega (arith, is))

history_leaves : (script : Script) (r : Run) (h : List Entry) → schema_changes script r h ≡ 0 → tables_known (runs script r h).state.warehouse.store ≡ tables_known r.state.warehouse.store
unfolding runs count_in
history_leaves script r [] none = refl
history_leaves script r (e ∷ h) none =
    let both = none_counted (changes_schemas script r e) (schema_changes script (go script r e) h) none in
    history_leaves script (go script r e) h both.1
    ∙ (ap (λ (s : State). tables_known s.warehouse.store) (state_after script r e) ∙ turn_leaves script r e both.0)

changes_append : (script : Script) (r : Run) (h more : List Entry) → schema_changes script r (h ++ more) ≡ schema_changes script r h + schema_changes script (runs script r h) more
unfolding runs count_in
changes_append script r [] more = omega arith
changes_append script r (e ∷ h) more = let rest = changes_append script (go script r e) h more in omega (arith, rest)

pub lasts : SightLasts
lasts script start generation h more same =
    let counted = changes_append script (begins start) h more in
    let none : schema_changes script (runs script (begins start) h) more ≡ 0 = omega (arith, counted, same) in
    let tables : tables_known (runs script (begins start) (h ++ more)).state.warehouse.store ≡ tables_known (runs script (begins start) h).state.warehouse.store =
    ap (λ (r : Run). tables_known r.state.warehouse.store) (runs-append script (begins start) h more) ∙ history_leaves script (runs script (begins start) h) more none in
    λ i. record { generation = same i; tables = tables i }
