-- What a turn makes of the tables and the number of versions, and what it does to the rows that are written: nothing, or what one of seven commands makes of them.
use Rattle.std.proofs.Common.{◌≡◌, ℕ, ◌+◌, List, [], ◌∷◌, ◌++◌, length, true, false, subst, sym, Option, Some, None, Result, Ok, Err, is_none, is_ok, nat_le}
use Rattle.mesa_history_spec.specs.mesa_columns.declared.changes.Change.{Change}
use Rattle.mesa_history_spec.specs.mesa_schema.Changes.{change_checked, columns_of}
use Rattle.mesa_history_spec.specs.mesa_columns.Names.{is_name}
use Rattle.mesa_history_spec.specs.mesa_schema.Recasts.{Recast, recast_checked}
use Rattle.mesa_history_spec.specs.mesa_columns.Schema.{schema_checked}
use Rattle.mesa_history_spec.specs.mesa_batch.declared.words.RowWords.{RowWords}
use Rattle.mesa_history_spec.specs.mesa_batch.declared.words.BatchError.{BatchError}
use Rattle.mesa_history_spec.specs.mesa_batch.Batch.{Placed, batch_of}
use Rattle.mesa_history_spec.specs.mesa_filter.declared.words.VersionWord.{VersionWord}
use Rattle.mesa_history_spec.specs.mesa_list.Checks.{◌>>◌}
use Rattle.mesa_history_spec.specs.mesa_model.declared.commands.AlterWords.{AlterWords}
use Rattle.mesa_history_spec.specs.mesa_model.declared.commands.Command.{Command}
use Rattle.mesa_history_spec.specs.mesa_model.declared.commands.Command.TheVariants as command
use Rattle.mesa_history_spec.specs.mesa_model.declared.commands.RecastWords.{RecastWords}
use Rattle.mesa_history_spec.specs.mesa_model.declared.commands.TableWords.{TableWords}
use Rattle.mesa_history_spec.specs.mesa_model.declared.commands.ViewWords.{ViewWords}
use Rattle.mesa_history_spec.specs.mesa_model.declared.replies.Refusal.{Refusal}
use Rattle.mesa_history_spec.specs.mesa_model.declared.replies.Reply.{Reply}
use Rattle.mesa_history_spec.specs.mesa_model.declared.replies.Reply.TheVariants as reply
use Rattle.mesa_history_spec.specs.mesa_model.Warehouse.{Store, Table, Warehouse, max_pins, max_tables, max_versions, table_at, with_table, with_tables}
use Rattle.mesa_history_spec.specs.mesa_model.Load.{bounds_checked, load_batch, tables_named, with_batch}
use Rattle.mesa_history_spec.specs.mesa_model.Relations.{is_taken, table_number}
use Rattle.mesa_history_spec.specs.mesa_model.Step.{done_or_refused, step}
use Rattle.mesa_history_spec.specs.mesa_model.Tables.{alter_table, change_asked, columns_asked, make_table, make_view, names_are_good, new_table, recast_asked, recast_table, table_changed, view_of_table_checked, with_recast}
use Rattle.mesa_history_spec.specs.mesa_model.Versions.{common_oldest, expire_to, store_from, table_from, version_asked, version_checked}
use Rattle.mesa_history_spec.specs.mesa_model.Pins.{make_pin, pin_of, release_pin}
use Rattle.mesa_history_spec.specs.mesa_model.Refusals.{refuse_closed}
use Rattle.mesa_history_spec.specs.Law.{Accepts, Leaves, Regroups, Writing, batch_or_none, writing_as}
use Rattle.mesa_history_spec.specs.Run.{First, Stage}
use Rattle.mesa_history_laws.proofs.Checks.{after_value, after_check, after_refuse_if, after_refuse_unless, after_some, after_other, after_other_check}

-- ---- what a command makes

-- a table with a view more
abbrev pub viewed : Table → ViewWords → Table
viewed t words = record t { lineage = record t.lineage { views = t.lineage.views ++ record { name = words.view; keys = words.keys; values = words.values } ∷ [] } }

-- Something that holds of the tables, of the number of versions and of what is done to written rows, whatever a turn makes of a warehouse.
pub record Moves (w : Warehouse) (P : Store → ℕ → Writing → Type 0) : Type 0 where
  pub same : P w.store w.next Leaves
  pub loads : (rows : List RowWords) (batch : List Placed) → batch_of (tables_named w.store) rows ≡ Ok batch
      → P (with_batch w batch).store (w.next + 1) (Accepts w.next batch)
  pub makes : (words : TableWords) → is_taken w.store words.table ≡ false → is_ok (schema_checked (columns_asked words)) ≡ true
      → P (with_tables w (w.store.tables ++ new_table w words.table (columns_asked words) ∷ [])).store w.next Leaves
  pub views : (words : ViewWords) (number : ℕ) → is_taken w.store words.view ≡ false → table_number w.store words.table ≡ Some number
      → is_ok (view_of_table_checked (table_at w.store number) words) ≡ true
      → P (with_table w number (viewed (table_at w.store number) words)).store w.next Leaves
  pub alters : (words : AlterWords) (number : ℕ) (c : Change) → table_number w.store words.table ≡ Some number
      → change_asked (columns_of (table_at w.store number).lineage) words.change ≡ Ok c → is_ok (change_checked (table_at w.store number).lineage c) ≡ true
      → P (with_table w number (table_changed (table_at w.store number) c)).store w.next Leaves
  pub expires : (version : ℕ) → is_ok (version_checked w w.store.floor version) ≡ true → P (store_from w.store version) w.next Leaves
  pub expires_one : (name : List ℕ) (number version : ℕ) → table_number w.store name ≡ Some number → is_ok (version_checked w (table_at w.store number).oldest version) ≡ true
      → P (with_table w number (table_from version (table_at w.store number))).store w.next Leaves
  pub recasts : (number : ℕ) (r : Recast) → is_ok (recast_checked (table_at w.store number).lineage r) ≡ true → P (with_recast w number r).store w.next (Regroups number r)

-- It holds once a command was done or refused that has come to a stage.
pub record Done (w : Warehouse) (P : Store → ℕ → Writing → Type 0) (stage : Stage) (c : Command) (r : Result (Warehouse × Reply) Refusal) : Type 0 where
  pub holds : P (done_or_refused w r).0.store (done_or_refused w r).0.next (writing_as w.store c stage (done_or_refused w r).1)

-- It holds once a recast was done or refused.
pub record Recasted (w : Warehouse) (P : Store → ℕ → Writing → Type 0) (r : Result (Warehouse × Reply) Refusal) : Type 0 where
  writing : Writing
  holds : P (done_or_refused w r).0.store (done_or_refused w r).0.next writing

module _ (w : Warehouse) (P : Store → ℕ → Writing → Type 0) (moves : Moves w P) (stage : Stage) where
  refused : (c : Command) (e : Refusal) → Done w P stage c (Err e)
  refused c e = record { holds = moves.same }

  pub load_moves : (rows : List RowWords) → Done w P stage (command.Load rows) (load_batch w rows)
  load_moves rows =
      let D = Done w P stage (command.Load rows) in
      let no = refused (command.Load rows) in
      after_check D no (refuse_closed w.closed) _ (λ open'. after_other D no _ (batch_of (tables_named w.store) rows) _ (λ batch is. after_refuse_if D no (nat_le max_versions w.next) _ _ (λ room. after_check D no (bounds_checked batch 0 w.store.tables) _ (λ bound.
      record { holds = subst (λ (r : Result (List Placed) BatchError). P (with_batch w batch).store (w.next + 1) (Accepts w.next (batch_or_none r))) (sym is) (moves.loads rows batch is) }))))

  pub table_moves : (words : TableWords) → Done w P stage (command.Table words) (make_table w words)
  table_moves words =
      let D = Done w P stage (command.Table words) in
      let no = refused (command.Table words) in
      after_check D no (refuse_closed w.closed) _ (λ open'. after_refuse_unless D no (is_name words.table) _ _ (λ name. after_refuse_if D no (is_taken w.store words.table) _ _ (λ free.
      after_refuse_unless D no (names_are_good (columns_asked words)) _ _ (λ names. after_other_check D no _ (schema_checked (columns_asked words)) _ (λ schema. after_refuse_if D no (nat_le max_tables (length w.store.tables)) _ _ (λ room.
      record { holds = moves.makes words free schema }))))))

  pub view_moves : (words : ViewWords) → Done w P stage (command.View words) (make_view w words)
  view_moves words =
      let D = Done w P stage (command.View words) in
      let no = refused (command.View words) in
      after_check D no (refuse_closed w.closed) _ (λ open'. after_refuse_unless D no (is_name words.view) _ _ (λ name. after_refuse_if D no (is_taken w.store words.view) _ _ (λ free.
      after_some D no (table_number w.store words.table) _ _ (λ number is. after_check D no (view_of_table_checked (table_at w.store number) words) _ (λ rules.
      record { holds = moves.views words number free is rules })))))

  pub alter_moves : (words : AlterWords) → Done w P stage (command.Alter words) (alter_table w words)
  alter_moves words =
      let D = Done w P stage (command.Alter words) in
      let no = refused (command.Alter words) in
      after_check D no (refuse_closed w.closed) _ (λ open'. after_some D no (table_number w.store words.table) _ _ (λ number is. after_value D no (change_asked (columns_of (table_at w.store number).lineage) words.change) _ (λ c asked.
      after_other_check D no _ (change_checked (table_at w.store number).lineage c) _ (λ rules.
      record { holds = moves.alters words number c is asked rules }))))

  pub expire_moves : (table : Option (List ℕ)) (version : ℕ) → Done w P stage (command.Expire table version) (expire_to w table version)
  expire_moves None version =
      let D = Done w P stage (command.Expire None version) in
      let no = refused (command.Expire None version) in
      after_check D no (refuse_closed w.closed) _ (λ open'. after_check D no (version_checked w w.store.floor version) _ (λ there. record { holds = moves.expires version there }))
  expire_moves (Some name) version =
      let D = Done w P stage (command.Expire (Some name) version) in
      let no = refused (command.Expire (Some name) version) in
      after_check D no (refuse_closed w.closed) _ (λ open'. after_some D no (table_number w.store name) _ _ (λ number is. after_check D no (version_checked w (table_at w.store number).oldest version) _ (λ there.
      record { holds = moves.expires_one name number version is there })))

  pub pin_moves : (session : ℕ) (asked : VersionWord) → Done w P stage (command.Pin asked) (make_pin w session asked)
  pin_moves session asked =
      let D = Done w P stage (command.Pin asked) in
      let no = refused (command.Pin asked) in
      after_check D no (refuse_closed w.closed) _ (λ open'. after_value D no (version_asked w (common_oldest w.store) asked) _ (λ version is. after_refuse_if D no (nat_le max_pins (length w.pins)) _ _ (λ room. record { holds = moves.same })))

  pub release_moves : (session token : ℕ) → Done w P stage (command.Release token) (release_pin w session token)
  release_moves session token =
      let D = Done w P stage (command.Release token) in
      let no = refused (command.Release token) in
      after_check D no (refuse_closed w.closed) _ (λ open'. after_refuse_if D no (is_none (pin_of w session token)) _ _ (λ held. record { holds = moves.same }))

  -- a command that asks nothing of the rows
  pub nothing_moves : (c : Command) → Done w P stage c (refuse_closed w.closed >> Ok (w, reply.Idle))
  nothing_moves c =
      after_check (Done w P stage c) (refused c) (refuse_closed w.closed) _ (λ open'. record { holds = moves.same })

  -- a recast
  unrecast : (e : Refusal) → Recasted w P (Err e)
  unrecast e = record { writing = Leaves; holds = moves.same }

  recast_moves : (words : RecastWords) → Recasted w P (recast_table w words)
  recast_moves words =
      let R = Recasted w P in
      after_check R unrecast (refuse_closed w.closed) _ (λ open'. after_some R unrecast (table_number w.store words.table) _ _ (λ number is. after_other_check R unrecast _ (recast_checked (table_at w.store number).lineage (recast_asked words)) _ (λ rules.
      record { writing = Regroups number (recast_asked words); holds = moves.recasts number (recast_asked words) rules })))

-- What Step makes of a warehouse.
pub step_moves : (w : Warehouse) (P : Store → ℕ → Writing → Type 0) → Moves w P → (session : ℕ) (c : Command) → (x : Writing) × P (step w session c).0.store (step w session c).0.next x
step_moves w P moves session (command.Table words) = (_, (table_moves w P moves First words).holds)
step_moves w P moves session (command.View words) = (_, (view_moves w P moves First words).holds)
step_moves w P moves session (command.Alter words) = (_, (alter_moves w P moves First words).holds)
step_moves w P moves session (command.Load rows) = (_, (load_moves w P moves First rows).holds)
step_moves w P moves session (command.Query words) = (Leaves, moves.same)
step_moves w P moves session (command.Explain words) = (_, (nothing_moves w P moves First (command.Explain words)).holds)
step_moves w P moves session (command.Pin asked) = (_, (pin_moves w P moves First session asked).holds)
step_moves w P moves session (command.Release token) = (_, (release_moves w P moves First session token).holds)
step_moves w P moves session (command.Expire table version) = (_, (expire_moves w P moves First table version).holds)
step_moves w P moves session (command.Work words) = (_, (nothing_moves w P moves First (command.Work words)).holds)
step_moves w P moves session (command.Recast words) = (let made = recast_moves w P moves First words in (made.writing, made.holds))
