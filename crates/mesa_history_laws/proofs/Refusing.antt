-- A refused command changes nothing.
use Rattle.std.proofs.Common.{◌≡◌, ℕ, length, refl, Some, None, Result, Ok, Err, is_none, nat_le}
use Rattle.mesa_history_spec.specs.mesa_list.Checks.{◌>>◌}
use Rattle.mesa_history_spec.specs.mesa_schema.Changes.{change_checked, columns_of}
use Rattle.mesa_history_spec.specs.mesa_columns.Names.{is_name}
use Rattle.mesa_history_spec.specs.mesa_schema.Recasts.{recast_checked}
use Rattle.mesa_history_spec.specs.mesa_columns.Schema.{schema_checked}
use Rattle.mesa_history_spec.specs.mesa_batch.Batch.{batch_of}
use Rattle.mesa_history_spec.specs.mesa_model.declared.commands.Command.{Command}
use Rattle.mesa_history_spec.specs.mesa_model.declared.commands.Command.TheVariants as command
use Rattle.mesa_history_spec.specs.mesa_model.declared.replies.Refusal.{Refusal}
use Rattle.mesa_history_spec.specs.mesa_model.declared.replies.Reply.{Reply}
use Rattle.mesa_history_spec.specs.mesa_model.declared.replies.Reply.TheVariants as reply
use Rattle.mesa_history_spec.specs.mesa_model.Warehouse.{Warehouse, max_pins, max_tables, max_versions, table_at}
use Rattle.mesa_history_spec.specs.mesa_model.Load.{bounds_checked, load_batch, tables_named}
use Rattle.mesa_history_spec.specs.mesa_model.Relations.{is_taken, table_number}
use Rattle.mesa_history_spec.specs.mesa_model.Step.{done_or_refused, step}
use Rattle.mesa_history_spec.specs.mesa_model.Tables.{alter_table, change_asked, columns_asked, make_table, make_view, names_are_good, recast_asked, recast_table, view_of_table_checked}
use Rattle.mesa_history_spec.specs.mesa_model.Versions.{common_oldest, expire_to, version_asked, version_checked}
use Rattle.mesa_history_spec.specs.mesa_model.Pins.{make_pin, pin_of, release_pin}
use Rattle.mesa_history_spec.specs.mesa_model.Refusals.{refuse_closed}
use Rattle.mesa_history_laws.proofs.Checks.{after_check, after_other, after_other_check, after_refuse_if, after_refuse_unless, after_some, after_value}

-- the warehouse is the same where the reply is a refusal
record Stays (w : Warehouse) (r : Result (Warehouse × Reply) Refusal) : Type 0 where
  same : (refusal : Refusal) → (done_or_refused w r).1 ≡ reply.Refused refusal → (done_or_refused w r).0 ≡ w

module _ (w : Warehouse) where
  abbrev S : Result (Warehouse × Reply) Refusal → Type 0
  S = Stays w

  no : (e : Refusal) → S (Err e)
  no e = record { same = λ refusal is. refl }

  nothing_stays : S (refuse_closed w.closed >> Ok (w, reply.Idle))
  nothing_stays = after_check S no (refuse_closed w.closed) _ (λ open'. record { same = λ refusal is. cc })

  -- A command that is refused leaves the warehouse as it was.
  pub refused_stays : (session : ℕ) (c : Command) (refusal : Refusal) → (step w session c).1 ≡ reply.Refused refusal → (step w session c).0 ≡ w
  refused_stays session (command.Table words) =
      let all : S (make_table w words) =
      after_check S no (refuse_closed w.closed) _ (λ open'. after_refuse_unless S no (is_name words.table) _ _ (λ name. after_refuse_if S no (is_taken w.store words.table) _ _ (λ free.
      after_refuse_unless S no (names_are_good (columns_asked words)) _ _ (λ names. after_other_check S no _ (schema_checked (columns_asked words)) _ (λ schema. after_refuse_if S no (nat_le max_tables (length w.store.tables)) _ _ (λ room.
      record { same = λ refusal is. cc })))))) in
      all.same
  refused_stays session (command.View words) =
      let all : S (make_view w words) =
      after_check S no (refuse_closed w.closed) _ (λ open'. after_refuse_unless S no (is_name words.view) _ _ (λ name. after_refuse_if S no (is_taken w.store words.view) _ _ (λ free.
      after_some S no (table_number w.store words.table) _ _ (λ number is. after_check S no (view_of_table_checked (table_at w.store number) words) _ (λ rules.
      record { same = λ refusal is. cc }))))) in
      all.same
  refused_stays session (command.Alter words) =
      let all : S (alter_table w words) =
      after_check S no (refuse_closed w.closed) _ (λ open'. after_some S no (table_number w.store words.table) _ _ (λ number is. after_value S no (change_asked (columns_of (table_at w.store number).lineage) words.change) _ (λ c asked.
      after_other_check S no _ (change_checked (table_at w.store number).lineage c) _ (λ rules.
      record { same = λ refusal is. cc })))) in
      all.same
  refused_stays session (command.Load rows) =
      let all : S (load_batch w rows) =
      after_check S no (refuse_closed w.closed) _ (λ open'. after_other S no _ (batch_of (tables_named w.store) rows) _ (λ batch is. after_refuse_if S no (nat_le max_versions w.next) _ _ (λ room. after_check S no (bounds_checked batch 0 w.store.tables) _ (λ bound.
      record { same = λ refusal is. cc })))) in
      all.same
  refused_stays session (command.Query words) = λ refusal is. refl
  refused_stays session (command.Explain words) = nothing_stays.same
  refused_stays session (command.Pin asked) =
      let all : S (make_pin w session asked) =
      after_check S no (refuse_closed w.closed) _ (λ open'. after_value S no (version_asked w (common_oldest w.store) asked) _ (λ version is. after_refuse_if S no (nat_le max_pins (length w.pins)) _ _ (λ room. record { same = λ refusal is. cc }))) in
      all.same
  refused_stays session (command.Release token) =
      let all : S (release_pin w session token) =
      after_check S no (refuse_closed w.closed) _ (λ open'. after_refuse_if S no (is_none (pin_of w session token)) _ _ (λ held. record { same = λ refusal is. cc })) in
      all.same
  refused_stays session (command.Expire None version) =
      let all : S (expire_to w None version) =
      after_check S no (refuse_closed w.closed) _ (λ open'. after_check S no (version_checked w w.store.floor version) _ (λ there. record { same = λ refusal is. cc })) in
      all.same
  refused_stays session (command.Expire (Some name) version) =
      let all : S (expire_to w (Some name) version) =
      after_check S no (refuse_closed w.closed) _ (λ open'. after_some S no (table_number w.store name) _ _ (λ number at. after_check S no (version_checked w (table_at w.store number).oldest version) _ (λ there. record { same = λ refusal is. cc }))) in
      all.same
  refused_stays session (command.Work words) = nothing_stays.same
  refused_stays session (command.Recast words) =
      let all : S (recast_table w words) =
      after_check S no (refuse_closed w.closed) _ (λ open'. after_some S no (table_number w.store words.table) _ _ (λ number is. after_other_check S no _ (recast_checked (table_at w.store number).lineage (recast_asked words)) _ (λ rules.
      record { same = λ refusal is. cc }))) in
      all.same
