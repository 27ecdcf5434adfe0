-- No command but a query is answered by a page.
use Rattle.std.proofs.Common.{◌≡◌, ℕ, List, [], length, ◌∙◌, Bool, true, false, nat_lt, Option, Some, None, Result, Ok, Err, is_none, nat_le, ok_or}
use Rattle.mesa_history_spec.specs.mesa_list.Checks.{◌>>=◌, ◌>>◌, refuse_if, refused_as}
use Rattle.mesa_history_spec.specs.mesa_span.Work.{next_work}
use Rattle.mesa_history_spec.specs.mesa_span.declared.works.Work.{Work}
use Rattle.mesa_history_spec.specs.mesa_span.declared.works.Work.TheVariants as work
use Rattle.mesa_history_spec.specs.mesa_lease.Book.{holder}
use Rattle.mesa_history_spec.specs.mesa_schema.Changes.{change_checked, columns_of}
use Rattle.mesa_history_spec.specs.mesa_columns.Names.{is_name}
use Rattle.mesa_history_spec.specs.mesa_schema.Recasts.{recast_checked}
use Rattle.mesa_history_spec.specs.mesa_columns.Schema.{schema_checked}
use Rattle.mesa_history_spec.specs.mesa_batch.Batch.{batch_of}
use Rattle.mesa_history_spec.specs.mesa_batch.declared.words.RowWords.{RowWords}
use Rattle.mesa_history_spec.specs.mesa_filter.declared.words.VersionWord.{VersionWord}
use Rattle.mesa_history_spec.specs.mesa_model.declared.commands.AlterWords.{AlterWords}
use Rattle.mesa_history_spec.specs.mesa_model.declared.commands.Command.{Command}
use Rattle.mesa_history_spec.specs.mesa_model.declared.commands.Command.TheVariants as command
use Rattle.mesa_history_spec.specs.mesa_model.declared.commands.ExplainWords.{ExplainWords}
use Rattle.mesa_history_spec.specs.mesa_model.declared.commands.RecastWords.{RecastWords}
use Rattle.mesa_history_spec.specs.mesa_model.declared.commands.TableWords.{TableWords}
use Rattle.mesa_history_spec.specs.mesa_model.declared.commands.ViewWords.{ViewWords}
use Rattle.mesa_history_spec.specs.mesa_model.declared.replies.Page.{Page}
use Rattle.mesa_history_spec.specs.mesa_model.declared.replies.Refusal.{Refusal}
use Rattle.mesa_history_spec.specs.mesa_model.declared.replies.Reply.{Reply}
use Rattle.mesa_history_spec.specs.mesa_model.declared.replies.Reply.TheVariants as reply
use Rattle.mesa_history_spec.specs.mesa_model.Warehouse.{Table, Warehouse, max_pins, max_tables, max_versions, newest_of, table_at}
use Rattle.mesa_history_spec.specs.mesa_model.Load.{bounds_checked, load_batch, tables_named}
use Rattle.mesa_history_spec.specs.mesa_model.Relations.{is_taken, relation_of, table_number}
use Rattle.mesa_history_spec.specs.mesa_model.Step.{done_or_refused}
use Rattle.mesa_history_spec.specs.mesa_model.Tables.{alter_table, change_asked, columns_asked, make_table, make_view, names_are_good, recast_asked, recast_reply, view_of_table_checked}
use Rattle.mesa_history_spec.specs.mesa_model.Versions.{common_oldest, expire_to, version_asked, version_checked}
use Rattle.mesa_history_spec.specs.mesa_model.Pins.{make_pin, pin_of, release_pin}
use Rattle.mesa_history_spec.specs.mesa_model.Orders.{order_asked}
use Rattle.mesa_history_spec.specs.mesa_model.Refusals.{recast_refusal, refuse_closed}
use Rattle.mesa_history_spec.specs.Machine.{Claim, Machine, claim_of, explained, max_deltas, ranges_at, recast_claim_of, refuse_busy, singletons_of, swapped_reply}
use Rattle.mesa_history_spec.specs.Replay.{claim_asked}
use Rattle.mesa_history_laws.proofs.Checks.{after_check, after_other, after_other_check, after_refuse_if, after_refuse_unless, after_some, after_value}

-- a reply that is no page
abbrev pub NoPage : Reply → Type 0
NoPage r = (page : Page) → r ≡ reply.Page page → ⊥

pub refused_is_none : (refusal : Refusal) → NoPage (reply.Refused refusal)
refused_is_none refusal page e = cc

-- ---- commands

module _ (w : Warehouse) where
  record Tells (r : Result (Warehouse × Reply) Refusal) : Type 0 where
    pub none : NoPage (done_or_refused w r).1

  no : (e : Refusal) → Tells (Err e)
  no e = record { none = λ page is. cc }

  pub nothing_tells : NoPage (done_or_refused w (refuse_closed w.closed >> Ok (w, reply.Idle))).1
  nothing_tells =
      let all : Tells (refuse_closed w.closed >> Ok (w, reply.Idle)) = after_check Tells no (refuse_closed w.closed) _ (λ open'. record { none = λ page is. cc }) in
      all.none

  pub table_tells : (words : TableWords) → NoPage (done_or_refused w (make_table w words)).1
  table_tells words =
      let all : Tells (make_table w words) =
      after_check Tells no (refuse_closed w.closed) _ (λ open'. after_refuse_unless Tells no (is_name words.table) _ _ (λ name. after_refuse_if Tells no (is_taken w.store words.table) _ _ (λ free.
      after_refuse_unless Tells no (names_are_good (columns_asked words)) _ _ (λ names. after_other_check Tells no _ (schema_checked (columns_asked words)) _ (λ schema. after_refuse_if Tells no (nat_le max_tables (length w.store.tables)) _ _ (λ room.
      record { none = λ page is. cc })))))) in
      all.none

  pub view_tells : (words : ViewWords) → NoPage (done_or_refused w (make_view w words)).1
  view_tells words =
      let all : Tells (make_view w words) =
      after_check Tells no (refuse_closed w.closed) _ (λ open'. after_refuse_unless Tells no (is_name words.view) _ _ (λ name. after_refuse_if Tells no (is_taken w.store words.view) _ _ (λ free.
      after_some Tells no (table_number w.store words.table) _ _ (λ number is. after_check Tells no (view_of_table_checked (table_at w.store number) words) _ (λ rules.
      record { none = λ page is. cc }))))) in
      all.none

  pub alter_tells : (words : AlterWords) → NoPage (done_or_refused w (alter_table w words)).1
  alter_tells words =
      let all : Tells (alter_table w words) =
      after_check Tells no (refuse_closed w.closed) _ (λ open'. after_some Tells no (table_number w.store words.table) _ _ (λ number is. after_value Tells no (change_asked (columns_of (table_at w.store number).lineage) words.change) _ (λ c asked.
      after_other_check Tells no _ (change_checked (table_at w.store number).lineage c) _ (λ rules.
      record { none = λ page is. cc })))) in
      all.none

  pub load_tells : (rows : List RowWords) → NoPage (done_or_refused w (load_batch w rows)).1
  load_tells rows =
      let all : Tells (load_batch w rows) =
      after_check Tells no (refuse_closed w.closed) _ (λ open'. after_other Tells no _ (batch_of (tables_named w.store) rows) _ (λ batch is. after_refuse_if Tells no (nat_le max_versions w.next) _ _ (λ room. after_check Tells no (bounds_checked batch 0 w.store.tables) _ (λ bound.
      record { none = λ page is. cc })))) in
      all.none

  pub pin_tells : (session : ℕ) (asked : VersionWord) → NoPage (done_or_refused w (make_pin w session asked)).1
  pin_tells session asked =
      let all : Tells (make_pin w session asked) =
      after_check Tells no (refuse_closed w.closed) _ (λ open'. after_value Tells no (version_asked w (common_oldest w.store) asked) _ (λ version is. after_refuse_if Tells no (nat_le max_pins (length w.pins)) _ _ (λ room. record { none = λ page is. cc }))) in
      all.none

  pub release_tells : (session token : ℕ) → NoPage (done_or_refused w (release_pin w session token)).1
  release_tells session token =
      let all : Tells (release_pin w session token) =
      after_check Tells no (refuse_closed w.closed) _ (λ open'. after_refuse_if Tells no (is_none (pin_of w session token)) _ _ (λ held. record { none = λ page is. cc })) in
      all.none

  pub expire_tells : (table : Option (List ℕ)) (version : ℕ) → NoPage (done_or_refused w (expire_to w table version)).1
  expire_tells None version =
      let all : Tells (expire_to w None version) =
      after_check Tells no (refuse_closed w.closed) _ (λ open'. after_check Tells no (version_checked w w.store.floor version) _ (λ there. record { none = λ page is. cc })) in
      all.none
  expire_tells (Some name) version =
      let all : Tells (expire_to w (Some name) version) =
      after_check Tells no (refuse_closed w.closed) _ (λ open'. after_some Tells no (table_number w.store name) _ _ (λ number at. after_check Tells no (version_checked w (table_at w.store number).oldest version) _ (λ there. record { none = λ page is. cc }))) in
      all.none

-- ---- the range machine

pub recast_tells : (t : Table) → NoPage (recast_reply t)
recast_tells t page is = cc

module _ (w : Warehouse) (m : Machine) where
  record Explains (r : Result Reply Refusal) : Type 0 where
    none : (other : Reply) → r ≡ Ok other → NoPage other

  -- what an explain is told
  pub explain_tells : (words : ExplainWords) (r : Reply) → explained w m words ≡ Ok r → NoPage r
  explain_tells words r =
      let no : (e : Refusal) → Explains (Err e) = λ e. record { none = λ other is page same. cc } in
      let all : Explains (explained w m words) =
      after_check Explains no (refuse_closed w.closed) _ (λ open'. after_some Explains no (relation_of w.store words.relation) _ _ (λ relation is. after_value Explains no (order_asked relation words.filter) _ (λ by told. after_value Explains no (version_asked w relation.table.oldest words.version) _ (λ version there.
      record { none = λ other is page same. cc })))) in
      all.none r

  record Claims (r : Result Claim Reply) : Type 0 where
    none : (other : Reply) → r ≡ Err other → NoPage other

  not_granted_checked : (r : Result (Unit {0}) Refusal) (next : Result Claim Reply) → Claims next → Claims (refused_as reply.Refused r >> next)
  not_granted_checked (Ok ok) next good = good
  not_granted_checked (Err e) next good = record { none = λ other is page same. cc }

  not_there : {A : Type 0} (o : Option A) (e : Reply) (f : A → Result Claim Reply) → NoPage e → ((x : A) → Claims (f x)) → Claims (ok_or o e >>= f)
  not_there None e f none good = record { none = λ other is page same. (let it : e ≡ other = cc in none page (it ∙ same)) }
  not_there (Some x) e f none good = good x

  not_free : (o : Option ℕ) (next : Result Claim Reply) → Claims next → Claims (refuse_busy o >> next)
  not_free None next good = good
  not_free (Some lease) next good = record { none = λ other is page same. cc }

  -- what a work is told that isn't granted
  claim_tells : (position : ℕ) (name : List ℕ) (r : Reply) → claim_of w m position name ≡ Err r → NoPage r
  claim_tells position name r =
      let all : Claims (claim_of w m position name) =
      not_granted_checked (refuse_closed w.closed) _ (
      not_there (table_number w.store name) _ _ (λ page is. cc) (λ table.
      not_free (holder m.leases table position) _ (
      not_there (next_work (ranges_at m table) (table_at w.store table).oldest (newest_of w)) _ _ (λ page is. cc) (λ work. record { none = λ other is page same. cc })))) in
      all.none r

  not_many : (t : Bool) (e : Reply) (next : Result Claim Reply) → NoPage e → Claims next → Claims (refuse_if t e >> next)
  not_many true e next none good = record { none = λ other is page same. (let it : e ≡ other = cc in none page (it ∙ same)) }
  not_many false e next none good = good

  recast_claim_tells : (position : ℕ) (words : RecastWords) (r : Reply) → recast_claim_of w m position words ≡ Err r → NoPage r
  recast_claim_tells position words r =
      let all : Claims (recast_claim_of w m position words) =
      not_granted_checked (refuse_closed w.closed) _ (
      not_there (table_number w.store words.table) _ _ (λ page is. cc) (λ table.
      not_granted_checked (refused_as recast_refusal (recast_checked (table_at w.store table).lineage (recast_asked words))) _ (
      not_free (holder m.leases table position) _ (
      not_many (nat_lt max_deltas (singletons_of w m table)) _ _ (λ page is. cc) (record { none = λ other is page same. cc }))))) in
      all.none r

  -- what a command is told that isn't granted
  pub asked_tells : (position : ℕ) (c : Command) (r : Reply) → claim_asked w m position c ≡ Err r → NoPage r
  asked_tells position (command.Recast words) = recast_claim_tells position words
  asked_tells position (command.Table words) = claim_tells position []
  asked_tells position (command.View words) = claim_tells position []
  asked_tells position (command.Alter words) = claim_tells position []
  asked_tells position (command.Load rows) = claim_tells position []
  asked_tells position (command.Query words) = claim_tells position []
  asked_tells position (command.Explain words) = claim_tells position []
  asked_tells position (command.Pin asked) = claim_tells position []
  asked_tells position (command.Release token) = claim_tells position []
  asked_tells position (command.Expire table version) = claim_tells position []
  asked_tells position (command.Work words) = claim_tells position words.table

pub swap_tells : (w : Work) → NoPage (swapped_reply w)
swap_tells (work.Base to) page e = cc
swap_tells (work.Cumulative from to) page e = cc
