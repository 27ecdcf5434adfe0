-- What the record of each command that writes does to a vault's books and to its catalogue.
use Rattle.std.proofs.Common.{◌≡◌, ℕ, ◌+◌, ◌<◌, List, [], ◌∷◌, ◌++◌, length, Bool, true, ◌&&◌, nat_le, nat_lt, is_ok, refl, sym, ◌∙◌, ap, subst, Option, None, Some, Ok, IsTrue}
use Rattle.std.proofs.lemmas.Simd.{map-map}
use Rattle.mesa_batch.specs.Batch.{Placed, batch_of}
use Rattle.mesa_batch.specs.declared.words.RowWords.{RowWords}
use Rattle.mesa_columns.specs.declared.changes.Change.{Change as ColumnChange}
use Rattle.mesa_file_records.specs.mesa_schema.Changes.{columns_of, epoch_of}
use Rattle.mesa_columns.specs.Columns.{place_of}
use Rattle.mesa_file_records.specs.mesa_schema.Views.{max_views, view_checked}
use Rattle.mesa_disk.specs.Story.{Story}
use Rattle.mesa_model.specs.declared.commands.AlterWords.{AlterWords}
use Rattle.mesa_model.specs.declared.commands.Command.{Command}
use Rattle.mesa_model.specs.declared.commands.Command.TheVariants as command
use Rattle.mesa_model.specs.declared.commands.TableWords.{TableWords}
use Rattle.mesa_model.specs.declared.commands.ViewWords.{ViewWords}
use Rattle.mesa_model.specs.declared.entries.Entry.{Entry}
use Rattle.mesa_model.specs.declared.replies.Reply.{Reply}
use Rattle.mesa_model.specs.declared.replies.Reply.TheVariants as reply
use Rattle.mesa_model.specs.Load.{load_batch}
use Rattle.mesa_model.specs.Relations.{table_number}
use Rattle.mesa_model.specs.Tables.{alter_table, change_asked, columns_asked, make_table, make_view}
use Rattle.mesa_model.specs.Versions.{expire_all, expire_table}
use Rattle.mesa_model.specs.Warehouse.{Table}
use Rattle.mesa_file_records.specs.mesa_history_spec.Counting.{one_if}
use Rattle.mesa_file_records.specs.mesa_history_spec.Found.{Kept}
use Rattle.mesa_file_records.specs.mesa_history_spec.Legal.{is_writing, is_written}
use Rattle.mesa_file_records.specs.mesa_history_spec.Replay.{told_by}
use Rattle.mesa_file_records.specs.mesa_history_spec.Run.{command_of}
use Rattle.mesa_record.specs.declared.record.Part.{Part}
use Rattle.mesa_record.specs.declared.record.Record.{Record}
use Rattle.mesa_record.specs.declared.record.Record.TheVariants as record_of
use Rattle.mesa_engine.specs.mesa_record_fields.Rules.{IsTypedChange}
use Rattle.mesa_record.specs.Rules.{IsTyped}
use Rattle.mesa_engine.specs.mesa_store_spec.Catalog.{Catalog, applied, meta_at}
use Rattle.mesa_engine.specs.mesa_store_spec.Fitting.{expire_fits, fits, is_new_name, is_there}
use Rattle.mesa_engine.specs.mesa_store_spec.Sound.{HaveSoundRows}
use Rattle.mesa_engine.proofs.mesa_store_spec.Agreeing.{agree_sound_rows}
use Rattle.mesa_engine.proofs.mesa_store_spec.AllSourced.{alter_sourced, expire_sourced, expire_table_sourced, table_sourced, view_sourced}
use Rattle.mesa_engine.proofs.mesa_store_spec.Lists.{both_true, is_less}
use Rattle.mesa_engine.proofs.mesa_store_spec.Moving.{alter_step, expire_step, expire_table_step, kind_of, publish_step, table_step, view_step}
use Rattle.mesa_engine.specs.mesa_store_spec.Brought.{AreTold, BringsAll}
use Rattle.mesa_engine.specs.mesa_store_spec.Ids.{dropped_ids}
use Rattle.mesa_engine.specs.mesa_store_spec.Moves.{Moves}
use Rattle.mesa_engine.specs.mesa_store_spec.Sourced.{HasSources, tables_read}
use Rattle.mesa_engine.specs.mesa_catalog.Lookups.{generation_of, turns_generation}
use Rattle.mesa_validate.specs.Seen.{number_of}
use Rattle.mesa_file_records.specs.mesa_history_spec.Rows.{Rows}
use Rattle.mesa_engine.specs.mesa_invariant_spec.Causes.{told_at}
use Rattle.mesa_engine.specs.mesa_invariant_spec.Changes.{Doing, IsChange, IsDecided}
use Rattle.mesa_engine.specs.mesa_invariant_spec.Sight.{is_of_schemas}
use Rattle.mesa_engine.specs.mesa_invariant_spec.Invariant.{Outset, run_of}
use Rattle.mesa_engine.proofs.mesa_invariant_spec.Changing.{alter_decided, expire_decided, load_decided, table_decided, view_decided}
use Rattle.mesa_engine.specs.EngineState.{EngineState, books_of, next_id, projection_of}
use Rattle.mesa_engine.specs.Recorded.{recorded_state}
use Rattle.mesa_engine.specs.Vault.{Origin, IsVault, written_by}
use Rattle.mesa_engine.proofs.Agreeing.{named_agree}
use Rattle.mesa_engine.proofs.Changing.{alter_change, expire_change, expire_table_change, load_change, table_change, view_change}
use Rattle.mesa_engine.proofs.Sources.{batch_sources, sources_stay}
use Rattle.mesa_engine.specs.Failing.{deciding_stage}
use Rattle.mesa_write_turns.specs.Writing.{Does, HasRecord}

-- A record, once it is written, has done a command with this reply: the books are those behind the command; what is to hold of rows holds, and what was written of each table is told; no file is dropped, and the run stays; and the generation rises where the reply tells of schemas.
pub record IsDone (o : Outset) (g : Origin) (sound : Bool) (l : EngineState) (h : List Entry) (rows later : Rows) (session : ℕ) (c : Command) (r : Record) (rep : Reply) (adopted end : ℕ) : Type 0 where
  pub f : Doing
  pub decided : IsDecided session c (deciding_stage c) f
  pub change : IsChange sound (books_of rows l) (books_of later (recorded_state l (applied l.catalogue r) (generation_of (applied l.catalogue r)) l.trash l.leases adopted end)) f rep
  pub moves : HaveSoundRows later l.catalogue → (after : Kept) × Moves later l.catalogue r after
  pub sources : (e : Entry) (p : ℕ) → command_of o.script e ≡ Some c → told_by o.script (run_of o h) e ≡ Some (told_at p rep) → IsTrue sound → HasSources later (written_by o g.found (h ++ e ∷ [])) (applied l.catalogue r)
  pub gone : dropped_ids l.catalogue r ≡ []
  pub run : (applied l.catalogue r).run ≡ l.catalogue.run
  pub rises : turns_generation r ≡ one_if (is_of_schemas rep)
  pub writes : is_written rep ≡ true
  pub writing : is_writing c ≡ true

module _ (o : Outset) (g : Origin) (sound : Bool) (l : EngineState) (story : Story) (held : Option (List ℕ)) (h : List Entry) (running refused : Bool) (v : IsVault o g sound l story held h running refused)
    (later : Rows → Rows) (agree : (rows : Rows) (id : ℕ) → id < next_id l → later rows id ≡ rows id) (opened : l.closed ≡ None) (session adopted end : ℕ) where
  abbrev c : Catalog
  c = l.catalogue

  abbrev new : Rows
  new = later v.rows

  abbrev Done : Command → Record → Reply → Type 0
  Done k r rep = IsDone o g sound l h v.rows (later v.rows) session k r rep adopted end

  abbrev generation_after : Record → ℕ
  generation_after r = generation_of (applied c r)

  -- what holds of the rows of named files holds still
  pub sound_rows_later : IsTrue sound → HaveSoundRows (later v.rows) l.catalogue
  sound_rows_later ok = agree_sound_rows v.rows new c (named_agree o g sound l story held h running refused v new (agree v.rows)) (v.sound_rows ok).0

  -- a table's number in the books is that in the catalogue
  number_seen : (name : List ℕ) → table_number (books_of v.rows l).bare.store name ≡ number_of c name
  number_seen name = ap (place_of name) (map-map (λ (t : Table). t.name) projection_of c.tables)

  -- a version that may be let go up to is there
  version_there : (oldest version : ℕ) → expire_fits c oldest version ≡ true → version < c.next
  version_there oldest version fit = is_less version c.next (both_true (nat_le oldest version) (nat_lt version c.next) fit).1

  expire_done : (version : ℕ) → fits c (record_of.Expire version) ≡ true → Does l (λ w. expire_all w version) (reply.Expired None version) → Done (command.Expire None version) (record_of.Expire version) (reply.Expired None version)
  expire_done version fit does =
      let r : Record = record_of.Expire version in
      record {
        f = λ w. expire_all w version;
        decided = expire_decided session None version;
        change = expire_change o g sound l story held h running refused v new (agree v.rows) opened (generation_after r) l.trash adopted end version (version_there c.floor version (kind_of c r fit)) does.after does.is;
        moves = λ sound_rows. (_, expire_step new c sound_rows version fit);
        sources = λ e p known told ok.
            sources_stay o g sound l story held h running refused v new (agree v.rows) e p (reply.Expired None version) told (λ s k stage. refl) (applied c r) (λ has. expire_sourced new (written_by o g.found h) c has version) ok;
        gone = refl;
        run = refl;
        rises = refl;
        writes = refl;
        writing = refl;
      }

  expire_table_done : (name : List ℕ) (version number : ℕ) → number_of c name ≡ Some number → fits c (record_of.ExpireTable number version) ≡ true → Does l (λ w. expire_table w name version) (reply.Expired (Some name) version)
      → Done (command.Expire (Some name) version) (record_of.ExpireTable number version) (reply.Expired (Some name) version)
  expire_table_done name version number found fit does =
      let r : Record = record_of.ExpireTable number version in
      let both = both_true (is_there c number) (expire_fits c (meta_at c number).oldest version) (kind_of c r fit) in
      record {
        f = λ w. expire_table w name version;
        decided = expire_decided session (Some name) version;
        change = expire_table_change o g sound l story held h running refused v new (agree v.rows) opened (generation_after r) l.trash adopted end name number version (number_seen name ∙ found) (is_less number (length c.tables) both.0) (version_there (meta_at c number).oldest version both.1) does.after does.is;
        moves = λ sound_rows. (_, expire_table_step new c sound_rows number version fit);
        sources = λ e p known told ok.
            sources_stay o g sound l story held h running refused v new (agree v.rows) e p (reply.Expired (Some name) version) told (λ s k stage. refl) (applied c r)
            (λ has. expire_table_sourced new (written_by o g.found h) c has number version fit) ok;
        gone = refl;
        run = refl;
        rises = refl;
        writes = refl;
        writing = refl;
      }

  table_done : (words : TableWords) → fits c (record_of.Table words.table (columns_asked words).keys (columns_asked words).values) ≡ true → Does l (λ w. make_table w words) (reply.Table words.table)
      → Done (command.Table words) (record_of.Table words.table (columns_asked words).keys (columns_asked words).values) (reply.Table words.table)
  table_done words fit does =
      let r : Record = record_of.Table words.table (columns_asked words).keys (columns_asked words).values in
      record {
        f = λ w. make_table w words;
        decided = table_decided session words;
        change = table_change o g sound l story held h running refused v new (agree v.rows) opened (generation_after r) l.trash adopted end words does.after does.is;
        moves = λ sound_rows. (_, table_step new c sound_rows words.table (columns_asked words).keys (columns_asked words).values);
        sources = λ e p known told ok.
            sources_stay o g sound l story held h running refused v new (agree v.rows) e p (reply.Table words.table) told (λ s k stage. refl) (applied c r)
            (λ has. table_sourced new (written_by o g.found h) c v.shaped has words.table (columns_asked words).keys (columns_asked words).values) ok;
        gone = refl;
        run = refl;
        rises = refl;
        writes = refl;
        writing = refl;
      }

  view_there : (number : ℕ) (name : List ℕ) (keys values : List (List ℕ)) → fits c (record_of.View number name keys values) ≡ true → number < length c.tables
  view_there number name keys values fit =
      let s = columns_of (meta_at c number).lineage in
      let last = both_true (is_there c number && is_new_name c name && is_ok (view_checked s keys values)) (nat_lt (length (meta_at c number).lineage.views) max_views) (kind_of c (record_of.View number name keys values) fit) in
      let third = both_true (is_there c number && is_new_name c name) (is_ok (view_checked s keys values)) last.0 in
      is_less number (length c.tables) (both_true (is_there c number) (is_new_name c name) third.0).0

  view_done : (words : ViewWords) (number : ℕ) → number_of c words.table ≡ Some number → fits c (record_of.View number words.view words.keys words.values) ≡ true → Does l (λ w. make_view w words) (reply.View words.view)
      → Done (command.View words) (record_of.View number words.view words.keys words.values) (reply.View words.view)
  view_done words number found fit does =
      let r : Record = record_of.View number words.view words.keys words.values in
      record {
        f = λ w. make_view w words;
        decided = view_decided session words;
        change = view_change o g sound l story held h running refused v new (agree v.rows) opened (generation_after r) l.trash adopted end words number (number_seen words.table ∙ found) (view_there number words.view words.keys words.values fit) does.after does.is;
        moves = λ sound_rows. (_, view_step new c sound_rows number words.view words.keys words.values fit);
        sources = λ e p known told ok.
            sources_stay o g sound l story held h running refused v new (agree v.rows) e p (reply.View words.view) told (λ s k stage. refl) (applied c r)
            (λ has. view_sourced new (written_by o g.found h) c v.shaped has (sound_rows_later ok) number words.view words.keys words.values fit) ok;
        gone = refl;
        run = refl;
        rises = refl;
        writes = refl;
        writing = refl;
      }

  alter_done : (words : AlterWords) (number : ℕ) (change : ColumnChange) → number_of c words.table ≡ Some number → change_asked (columns_of (meta_at c number).lineage) words.change ≡ Ok change → fits c (record_of.Alter number change) ≡ true → IsTypedChange change
      → Does l (λ w. alter_table w words) (reply.Altered words.table (epoch_of (meta_at c number).lineage + 1)) → Done (command.Alter words) (record_of.Alter number change) (reply.Altered words.table (epoch_of (meta_at c number).lineage + 1))
  alter_done words number change found asked fit typed does =
      let r : Record = record_of.Alter number change in
      record {
        f = λ w. alter_table w words;
        decided = alter_decided session words;
        change = alter_change o g sound l story held h running refused v new (agree v.rows) opened (generation_after r) l.trash adopted end words number (number_seen words.table ∙ found) change asked (kind_of c r fit) typed does.after does.is;
        moves = λ sound_rows. (_, alter_step new c sound_rows v.shaped number change fit typed);
        sources = λ e p known told ok.
            sources_stay o g sound l story held h running refused v new (agree v.rows) e p (reply.Altered words.table (epoch_of (meta_at c number).lineage + 1)) told (λ s k stage. refl) (applied c r)
            (λ has. alter_sourced new (written_by o g.found h) c v.shaped has number change fit typed) ok;
        gone = refl;
        run = refl;
        rises = refl;
        writes = refl;
        writing = refl;
      }

  load_done : (words : List RowWords) (batch : List Placed) (parts : List Part) → batch_of (tables_read c) words ≡ Ok batch → BringsAll new parts batch 0 c.tables → AreTold new c (record_of.Publish c.next parts)
      → Does l (λ w. load_batch w words) (reply.Loaded c.next (length batch)) → Done (command.Load words) (record_of.Publish c.next parts) (reply.Loaded c.next (length batch))
  load_done words batch parts read brings told_of does =
      let r : Record = record_of.Publish c.next parts in
      record {
        f = λ w. load_batch w words;
        decided = load_decided session words;
        change = load_change o g sound l story held h running refused v new (agree v.rows) opened (generation_after r) l.trash adopted end words batch read c.next parts brings does.after does.is;
        moves = λ sound_rows. (_, publish_step new c sound_rows v.shaped c.next parts batch told_of brings);
        sources = λ e p known told ok. batch_sources o g sound l story held h running refused v new (agree v.rows) e p words batch read known told c.next parts brings ok;
        gone = refl;
        run = refl;
        rises = refl;
        writes = refl;
        writing = refl;
      }

  as_told : (k : Command) (r is : Record) (rep says : Reply) → r ≡ is → rep ≡ says → Done k is says → Done k r rep
  as_told k r is rep says r_is rep_is done = subst (λ q. Done k q rep) (sym r_is) (subst (λ q. Done k is q) (sym rep_is) done)

  does_as : (f : Doing) (rep says : Reply) → rep ≡ says → Does l f rep → Does l f says
  does_as f rep says is does = subst (λ q. Does l f q) is does

  -- Whatever is to be written for a command does it.
  pub command_done : (k : Command) (r : Record) (rep : Reply) → fits l.catalogue r ≡ true → IsTyped r → ((rows : Rows) → AreTold (later rows) l.catalogue r) → HasRecord l later k r rep → IsDone o g sound l h v.rows (later v.rows) session k r rep adopted end
  command_done (command.Table words) r rep fit typed told has = as_told (command.Table words) r _ rep _ has.0 has.1 (table_done words (subst (λ q. fits c q ≡ true) has.0 fit) (does_as (λ w. make_table w words) rep _ has.1 has.2))
  command_done (command.View words) r rep fit typed told has =
      as_told (command.View words) r _ rep _ has.2 has.3 (view_done words has.0 has.1 (subst (λ q. fits c q ≡ true) has.2 fit) (does_as (λ w. make_view w words) rep _ has.3 has.4))
  command_done (command.Alter words) r rep fit typed told has =
      let whole : IsTyped (record_of.Alter has.0 has.1) = subst IsTyped has.4 typed in
      as_told (command.Alter words) r _ rep _ has.4 has.5 (alter_done words has.0 has.1 has.2 has.3 (subst (λ q. fits c q ≡ true) has.4 fit) whole.1 (does_as (λ w. alter_table w words) rep _ has.5 has.6))
  command_done (command.Load words) r rep fit typed told has =
      as_told (command.Load words) r _ rep _ has.4 has.5 (load_done words has.0 has.1 has.2 (has.3 v.rows) (subst (AreTold new c) has.4 (told v.rows)) (does_as (λ w. load_batch w words) rep _ has.5 has.6))
  command_done (command.Expire None version) r rep fit typed told has = as_told (command.Expire None version) r _ rep _ has.0 has.1 (expire_done version (subst (λ q. fits c q ≡ true) has.0 fit) (does_as (λ w. expire_all w version) rep _ has.1 has.2))
  command_done (command.Expire (Some name) version) r rep fit typed told has =
      as_told (command.Expire (Some name) version) r _ rep _ has.2 has.3 (expire_table_done name version has.0 has.1 (subst (λ q. fits c q ≡ true) has.2 fit) (does_as (λ w. expire_table w name version) rep _ has.3 has.4))
  command_done (command.Query words) r rep fit typed told has = absurd has
  command_done (command.Explain words) r rep fit typed told has = absurd has
  command_done (command.Pin asked) r rep fit typed told has = absurd has
  command_done (command.Release token) r rep fit typed told has = absurd has
  command_done (command.Work words) r rep fit typed told has = absurd has
  command_done (command.Recast words) r rep fit typed told has = absurd has
