-- What a turn writes for its command.
use Rattle.std.specs.Prelude.{◌≡◌, ℕ, ◌+◌, ◌<◌, ◌^◌, List, length, true, Option, None, Some, Ok}
use Rattle.mesa_batch.specs.Batch.{Placed, batch_of}
use Rattle.mesa_columns.specs.declared.changes.Change.{Change as ColumnChange}
use Rattle.mesa_file_records.specs.mesa_schema.Changes.{columns_of, epoch_of}
use Rattle.mesa_disk.specs.Files.{HasDistinctIds, files_of}
use Rattle.mesa_disk.specs.Image.{Image, file_of}
use Rattle.mesa_disk.specs.declared.moving.Adoption.{Adoption}
use Rattle.mesa_engine.specs.mesa_commit.Turn.{made_ids, told_files}
use Rattle.mesa_model.specs.declared.commands.Command.{Command}
use Rattle.mesa_model.specs.declared.commands.Command.TheVariants as command
use Rattle.mesa_model.specs.declared.commands.Script.{Script}
use Rattle.mesa_model.specs.declared.replies.Reply.{Reply}
use Rattle.mesa_model.specs.declared.replies.Reply.TheVariants as reply
use Rattle.mesa_model.specs.Load.{load_batch}
use Rattle.mesa_model.specs.Tables.{alter_table, change_asked, columns_asked, make_table, make_view}
use Rattle.mesa_model.specs.Versions.{expire_all, expire_table}
use Rattle.mesa_model.specs.Warehouse.{Warehouse}
use Rattle.mesa_file_records.specs.mesa_history_spec.Run.{Run}
use Rattle.mesa_file_records.specs.mesa_history_spec.Turns.{IsDue}
use Rattle.mesa_record.specs.declared.record.Part.{Part}
use Rattle.mesa_record.specs.declared.record.Record.{Record}
use Rattle.mesa_record.specs.declared.record.Record.TheVariants as record_of
use Rattle.mesa_record.specs.Rules.{keeps_rules}
use Rattle.mesa_engine.specs.mesa_store_spec.Catalog.{meta_at}
use Rattle.mesa_engine.specs.mesa_store_spec.Fitting.{brought, fits}
use Rattle.mesa_engine.specs.mesa_store_spec.Sound.{wants}
use Rattle.mesa_engine.specs.mesa_store_spec.Brought.{AreTold, BringsAll}
use Rattle.mesa_engine.specs.mesa_store_spec.Ids.{brought_ids}
use Rattle.mesa_engine.specs.mesa_store_spec.Sourced.{tables_read}
use Rattle.mesa_file_records.specs.mesa_history_spec.Rows.{Rows, no_rows}
use Rattle.mesa_engine.specs.mesa_invariant_spec.Changes.{Doing}
use Rattle.mesa_engine.specs.EngineState.{EngineState, books_of, next_id}
use Rattle.mesa_engine.specs.Recorded.{Adopts}
use Rattle.mesa_file_records.specs.Published.{AllTell}
use Rattle.mesa_validate.specs.Seen.{number_of}
use Rattle.mesa_engine.specs.Failing.{deciding_stage}
use Rattle.mesa_write_turns.specs.declared.writing.Change.{Change}

-- The warehouse without rows of a state does a command, with this reply.
pub record Does (l : EngineState) (f : Doing) (rep : Reply) : Type 0 where
  pub after : Warehouse
  pub is : f (books_of no_rows l).bare ≡ Ok (after, rep)

-- A record does what a command asks, with this reply, where these are the rows that files have later by those that they have now: it makes the table, the view or the change that is asked for; or it publishes the batch whose rows its files bring; or it lets older versions go, of the table that is named or of all.
abbrev pub HasRecord : EngineState → (Rows → Rows) → Command → Record → Reply → Type 0
HasRecord l later (command.Table words) r rep = (r ≡ record_of.Table words.table (columns_asked words).keys (columns_asked words).values) × (rep ≡ reply.Table words.table) × Does l (λ w. make_table w words) rep
HasRecord l later (command.View words) r rep =
    (number : ℕ) × (number_of l.catalogue words.table ≡ Some number) × (r ≡ record_of.View number words.view words.keys words.values) × (rep ≡ reply.View words.view) × Does l (λ w. make_view w words) rep
HasRecord l later (command.Alter words) r rep =
    (number : ℕ) × (change : ColumnChange) × (number_of l.catalogue words.table ≡ Some number) × (change_asked (columns_of (meta_at l.catalogue number).lineage) words.change ≡ Ok change)
    × (r ≡ record_of.Alter number change) × (rep ≡ reply.Altered words.table (epoch_of (meta_at l.catalogue number).lineage + 1)) × Does l (λ w. alter_table w words) rep
HasRecord l later (command.Load words) r rep =
    (batch : List Placed) × (parts : List Part) × (batch_of (tables_read l.catalogue) words ≡ Ok batch) × ((rows : Rows) → BringsAll (later rows) parts batch 0 l.catalogue.tables)
    × (r ≡ record_of.Publish l.catalogue.next parts) × (rep ≡ reply.Loaded l.catalogue.next (length batch)) × Does l (λ w. load_batch w words) rep
HasRecord l later (command.Expire None version) r rep = (r ≡ record_of.Expire version) × (rep ≡ reply.Expired None version) × Does l (λ w. expire_all w version) rep
HasRecord l later (command.Expire (Some name) version) r rep =
    (number : ℕ) × (number_of l.catalogue name ≡ Some number) × (r ≡ record_of.ExpireTable number version) × (rep ≡ reply.Expired (Some name) version) × Does l (λ w. expire_table w name version) rep
HasRecord l later c r rep = ⊥

-- Files are made for a record: they are those that it brings, with their bytes where they are told, and get the next ids; and what files there are keep their rows.
pub record Brings {M : Type 0} (bytes : M → Option (List ℕ)) (l : EngineState) (r : Record) (later : Rows → Rows) (made : List (Adoption M)) (adopted : ℕ) : Type 0 where
  pub told : (rows : Rows) → AreTold (later rows) l.catalogue r
  pub agree : (rows : Rows) (id : ℕ) → id < next_id l → later rows id ≡ rows id
  pub files : (rows : Rows) → AllTell bytes made → files_of bytes made ≡ told_files (wants (later rows) (brought l.catalogue r))
  pub ids : made_ids (files_of bytes made) ≡ brought_ids l.catalogue r
  pub distinct : HasDistinctIds (files_of bytes made)
  pub adopts : Adopts l (files_of bytes made) adopted
  pub few : adopted < 2 ^ 40

-- The vault is open, and this does what a command asks: a record that keeps the rules of records and fits the catalogue, with the files that it brings.
pub record CanWrite {M : Type 0} (bytes : M → Option (List ℕ)) (l : EngineState) (c : Command) (change : Change M) : Type 0 where
  pub opened : l.closed ≡ None
  pub rules : keeps_rules change.writes ≡ true
  pub fit : fits l.catalogue change.writes ≡ true
  pub later : Rows → Rows
  pub brings : Brings bytes l change.writes later change.made.items change.adopted
  pub does : HasRecord l later c change.writes change.tells

-- Each file that was there is there still, as it was.
abbrev pub KeepsFiles : Image → Image → Type 0
KeepsFiles old new = (id : ℕ) → (file_of old id ≡ None → ⊥) → file_of new id ≡ file_of old id

-- A session's command is to be decided, and this does what it asks.
pub record IsToWrite {M : Type 0} (bytes : M → Option (List ℕ)) (script : Script) (r : Run) (l : EngineState) (session number : ℕ) (change : Change M) : Type 0 where
  pub asked : Command
  pub due : IsDue script r session number asked (deciding_stage asked)
  pub can : CanWrite bytes l asked change
