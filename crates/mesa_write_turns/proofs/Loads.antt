-- What a load's deciding turn makes of the files that were made for its rows, or of their failure.
use Rattle.std.proofs.Common.{◌≡◌, ◌⊎◌, ⊎_elim, not, ℕ, ◌+◌, ◌<◌, ◌≤◌, ◌^◌, List, [], ◌∷◌, ◌++◌, length, Bool, true, false, ◌||◌, is_ok, nat_le, refl, sym, ◌∙◌, ap, subst, arith, Option, None, Some, Ok, Err}
use Rattle.std.specs.Prelude.{IsOk, Result, is_some, vec_capacity}
use Rattle.std.proofs.lemmas.List.{length-append}
use Rattle.std.proofs.lemmas.Simd.{map-map}
use Rattle.mesa_file_records.specs.mesa_list.Checks.{◌>>=◌, ◌>>◌, refuse_if, refused_as}
use Rattle.mesa_io.specs.Causes.{Rose, last}
use Rattle.mesa_batch.specs.Batch.{Named, Placed, batch_from, batch_of, placed_of}
use Rattle.mesa_batch.specs.Glance.{tables_of}
use Rattle.mesa_batch.specs.declared.words.BatchError.{BatchError}
use Rattle.mesa_batch.specs.declared.words.RowWords.{RowWords}
use Rattle.mesa_disk.specs.Story.{Story}
use Rattle.mesa_disk.specs.declared.moving.Adoption.{Adoption}
use Rattle.mesa_model.specs.declared.commands.Command.TheVariants as command
use Rattle.mesa_model.specs.declared.entries.Entry.{Entry}
use Rattle.mesa_model.specs.declared.entries.Kind.TheVariants as kind
use Rattle.mesa_model.specs.declared.entries.Outcome.TheVariants as outcome
use Rattle.mesa_model.specs.declared.replies.Refusal.{Refusal}
use Rattle.mesa_model.specs.declared.replies.Refusal.TheVariants as no
use Rattle.mesa_model.specs.declared.replies.Reply.{Reply}
use Rattle.mesa_model.specs.declared.replies.Reply.TheVariants as reply
use Rattle.mesa_model.specs.Load.{bounds_checked, load_batch, tables_named, with_batch}
use Rattle.mesa_model.specs.Refusals.{batch_refusal, refuse_closed}
use Rattle.mesa_model.specs.Warehouse.{Warehouse, max_versions}
use Rattle.mesa_file_records.specs.mesa_history_spec.Legal.{builds_files}
use Rattle.mesa_file_records.specs.mesa_history_spec.Run.{Run, First, Looked}
use Rattle.mesa_file_records.specs.mesa_history_spec.Turns.{IsDue}
use Rattle.mesa_engine.specs.mesa_store_spec.Catalog.{Catalog}
use Rattle.mesa_engine.specs.mesa_store_spec.Sourced.{tables_read}
use Rattle.mesa_engine.specs.mesa_catalog.Lookups.{sight_of}
use Rattle.mesa_file_records.specs.mesa_history_spec.Output.{block}
use Rattle.mesa_file_records.specs.mesa_history_spec.Bare.{bare_state}
use Rattle.mesa_file_records.specs.mesa_history_spec.Rows.{Rows, no_rows}
use Rattle.mesa_engine.specs.mesa_invariant_spec.Causes.{Unwritten, reply_of, told_at}
use Rattle.mesa_engine.specs.mesa_invariant_spec.Changes.{HasFailed}
use Rattle.mesa_engine.specs.mesa_invariant_spec.Printing.{IsPut}
use Rattle.mesa_engine.specs.mesa_invariant_spec.Turns.{entry}
use Rattle.mesa_engine.specs.mesa_invariant_spec.Invariant.{Outset, run_at, run_of}
use Rattle.mesa_engine.proofs.mesa_invariant_spec.Alike.{due_alike}
use Rattle.mesa_engine.proofs.mesa_invariant_spec.Changing.{fails_turn, load_decided}
use Rattle.mesa_engine.proofs.mesa_invariant_spec.Clock.{begun_moment, closing, not_closing}
use Rattle.mesa_engine.proofs.mesa_invariant_spec.Turning.{stays}
use Rattle.mesa_engine.specs.EngineState.{EngineState, books_of, most_files}
use Rattle.mesa_engine.specs.Turned.{shut_state}
use Rattle.mesa_engine.specs.Vault.{Origin, IsVault, Starts, outset_of}
use Rattle.mesa_engine.proofs.Changing.{tables_are}
use Rattle.mesa_engine.proofs.Staying.{closed_vault, still_vault}
use Rattle.mesa_file_records.specs.declared.publishing.Published.{Published}
use Rattle.mesa_engine.specs.declared.log.Log.{Log}
use Rattle.mesa_engine.specs.Printing.{PrintsBlock}
use Rattle.mesa_engine.specs.Memory.{Memory}
use Rattle.mesa_engine.specs.Engine.{IsEngine}
use Rattle.mesa_engine.proofs.Turning.{told_engine}
use Rattle.mesa_file_records.specs.Published.{AllTell, IsLoaded, IsPublished, bare_of, rows_later}
use Rattle.mesa_open_files.specs.declared.prepared.LoadError.{LoadError}
use Rattle.mesa_open_files.specs.declared.prepared.LoadError.TheVariants as load
use Rattle.mesa_write_turns.specs.Loading.{cause_of, unready_as}
use Rattle.mesa_open_files.specs.Batches.{IsUnprepared}
use Rattle.mesa_write_turns.specs.Writing.{CanWrite}

-- ---- batches

got : {A B E : Type 0} (q : Result A E) (next : A → Result B E) (x : B) → (q >>= next) ≡ Ok x → (a : A) × (q ≡ Ok a) × (next a ≡ Ok x)
got (Ok a) next x is = (a, refl, is)
got (Err e) next x is = cc

-- a batch has as many rows as were loaded
batch_length : (tables : List Named) (before : List Placed) (words : List RowWords) (batch : List Placed) → batch_from tables before words ≡ Ok batch → length batch ≡ length before + length words
batch_length tables before [] batch is = let same : before ≡ batch = cc in let e = ap length same in omega (arith, e)
batch_length tables before (w ∷ words) batch is =
    let one = got (placed_of tables before w) (λ placed. batch_from tables (before ++ placed ∷ []) words) batch is in
    let rest = batch_length tables (before ++ one.0 ∷ []) words batch one.2 in
    let more = length-append before (one.0 ∷ []) in
    omega (arith, rest, more)

module _ (l : EngineState) (words : List RowWords) where
  abbrev c : Catalog
  c = l.catalogue

  -- what a load sees of the catalogue is what its rows are read by
  seen_is : tables_of (sight_of l.catalogue) ≡ tables_read l.catalogue
  seen_is = map-map _ _ l.catalogue.tables

  pub read_so : (batch : List Placed) → batch_of (tables_of (sight_of l.catalogue)) words ≡ Ok batch → batch_of (tables_read l.catalogue) words ≡ Ok batch
  read_so batch is = ap (λ (n : List Named). batch_of n words) (sym seen_is) ∙ is

  named_is_seen : tables_named (bare_of l).store ≡ tables_of (sight_of l.catalogue)
  named_is_seen = tables_are l.catalogue ∙ sym seen_is

  -- rows that make no batch are refused so
  pub unread_load : (e : BatchError) → l.closed ≡ None → batch_of (tables_of (sight_of l.catalogue)) words ≡ Err e → load_batch (books_of no_rows l).bare words ≡ Err (batch_refusal e)
  unread_load e opened is =
      ap (λ (o : Option ℕ). refuse_closed o >> (refused_as batch_refusal (batch_of (tables_named (bare_of l).store) words) >>= then_loaded)) opened
      ∙ ap (λ (r : Result (List Placed) BatchError). refused_as batch_refusal r >>= then_loaded) (ap (λ (n : List Named). batch_of n words) named_is_seen ∙ is)
    where
      then_loaded : List Placed → Result (Warehouse × Reply) Refusal
      then_loaded batch = refuse_if (nat_le max_versions l.catalogue.next) (no.VersionsFull max_versions) >> (bounds_checked batch 0 (bare_of l).store.tables >> Ok (with_batch (bare_of l) batch, reply.Loaded l.catalogue.next (length batch)))

  -- a load whose draft failed makes a batch
  pub builds_load : IsOk (batch_of (tables_of (sight_of l.catalogue)) words) → builds_files (books_of no_rows l).bare.store (command.Load words) ≡ true
  builds_load ok = ap (λ (n : List Named). is_ok (batch_of n words)) named_is_seen ∙ ok

  -- What is published of a batch does what the load asks.
  pub can_publish : {M : Type 0} (bytes : M → Option (List ℕ)) (batch : List Placed) (p : Published M) (version count : ℕ) → l.closed ≡ None → l.adopted + most_files < 2 ^ 40 → batch_of (tables_read l.catalogue) words ≡ Ok batch → IsPublished bytes l batch p → IsLoaded l words batch
      → version ≡ l.catalogue.next → count ≡ length words → CanWrite bytes l (command.Load words) (record { writes = p.entry; made = p.made; adopted = p.adopted; tells = reply.Loaded version count })
  can_publish bytes batch p version count opened room read is loaded next many =
      let few = is.adopts.few in
      let rows_are : count ≡ length batch = (let n = batch_length (tables_read c) [] words batch read in omega (arith, n, many)) in
      let tells : reply.Loaded version count ≡ reply.Loaded c.next (length batch) = λ i. reply.Loaded (next i) (rows_are i) in
      record {
        opened = opened;
        rules = is.rules;
        fit = is.fitting;
        later = rows_later l batch;
        brings = record { told = is.told; agree = is.agree; files = is.files; ids = is.ids; distinct = is.distinct; adopts = is.adopts; few = omega (arith, few, room) };
        does = (batch, is.parts, read, is.brings, is.entry, tells, record { after = with_batch (bare_of l) batch; is = loaded opened ∙ ap (λ r. Ok (with_batch (bare_of l) batch, r)) (sym tells) });
      }

-- A load whose rows have no files isn't published.
pub unready_fails : (l : EngineState) (words : List RowWords) → l.closed ≡ None → (e : LoadError) → IsUnprepared (batch_of (tables_of (sight_of l.catalogue)) words) e → HasFailed (books_of no_rows l) (command.Load words) (λ w. load_batch w words) (cause_of (unready_as e))
unready_fails l words opened (load.Batch e) is = (batch_refusal e, unread_load l words e opened is, refl)
unready_fails l words opened load.Draft is = (opened, refl, builds_load l words is)
unready_fails l words opened load.Memory is = (opened, refl)

-- ---- a draft that failed

module _ (o : Outset) (g : Origin) (sound : Bool) (l : EngineState) (story : Story) (held : Option (List ℕ)) (h : List Entry) (running refused : Bool) (v : IsVault o g sound l story held h running refused)
    (s number : ℕ) (low : s < 2 ^ 16) (few : number < 2 ^ 32) (m : ℕ) (moment : m ≡ story.moment) (ran : running ≡ true) (at : ℕ) (place : at ≡ length h) (words : List RowWords) (due : IsDue o.script (run_of o h) s number (command.Load words) Looked)
    (failed : HasFailed (books_of no_rows l) (command.Load words) (λ w. load_batch w words) Unwritten) (now : Bool) (new_held : Option (List ℕ)) (put : IsPut (block (entry s number kind.Decide outcome.WriteFault m) (Some (told_at at (reply_of Unwritten)))) now held new_held) where
  abbrev e : Entry
  e = entry s number kind.Decide outcome.WriteFault m

  abbrev r : Run
  r = run_of o h

  looked : Looked ≡ First → ⊥
  looked is = let never : Looked ≡ First = is in cc

  there : is_some (run_of o h).moment ≡ true
  there = begun_moment o.script o.start h s number (command.Load words) Looked due looked

  -- Below the clock's last value the vault stays open.
  pub undrafted_open : m < last → IsVault o g sound l story new_held (h ++ entry s number kind.Decide outcome.WriteFault m ∷ []) now (refused || true)
  undrafted_open low' =
      still_vault o g sound l story held h running refused v e story new_held now (refused || true) (stays story)
      (fails_turn o sound (books_of v.rows l) story held h running refused v.invariant s number low few (command.Load words) Looked (λ w. load_batch w words) (load_decided s words) due m ran at place
      Unwritten false (not_closing r.moment story.moment e v.invariant.at there moment (omega (arith, moment, low'))) failed moment now new_held put)

  -- At it the vault closes.
  pub undrafted_closed : m ≡ last → IsVault o g sound (shut_state l at) story new_held (h ++ entry s number kind.Decide outcome.WriteFault m ∷ []) now (refused || true)
  undrafted_closed at_last =
      closed_vault o g sound l story held h running refused v e story new_held now (refused || true) (stays story) l.leases at (omega arith)
      (fails_turn o sound (books_of v.rows l) story held h running refused v.invariant s number low few (command.Load words) Looked (λ w. load_batch w words) (load_decided s words) due m ran at place
      Unwritten true (closing r.moment story.moment e v.invariant.at rose refl) failed moment now new_held put)
    where
      rose : Rose story.moment m
      rose = omega (arith, at_last)

-- files that tell their bytes, where all do
pub all_tell : {M : Type 0} (bytes : M → Option (List ℕ)) → ((file : M) → (b : List ℕ) × (bytes file ≡ Some b)) → (made : List (Adoption M)) → AllTell bytes made
all_tell bytes each [] = tt
all_tell bytes each (a ∷ made) = (each a.made, all_tell bytes each made)

module _ {K : Type 0} (held : K → Option (List ℕ)) (faults : K → ℕ) (n : Starts) (turns sinks : ℕ) (m : Memory) (story : Story) (log : Log K) (v : IsEngine held faults n turns sinks m story log)
    (alike : (w : Rows) → bare_state (n.start no_rows) ≡ bare_state (n.start w)) (s number : ℕ) (low : s < 2 ^ 16) (few : number < 2 ^ 32) (ran : not log.printer.broken ≡ true) (words : List RowWords)
    (due : IsDue n.script (run_at n.script (n.start no_rows) log.history.items) s number (command.Load words) Looked) (failed : HasFailed (books_of no_rows m.state) (command.Load words) (λ w. load_batch w words) Unwritten)
    (moment : ℕ) (moment_is : moment ≡ story.moment) (at : ℕ) (place : at ≡ length log.history.items) (after : Memory) (later : Log K) where
  -- A draft has failed: the engine is as it was but for its entry, or at the clock's last value is closed.
  pub undrafted_engine : ((moment < last) × (after.state ≡ m.state)) ⊎ ((moment ≡ last) × (after.state ≡ shut_state m.state at)) → after.leased ≡ m.leased
      → later.history.items ≡ log.history.items ++ entry s number kind.Decide outcome.WriteFault moment ∷ [] → vec_capacity log.history ≤ vec_capacity later.history
      → PrintsBlock held faults log.printer later.printer (entry s number kind.Decide outcome.WriteFault moment) (told_at at (reply_of Unwritten)) → later.refused ≡ (log.refused || true) → IsEngine held faults n turns sinks after story later
  undrafted_engine what leased grew roomy prints refused =
      told_engine held faults n turns sinks m after story story log later (entry s number kind.Decide outcome.WriteFault moment) v grew roomy moment_is (omega arith) (let a = v.leased in omega (arith, a, leased)) (λ w sound. refl)
      (told_at at (reply_of Unwritten)) true prints refused
      (λ put w b is.
      let due' = due_alike n.script (n.start no_rows) (n.start w) log.history.items s number (command.Load words) Looked (alike w) refl due in
      ⊎_elim
      (λ below. subst (λ l. IsVault (outset_of n w) (n.origin w) b l story (held later.printer.sink) (log.history.items ++ entry s number kind.Decide outcome.WriteFault moment ∷ []) (not later.printer.broken) (log.refused || true)) (sym below.1)
      (undrafted_open (outset_of n w) (n.origin w) b m.state story (held log.printer.sink) log.history.items (not log.printer.broken) log.refused (v.vault w b is) s number low few moment moment_is ran at place words due' failed (not later.printer.broken) (held later.printer.sink) put below.0))
      (λ top. subst (λ l. IsVault (outset_of n w) (n.origin w) b l story (held later.printer.sink) (log.history.items ++ entry s number kind.Decide outcome.WriteFault moment ∷ []) (not later.printer.broken) (log.refused || true)) (sym top.1)
      (undrafted_closed (outset_of n w) (n.origin w) b m.state story (held log.printer.sink) log.history.items (not log.printer.broken) log.refused (v.vault w b is) s number low few moment moment_is ran at place words due' failed (not later.printer.broken) (held later.printer.sink) put top.0))
      what)
