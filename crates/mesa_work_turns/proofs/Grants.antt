-- How the grant of a work or a recast keeps a vault.
use Rattle.std.proofs.Common.{◌≡◌, ◌∙◌, ℕ, ◌<◌, ◌^◌, ◌≤◌, ◌+◌, List, [], ◌∷◌, ◌++◌, length, Bool, true, false, ◌||◌, not, sym, ap, subst, arith, Option, None, Some, Result, Ok, Err, inl, inr, refl}
use Rattle.std.specs.Prelude.{vec_capacity, ◌⊎◌}
use Rattle.std.proofs.lemmas.Bool.Decides.{leb_tells}
use Rattle.std.proofs.lemmas.List.{length-map}
use Rattle.mesa_io.specs.Causes.{Rose, last}
use Rattle.mesa_disk.specs.Story.{Story, Unmoved}
use Rattle.mesa_write_turns.specs.mesa_history_spec.Legal.{is_work}
use Rattle.mesa_write_turns.specs.mesa_history_spec.Machine.{Claim}
use Rattle.mesa_write_turns.specs.mesa_history_spec.Refused.{is_refusal}
use Rattle.mesa_write_turns.specs.mesa_history_spec.Replay.{claim_asked, grants, is_skip}
use Rattle.mesa_write_turns.specs.mesa_history_spec.Run.{First, Granted, Finished}
use Rattle.mesa_write_turns.specs.mesa_history_spec.Turns.{IsDue}
use Rattle.mesa_engine.specs.mesa_store_spec.Catalog.{Catalog, no_meta, meta_at}
use Rattle.mesa_engine.specs.mesa_store_spec.Shape.{IsCatalog, IsShaped}
use Rattle.mesa_read_turns.proofs.mesa_catalog_records.TableMetas.{all_at}
use Rattle.mesa_lease.specs.Book.{granted}
use Rattle.mesa_model.specs.Warehouse.{Warehouse}
use Rattle.mesa_model.specs.declared.commands.Command.{Command}
use Rattle.mesa_model.specs.declared.replies.Reply.{Reply}
use Rattle.mesa_model.specs.declared.entries.Entry.{Entry}
use Rattle.mesa_model.specs.declared.entries.Kind.TheVariants as kind
use Rattle.mesa_model.specs.declared.entries.Outcome.TheVariants as outcome
use Rattle.mesa_write_turns.specs.mesa_history_spec.Output.{block}
use Rattle.mesa_write_turns.specs.mesa_history_spec.Bare.{bare_table}
use Rattle.mesa_write_turns.specs.mesa_history_spec.Rows.{Rows, no_rows}
use Rattle.mesa_open_files.specs.Opening.{Counted}
use Rattle.mesa_open_files.specs.declared.opening.Unopened.{Unopened}
use Rattle.mesa_open_files.specs.declared.opening.Unopened.TheVariants as un
use Rattle.mesa_write_turns.specs.mesa_invariant_spec.Causes.{Cause, Damaged, NoMemory, Replies, Unread, Unwritten, is_read_fault, outcome_of, reply_of, told_at}
use Rattle.mesa_write_turns.specs.mesa_invariant_spec.Printing.{IsPut}
use Rattle.mesa_write_turns.specs.mesa_invariant_spec.Turns.{Shown, IsSeen, Takes, entry}
use Rattle.mesa_write_turns.specs.mesa_invariant_spec.Books.{Books}
use Rattle.mesa_write_turns.specs.mesa_invariant_spec.Undamaged.{is_damaged}
use Rattle.mesa_write_turns.specs.mesa_invariant_spec.Invariant.{Outset, Counts, run_at, run_of}
use Rattle.mesa_write_turns.specs.mesa_invariant_spec.Works.{HasNoClaim}
use Rattle.mesa_write_turns.proofs.mesa_invariant_spec.Going.{takes_as}
use Rattle.mesa_write_turns.proofs.mesa_invariant_spec.Working.{claim_is, granted_turn, ungranted_ends, ungranted_turn}
use Rattle.mesa_engine.specs.EngineState.{EngineState, books_of, projection_of}
use Rattle.mesa_engine.specs.Turned.{leased_state}
use Rattle.mesa_engine.specs.Vault.{Origin, Starts, IsVault, outset_of}
use Rattle.mesa_engine.proofs.Staying.{leased_vault, still_vault}
use Rattle.mesa_engine.specs.declared.log.Log.{Log}
use Rattle.mesa_engine.specs.Printing.{PrintsBlock}
use Rattle.mesa_engine.specs.Memory.{Memory, with_leases}
use Rattle.mesa_engine.specs.Engine.{IsEngine}
use Rattle.mesa_engine.proofs.Turning.{passed_engine, told_engine}
use Rattle.mesa_read_turns.specs.mesa_pick_files.Gathered.{is_fault_among}
use Rattle.mesa_work_turns.specs.Claims.{cause_unopened}

-- ---- counts of faults

-- a fault that is answered rose a count
pub fault_counts : (old new : Story) (fault : Bool) → Counted old new fault → Counts old new fault
fault_counts old new fault c = record { faults = c.faults; reads = c.read_faults; rose = λ low answers. by (subst (Counted old new) answers c) }
  where
    by : Counted old new true → Rose old.faults new.faults ⊎ Rose old.read_faults new.read_faults
    by d = elim (leb_tells last new.faults) [
      | inl full ↦ inl (let most = full.1 in omega arith)
      | inr low ↦ elim (leb_tells last new.read_faults) [
        | inl full ↦ inr (let most = full.1 in omega arith)
        | inr lower ↦
            let more : old.faults + old.read_faults + 1 ≤ new.faults + new.read_faults = d.both low.1 lower.1 in
            elim (leb_tells (old.faults + 1) new.faults) [
              | inl rose ↦ inl (let less = rose.1 in omega arith)
              | inr same ↦ inr (let less = same.1 in omega arith)
            ]
      ]
    ]

-- so where files weren't opened
pub unopened_counts : (T : Type 0) (old new : Story) (e : Unopened) → Counted old new (is_fault_among {T = T} (Err e)) → Counts old new (is_read_fault (cause_unopened e))
unopened_counts T old new un.Fault c = fault_counts old new true c
unopened_counts T old new un.Memory c = fault_counts old new false c

-- no file is written at a grant
pub never_unwritten : (u : Unopened) → cause_unopened u ≡ Unwritten → ⊥
never_unwritten un.Fault is = cc
never_unwritten un.Memory is = cc

-- why no claim is granted then
pub has_no_claim : (l : EngineState) (asked : Result Claim Reply) (claim : Claim) (e : Unopened) → l.closed ≡ None → asked ≡ Ok claim → HasNoClaim (books_of no_rows l) asked (cause_unopened e)
has_no_claim l asked claim un.Fault open' is = (claim, is)
has_no_claim l asked claim un.Memory open' is = open'

-- and with whatever rows
any_rows : (rows : Rows) (l : EngineState) (asked : Result Claim Reply) (cause : Cause) → HasNoClaim (books_of no_rows l) asked cause → HasNoClaim (books_of rows l) asked cause
any_rows rows l asked (Replies r) has = has
any_rows rows l asked Unread has = has
any_rows rows l asked (Damaged damage) has = has
any_rows rows l asked Unwritten has = has
any_rows rows l asked NoMemory has = has

-- ---- its turn

module _ (o : Outset) (g : Origin) (sound : Bool) (l : EngineState) (story : Story) (held : Option (List ℕ)) (h : List Entry) (running refused : Bool) (v : IsVault o g sound l story held h running refused)
    (s number : ℕ) (low : s < 2 ^ 16) (few : number < 2 ^ 32) (c : Command) (one : is_work c ≡ true) (m : ℕ) (moment : m ≡ story.moment) (ran : running ≡ true) (at : ℕ) (place : at ≡ length h) (due : IsDue o.script (run_of o h) s number c First)
    (new : Story) (unmoved : Unmoved story new) where
  pub granted_vault : (claim : Claim) → claim_asked (books_of no_rows l).bare (books_of no_rows l).machine at c ≡ Ok claim → Counts story new false
      → IsVault o g sound (leased_state l (granted claim.table at l.leases)) new held (h ++ entry s number kind.Grant outcome.Stands m ∷ []) running refused
  granted_vault claim is counts =
      leased_vault o g sound l story held h running refused v (entry s number kind.Grant outcome.Stands m) new held running refused unmoved (granted claim.table at l.leases) (omega arith)
      (granted_turn o sound (books_of v.rows l) story held h running refused v.invariant s number low few c one m ran at place moment new unmoved due claim is counts)

  pub ungranted_vault : (cause : Cause) → HasNoClaim (books_of no_rows l) (claim_asked (books_of no_rows l).bare (books_of no_rows l).machine at c) cause → Counts story new (is_read_fault cause) → (now : Bool) (new_held : Option (List ℕ)) → IsPut (block (entry s number kind.Grant (outcome_of cause) m) (Some (told_at at (reply_of cause)))) now held new_held
      → IsVault o g sound l new new_held (h ++ entry s number kind.Grant (outcome_of cause) m ∷ []) now (refused || is_refusal (reply_of cause))
  ungranted_vault cause has counts now new_held put =
      still_vault o g sound l story held h running refused v (entry s number kind.Grant (outcome_of cause) m) new new_held now (refused || is_refusal (reply_of cause)) unmoved
      (ungranted_turn o sound (books_of v.rows l) story held h running refused v.invariant s number low few c one m ran at place moment new unmoved due cause (any_rows v.rows l (claim_asked (books_of no_rows l).bare (books_of no_rows l).machine at c) cause has) counts now new_held put)

-- ---- the engine behind it

-- no damage keeps a work or a recast from its claim
claim_undamaged : (books : Books) (asked : Result Claim Reply) (cause : Cause) → HasNoClaim books asked cause → is_damaged (outcome_of cause) ≡ false
claim_undamaged books asked (Replies r) has = refl
claim_undamaged books asked Unread has = refl
claim_undamaged books asked (Damaged damage) has = absurd has
claim_undamaged books asked Unwritten has = refl
claim_undamaged books asked NoMemory has = refl

module _ {K : Type 0} (held : K → Option (List ℕ)) (faults : K → ℕ) (n : Starts) (turns sinks : ℕ) (m : Memory) (story new : Story) (log later : Log K) (v : IsEngine held faults n turns sinks m story log) (unmoved : Unmoved story new)
    (s number : ℕ) (low : s < 2 ^ 16) (few : number < 2 ^ 32) (c : Command) (one : is_work c ≡ true) (mo : ℕ) (moment : mo ≡ new.moment) (ran : not log.printer.broken ≡ true) (at : ℕ) (place : at ≡ length log.history.items)
    (due : (w : Rows) → IsDue n.script (run_at n.script (n.start w) log.history.items) s number c First) (roomy : vec_capacity log.history ≤ vec_capacity later.history) where
  same_moment : mo ≡ story.moment
  same_moment = moment ∙ unmoved.moment

  not_earlier : story.moment ≤ new.moment
  not_earlier = let same = unmoved.moment in omega arith

  pub granted_engine : (claim : Claim) (after : Memory) → claim_asked (books_of no_rows m.state).bare (books_of no_rows m.state).machine at c ≡ Ok claim → Counts story new false → after ≡ with_leases (granted claim.table at m.state.leases) (at + 1) m
      → later.history.items ≡ log.history.items ++ entry s number kind.Grant outcome.Stands mo ∷ [] → later.printer ≡ log.printer → later.refused ≡ log.refused → IsEngine held faults n turns sinks after new later
  granted_engine claim after is counts gives grew printer refused =
      passed_engine held faults n turns sinks m after story new log later (entry s number kind.Grant outcome.Stands mo) v grew roomy moment not_earlier (let same = ap (λ (x : Memory). x.leased) gives in omega (arith, same, place)) (λ w sound. refl) printer refused
      (λ w b ok. subst (λ (x : Memory). IsVault (outset_of n w) (n.origin w) b x.state new (held log.printer.sink) (log.history.items ++ entry s number kind.Grant outcome.Stands mo ∷ []) (not log.printer.broken) log.refused) (sym gives)
      (granted_vault (outset_of n w) (n.origin w) b m.state story (held log.printer.sink) log.history.items (not log.printer.broken) log.refused (v.vault w b ok) s number low few c one mo same_moment ran at place (due w) new unmoved claim is counts))

  pub ungranted_engine : (cause : Cause) → HasNoClaim (books_of no_rows m.state) (claim_asked (books_of no_rows m.state).bare (books_of no_rows m.state).machine at c) cause → Counts story new (is_read_fault cause) → later.history.items ≡ log.history.items ++ entry s number kind.Grant (outcome_of cause) mo ∷ []
      → PrintsBlock held faults log.printer later.printer (entry s number kind.Grant (outcome_of cause) mo) (told_at at (reply_of cause)) → later.refused ≡ (log.refused || is_refusal (reply_of cause)) → IsEngine held faults n turns sinks m new later
  ungranted_engine cause has counts grew prints refused =
      told_engine held faults n turns sinks m m story new log later (entry s number kind.Grant (outcome_of cause) mo) v grew roomy moment not_earlier (let leased = v.leased in omega arith) (λ w sound. claim_undamaged (books_of no_rows m.state) (claim_asked (books_of no_rows m.state).bare (books_of no_rows m.state).machine at c) cause has) (told_at at (reply_of cause)) (is_refusal (reply_of cause)) prints refused
      (λ put w b ok. ungranted_vault (outset_of n w) (n.origin w) b m.state story (held log.printer.sink) log.history.items (not log.printer.broken) log.refused (v.vault w b ok) s number low few c one mo same_moment ran at place (due w) new unmoved cause has counts (not later.printer.broken) (held later.printer.sink) put)

-- ---- where it takes its session

module _ (o : Outset) (g : Origin) (sound : Bool) (l : EngineState) (story : Story) (held : Option (List ℕ)) (h : List Entry) (running refused : Bool) (v : IsVault o g sound l story held h running refused)
    (s number : ℕ) (low : s < 2 ^ 16) (few : number < 2 ^ 32) (c : Command) (one : is_work c ≡ true) (ran : running ≡ true) (at : ℕ) (place : at ≡ length h) (due : IsDue o.script (run_of o h) s number c First)
    (new_story : Story) (unmoved : Unmoved story new_story) (clock : ℕ) (new : Shown) (moment : new.clock ≡ new_story.moment) (seen : IsSeen o.script o.start new) where
  abbrev old : Shown
  old = record { history = h; running = running; clock = clock }

  pub granted_takes : (claim : Claim) → claim_asked (books_of no_rows l).bare (books_of no_rows l).machine at c ≡ Ok claim → new.history ≡ h ++ entry s number kind.Grant outcome.Stands new.clock ∷ [] → Takes o.script o.start old new s number kind.Grant (Granted claim)
  granted_takes claim is grew =
      takes_as o.script o.start old new s number c First kind.Grant (Granted claim) due outcome.Stands
      (ap (λ q. (grants (run_of o h).position (run_of o h).state q).stage) (claim_is o sound (books_of v.rows l) story held h running refused v.invariant s number low few c one new.clock ran at place ∙ is))
      grew (ap not (sym ran)) (λ on. ran) seen

  pub ungranted_takes : (cause : Cause) → HasNoClaim (books_of no_rows l) (claim_asked (books_of no_rows l).bare (books_of no_rows l).machine at c) cause → is_skip (outcome_of cause) ≡ false → new.history ≡ h ++ entry s number kind.Grant (outcome_of cause) new.clock ∷ [] → Takes o.script o.start old new s number kind.Grant Finished
  ungranted_takes cause has stands grew =
      takes_as o.script o.start old new s number c First kind.Grant Finished due (outcome_of cause)
      (ungranted_ends o sound (books_of v.rows l) story held h running refused v.invariant s number low few c one new.clock ran at place (moment ∙ unmoved.moment) new_story unmoved due cause (any_rows v.rows l (claim_asked (books_of no_rows l).bare (books_of no_rows l).machine at c) cause has))
      grew (stands ∙ ap not (sym ran)) (λ on. ran) seen

-- a turn that answers isn't skipped
pub answers : (e : Unopened) → is_skip (outcome_of (cause_unopened e)) ≡ false
answers un.Fault = refl
answers un.Memory = refl

-- ---- its table

-- a table of a catalogue is shaped
pub shaped_at : (c : Catalog) → IsCatalog c → (table : ℕ) → table < length c.tables → IsShaped c.floor c.next (meta_at c table)
shaped_at c is table there = all_at (IsShaped c.floor c.next) c.tables table no_meta is.tables there

-- ---- what stands behind a turn

-- As many tables stand behind a history as the catalogue has, and the version that comes next is the catalogue's.
pub tables_there : (o : Outset) (g : Origin) (sound : Bool) (l : EngineState) (story : Story) (held : Option (List ℕ)) (h : List Entry) (running refused : Bool) → IsVault o g sound l story held h running refused
    → length (run_of o h).state.warehouse.store.tables ≡ length l.catalogue.tables
tables_there o g sound l story held h running refused v =
    sym (length-map (run_of o h).state.warehouse.store.tables bare_table) ∙ ap (λ (w : Warehouse). length w.store.tables) v.invariant.state.projection ∙ length-map l.catalogue.tables projection_of

pub next_there : (o : Outset) (g : Origin) (sound : Bool) (l : EngineState) (story : Story) (held : Option (List ℕ)) (h : List Entry) (running refused : Bool) → IsVault o g sound l story held h running refused
    → (run_of o h).state.warehouse.next ≡ l.catalogue.next
next_there o g sound l story held h running refused v = ap (λ (w : Warehouse). w.next) v.invariant.state.projection
