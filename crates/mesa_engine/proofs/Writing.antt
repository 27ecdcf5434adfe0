-- How a command that writes, the swap of a work, and a recast keep a vault.
use Rattle.std.proofs.Common.{◌≡◌, ℕ, ◌+◌, ◌<◌, ◌^◌, ◌≤◌, List, [], ◌∷◌, ◌++◌, length, Bool, true, false, ◌||◌, refl, sym, ◌∙◌, subst, Ok, arith, Option, None, Some, IsTrue}
use Rattle.mesa_disk.specs.Files.{AreGone}
use Rattle.mesa_disk.specs.Image.{Image}
use Rattle.mesa_disk.specs.Story.{Story, Steps}
use Rattle.mesa_commit.specs.Turn.{MovesOnly}
use Rattle.mesa_commit.specs.declared.trash.Dropped.{Dropped}
use Rattle.mesa_lease.specs.Book.{ended}
use Rattle.mesa_catalog.specs.mesa_span.declared.works.Work.{Work}
use Rattle.mesa_catalog.specs.mesa_span.declared.works.Work.TheVariants as range
use Rattle.mesa_model.specs.declared.commands.Command.{Command}
use Rattle.mesa_model.specs.declared.commands.Command.TheVariants as command
use Rattle.mesa_model.specs.declared.commands.RecastWords.{RecastWords}
use Rattle.mesa_model.specs.declared.commands.WorkWords.{WorkWords}
use Rattle.mesa_model.specs.declared.entries.Entry.{Entry}
use Rattle.mesa_model.specs.declared.entries.Kind.TheVariants as kind
use Rattle.mesa_model.specs.declared.entries.Outcome.{Outcome}
use Rattle.mesa_model.specs.declared.entries.Outcome.TheVariants as outcome
use Rattle.mesa_model.specs.declared.replies.Reply.{Reply}
use Rattle.mesa_invariant_spec.specs.mesa_history_spec.Counting.{one_if}
use Rattle.mesa_invariant_spec.specs.mesa_history_spec.Legal.{is_writing, is_written}
use Rattle.mesa_catalog.specs.mesa_schema.Recasts.{Recast}
use Rattle.mesa_model.specs.Tables.{recast_reply}
use Rattle.mesa_model.specs.Warehouse.{table_at}
use Rattle.mesa_invariant_spec.specs.mesa_history_spec.Machine.{Claim, Merges, Recasts, claim_checked, still_checked, swapped_reply}
use Rattle.mesa_invariant_spec.specs.mesa_history_spec.Refused.{is_refusal}
use Rattle.mesa_invariant_spec.specs.mesa_history_spec.Replay.{told_by}
use Rattle.mesa_invariant_spec.specs.mesa_history_spec.Run.{Renewed, Stage}
use Rattle.mesa_invariant_spec.specs.mesa_history_spec.Turns.{IsDue}
use Rattle.mesa_catalog.specs.mesa_store_spec.Catalog.{Catalog}
use Rattle.mesa_catalog.specs.mesa_store_spec.Contents.{kept_of}
use Rattle.mesa_catalog.specs.mesa_store_spec.Held.{IsHeld}
use Rattle.mesa_catalog.specs.mesa_store_spec.Sound.{HaveSoundRows, StandsFor}
use Rattle.mesa_catalog.specs.mesa_store_spec.Sourced.{HasSources}
use Rattle.mesa_invariant_spec.specs.mesa_history_spec.Output.{block}
use Rattle.mesa_invariant_spec.specs.mesa_history_spec.Rows.{Rows}
use Rattle.mesa_invariant_spec.specs.Books.{recast_books, swapped_books}
use Rattle.mesa_invariant_spec.specs.Causes.{Unwritten, reply_of, told_at}
use Rattle.mesa_invariant_spec.specs.Changes.{Doing, IsChange, IsDecided}
use Rattle.mesa_invariant_spec.specs.Printing.{IsPut}
use Rattle.mesa_invariant_spec.specs.Sight.{is_of_schemas}
use Rattle.mesa_invariant_spec.specs.Turns.{entry}
use Rattle.mesa_invariant_spec.specs.Invariant.{Outset, run_of, Counts, Passes, KeepsInvariantTelling, Writes}
use Rattle.mesa_invariant_spec.specs.Works.{Regroups, Swaps}
use Rattle.mesa_invariant_spec.proofs.Changing.{unwritten_turn, written_turn}
use Rattle.mesa_invariant_spec.proofs.Recasting.{recast_turn, unrecast_turn}
use Rattle.mesa_invariant_spec.proofs.Working.{swapped_turn, unswapped_turn}
use Rattle.mesa_engine.specs.EngineState.{EngineState, books_of}
use Rattle.mesa_engine.specs.Recorded.{Adopts, IsRecorded, failed_state, recorded_state}
use Rattle.mesa_engine.specs.Vault.{Origin, IsVault, Starts, outset_of, written_by}
use Rattle.mesa_engine.proofs.RecordedStates.{Clears, failed_vault, recorded_vault}
use Rattle.mesa_engine.proofs.Staying.{stands_now}
use Rattle.mesa_engine.proofs.Swapping.{ended_granted}
use Rattle.mesa_engine.proofs.Standing.{held_stand}

-- a run of a family, where the files had these rows
module _ (n : Starts) (w : Rows) (sound : Bool) (l : EngineState) (story : Story) (held : Option (List ℕ)) (h : List Entry) (running refused : Bool) (v : IsVault (outset_of n w) (n.origin w) sound l story held h running refused)
    (session number : ℕ) (low : session < 2 ^ 16) (few : number < 2 ^ 32) (m : ℕ) (ran : running ≡ true) (at : ℕ) (place : at ≡ length h) (was_open : l.closed ≡ None)
    (later : Rows) (x : Catalog) (made : List (ℕ × Option (List ℕ))) (gone : List ℕ) (adopted : ℕ) (adopts : Adopts l made adopted) (recorded : IsRecorded l v.rows later x made gone)
    (waits : List Dropped) (removed : List ℕ) (clears : Clears v.seen l (length h) adopted x waits removed)
    (new : Story) (moment : m ≡ new.moment) (passes : Passes story new) (only : Steps (MovesOnly made removed) story.told new.told) (writes : IsTrue sound → Writes StandsFor story new (kept_of v.rows l.catalogue) (kept_of later x)) (now : Bool) (new_held : Option (List ℕ)) where
  abbrev o : Outset
  o = outset_of n w

  abbrev g : Origin
  g = n.origin w

  module _ (c : Command) (stage : Stage) (f : Doing) (d : IsDecided session c stage f) (due : IsDue (outset_of n w).script (run_of (outset_of n w) h) session number c stage) (generation end : ℕ) (rep : Reply) (writes_is : is_written rep ≡ true)
      (change : IsChange sound (books_of v.rows l) (books_of later (recorded_state l x generation waits l.leases adopted end)) f rep) where
    abbrev turn_with : Outcome → Entry
    turn_with out = entry session number kind.Decide out m

    abbrev after : EngineState
    after = recorded_state l x generation waits l.leases adopted end

    -- Its device work is done.
    pub written_vault : Counts story new false → (bodies : List (List ℕ)) → (IsTrue sound → IsHeld new l.area bodies end x later) → ((i : Image) → new.told ≡ Some i → AreGone removed i) → (IsTrue sound → HaveSoundRows later x) → end < new.len l.area
        → generation ≡ l.generation + one_if (is_of_schemas rep) → (told_by o.script (run_of o h) (turn_with outcome.Stands) ≡ Some (told_at (run_of o h).position rep) → IsTrue sound → HasSources later (written_by o g.found (h ++ turn_with outcome.Stands ∷ [])) x)
        → IsPut (block (turn_with outcome.Stands) (Some (told_at at rep))) now held new_held → IsVault o g sound after new new_held (h ++ turn_with outcome.Stands ∷ []) now (refused || is_refusal rep)
    written_vault counts bodies holds gone_now sound_rows long risen sources put =
        recorded_vault o g sound l story held h running refused v (turn_with outcome.Stands) new new_held now (refused || is_refusal rep) made adopted adopts x waits removed clears only later gone recorded gone_now generation l.leases end bodies rep
        on (λ ok is. holds ok) sound_rows (λ is. long) (omega arith) risen (sources on.tells)
      where
        on : KeepsInvariantTelling o sound (books_of later after) new new_held h (turn_with outcome.Stands) now (refused || is_refusal rep) rep
        on = written_turn o sound (books_of v.rows l) story held h running refused v.invariant session number low few c stage f d due m ran at place (books_of later after) rep change writes_is new moment passes (λ ok low. stands_now o g sound l story held h running refused v was_open ok) writes now new_held
            counts (λ ok low. held_stand new l.area bodies end x later (holds ok)) put

    -- Its device work has failed.
    pub unwritten_vault : is_writing c ≡ true → Counts story new true → IsPut (block (turn_with outcome.WriteFault) (Some (told_at at (reply_of Unwritten)))) now held new_held
        → IsVault o g sound (failed_state l at l.leases adopted) new new_held (h ++ turn_with outcome.WriteFault ∷ []) now (refused || true)
    unwritten_vault can counts put =
        failed_vault o g sound l story held h running refused v (turn_with outcome.WriteFault) new new_held now (refused || true) made adopted adopts x waits removed clears only at l.leases
        (unwritten_turn o sound (books_of v.rows l) story held h running refused v.invariant session number low few c stage f d due m ran at place (books_of later after) rep change writes_is new moment passes (λ ok low. stands_now o g sound l story held h running refused v was_open ok) writes now new_held can counts put)
        (omega arith)

  -- ---- the swap of a work

  module _ (words : WorkWords) (claim : Claim) (work : Work) (errand : claim.errand ≡ Merges work) (due : IsDue (outset_of n w).script (run_of (outset_of n w) h) session number (command.Work words) (Renewed claim)) (checked : claim_checked (books_of v.rows l).bare (books_of v.rows l).machine at claim ≡ Ok tt) (generation end : ℕ)
      (swaps : Swaps sound (books_of v.rows l) claim work (kept_of later x))
      (books_are : books_of later (recorded_state l x generation waits (ended claim.table claim.lease l.leases) adopted end) ≡ swapped_books claim work (kept_of later x) (books_of v.rows l)) where
    abbrev closes_with : Outcome → Entry
    closes_with out = entry session number kind.Close out m

    abbrev swapped_state : EngineState
    swapped_state = recorded_state l x generation waits (ended claim.table claim.lease l.leases) adopted end

    -- Its device work is done: the lease has ended.
    pub swapped_vault : Counts story new false → (bodies : List (List ℕ)) → (IsTrue sound → IsHeld new l.area bodies end x later) → ((i : Image) → new.told ≡ Some i → AreGone removed i) → (IsTrue sound → HaveSoundRows later x) → end < new.len l.area
        → generation ≡ l.generation → (told_by o.script (run_of o h) (closes_with outcome.Stands) ≡ Some (told_at (run_of o h).position (swapped_reply work)) → IsTrue sound → HasSources later (written_by o g.found (h ++ closes_with outcome.Stands ∷ [])) x)
        → IsPut (block (closes_with outcome.Stands) (Some (told_at at (swapped_reply work)))) now held new_held → IsVault o g sound swapped_state new new_held (h ++ closes_with outcome.Stands ∷ []) now (refused || false)
    swapped_vault counts bodies holds gone_now sound_rows long same sources put =
        recorded_vault o g sound l story held h running refused v (closes_with outcome.Stands) new new_held now (refused || false) made adopted adopts x waits removed clears only later gone recorded gone_now generation (ended claim.table claim.lease l.leases) end bodies (swapped_reply work)
        on (λ ok is. holds ok) sound_rows (λ is. long) (subst (λ q. q ≤ l.leases.granted) (sym (ended_granted claim.table claim.lease l.leases)) (omega arith)) (same ∙ no_schemas work) (sources on.tells)
      where
        on : KeepsInvariantTelling o sound (books_of later swapped_state) new new_held h (closes_with outcome.Stands) now (refused || false) (swapped_reply work)
        on = subst (λ b. KeepsInvariantTelling o sound b new new_held h (closes_with outcome.Stands) now (refused || false) (swapped_reply work)) (sym books_are)
            (swapped_turn o sound (books_of v.rows l) story held h running refused v.invariant session number low few (command.Work words) refl m ran at place claim work errand due checked new moment passes (λ ok low. stands_now o g sound l story held h running refused v was_open ok) (kept_of later x) swaps writes now new_held
            counts (λ ok low. held_stand new l.area bodies end x later (holds ok)) put)

        no_schemas : (r : Work) → l.generation ≡ l.generation + one_if (is_of_schemas (swapped_reply r))
        no_schemas (range.Base to) = omega arith
        no_schemas (range.Cumulative from to) = omega arith

    -- Its device work has failed: the lease has ended too.
    pub unswapped_vault : Counts story new true → IsPut (block (closes_with outcome.WriteFault) (Some (told_at at (reply_of Unwritten)))) now held new_held
        → IsVault o g sound (failed_state l at (ended claim.table claim.lease l.leases) adopted) new new_held (h ++ closes_with outcome.WriteFault ∷ []) now (refused || true)
    unswapped_vault counts put =
        failed_vault o g sound l story held h running refused v (closes_with outcome.WriteFault) new new_held now (refused || true) made adopted adopts x waits removed clears only at (ended claim.table claim.lease l.leases)
        (unswapped_turn o sound (books_of v.rows l) story held h running refused v.invariant session number low few (command.Work words) refl m ran at place claim work errand due checked new moment passes (λ ok low. stands_now o g sound l story held h running refused v was_open ok) (kept_of later x) swaps writes now new_held counts put)
        (subst (λ q. q ≤ l.leases.granted) (sym (ended_granted claim.table claim.lease l.leases)) (omega arith))

  -- ---- a recast

  module _ (words : RecastWords) (claim : Claim) (epoch : ℕ) (r : Recast) (errand : claim.errand ≡ Recasts epoch r) (due : IsDue (outset_of n w).script (run_of (outset_of n w) h) session number (command.Recast words) (Renewed claim)) (checked : claim_checked (books_of v.rows l).bare (books_of v.rows l).machine at claim ≡ Ok tt)
      (still : still_checked (table_at (books_of v.rows l).bare.store claim.table).lineage epoch r ≡ Ok tt) (generation end : ℕ) (regroups : Regroups sound (books_of v.rows l) claim r (kept_of later x))
      (books_are : books_of later (recorded_state l x generation waits (ended claim.table claim.lease l.leases) adopted end) ≡ recast_books claim r (kept_of later x) (books_of v.rows l)) where
    abbrev recasts_with : Outcome → Entry
    recasts_with out = entry session number kind.Close out m

    abbrev recast_state : EngineState
    recast_state = recorded_state l x generation waits (ended claim.table claim.lease l.leases) adopted end

    abbrev recast_told : Reply
    recast_told = recast_reply (table_at (books_of v.rows l).bare.store claim.table)

    -- Its device work is done: the lease has ended.
    pub recast_vault : Counts story new false → (bodies : List (List ℕ)) → (IsTrue sound → IsHeld new l.area bodies end x later) → ((i : Image) → new.told ≡ Some i → AreGone removed i) → (IsTrue sound → HaveSoundRows later x) → end < new.len l.area
        → generation ≡ l.generation + 1 → (told_by o.script (run_of o h) (recasts_with outcome.Stands) ≡ Some (told_at (run_of o h).position recast_told) → IsTrue sound → HasSources later (written_by o g.found (h ++ recasts_with outcome.Stands ∷ [])) x)
        → IsPut (block (recasts_with outcome.Stands) (Some (told_at at recast_told))) now held new_held → IsVault o g sound recast_state new new_held (h ++ recasts_with outcome.Stands ∷ []) now (refused || false)
    recast_vault counts bodies holds gone_now sound_rows long risen sources put =
        recorded_vault o g sound l story held h running refused v (recasts_with outcome.Stands) new new_held now (refused || false) made adopted adopts x waits removed clears only later gone recorded gone_now generation (ended claim.table claim.lease l.leases) end bodies recast_told
        on (λ ok is. holds ok) sound_rows (λ is. long) (subst (λ q. q ≤ l.leases.granted) (sym (ended_granted claim.table claim.lease l.leases)) (omega arith)) risen (sources on.tells)
      where
        on : KeepsInvariantTelling o sound (books_of later recast_state) new new_held h (recasts_with outcome.Stands) now (refused || false) recast_told
        on = subst (λ b. KeepsInvariantTelling o sound b new new_held h (recasts_with outcome.Stands) now (refused || false) recast_told) (sym books_are)
            (recast_turn o sound (books_of v.rows l) story held h running refused v.invariant session number low few (command.Recast words) refl m ran at place claim epoch r errand due checked still new moment passes (λ ok low. stands_now o g sound l story held h running refused v was_open ok) (kept_of later x) regroups writes now new_held
            counts (λ ok low. held_stand new l.area bodies end x later (holds ok)) put)

    -- Its device work has failed: the lease has ended too.
    pub unrecast_vault : Counts story new true → IsPut (block (recasts_with outcome.WriteFault) (Some (told_at at (reply_of Unwritten)))) now held new_held
        → IsVault o g sound (failed_state l at (ended claim.table claim.lease l.leases) adopted) new new_held (h ++ recasts_with outcome.WriteFault ∷ []) now (refused || true)
    unrecast_vault counts put =
        failed_vault o g sound l story held h running refused v (recasts_with outcome.WriteFault) new new_held now (refused || true) made adopted adopts x waits removed clears only at (ended claim.table claim.lease l.leases)
        (unrecast_turn o sound (books_of v.rows l) story held h running refused v.invariant session number low few (command.Recast words) refl m ran at place claim epoch r errand due checked still new moment passes (λ ok low. stands_now o g sound l story held h running refused v was_open ok) (kept_of later x) regroups writes now new_held counts put)
        (subst (λ q. q ≤ l.leases.granted) (sym (ended_granted claim.table claim.lease l.leases)) (omega arith))
