-- How a turn that writes keeps a vault.
use Rattle.std.proofs.Common.{◌≡◌, ℕ, ◌+◌, ◌<◌, ◌≤◌, ◌^◌, List, [], ◌∷◌, ◌++◌, length, Bool, true, false, ◌||◌, sym, ◌∙◌, ap, subst, arith, Option, None, Some, Ok, IsTrue}
use Rattle.mesa_file_records.specs.mesa_key.Spelling.{AreBytes}
use Rattle.mesa_disk.specs.Files.{AreAbsent, AreGone, files_of}
use Rattle.mesa_disk.specs.Image.{Image, file_of}
use Rattle.mesa_disk.specs.Story.{Story, Spans, Steps}
use Rattle.mesa_engine.specs.mesa_commit.Images.{Stands}
use Rattle.mesa_engine.specs.mesa_commit.Turn.{MovesOnly}
use Rattle.mesa_model.specs.declared.commands.Script.{Script}
use Rattle.mesa_model.specs.declared.entries.Entry.{Entry}
use Rattle.mesa_model.specs.declared.entries.Kind.TheVariants as kind
use Rattle.mesa_model.specs.declared.entries.Outcome.TheVariants as outcome
use Rattle.mesa_file_records.specs.mesa_history_spec.Refused.{is_refusal}
use Rattle.mesa_file_records.specs.mesa_history_spec.Run.{Run}
use Rattle.mesa_file_records.specs.mesa_history_spec.Turns.{IsDue}
use Rattle.mesa_record.specs.Reading.{record_at}
use Rattle.mesa_record.specs.Rules.{IsTyped}
use Rattle.mesa_engine.specs.mesa_store_spec.Catalog.{Catalog, applied}
use Rattle.mesa_engine.specs.mesa_store_spec.Contents.{kept_of}
use Rattle.mesa_engine.specs.mesa_store_spec.Fitting.{live_files}
use Rattle.mesa_engine.specs.mesa_store_spec.Held.{IsHeld}
use Rattle.mesa_engine.specs.mesa_store_spec.Sound.{StandsFor}
use Rattle.mesa_engine.proofs.mesa_store_spec.Agreeing.{agree_wants}
use Rattle.mesa_engine.proofs.mesa_store_spec.CountedRecords.{fits_counted}
use Rattle.mesa_engine.proofs.mesa_store_spec.Ids.{own_ids}
use Rattle.mesa_engine.proofs.mesa_store_spec.Recordable.{applied_recordable}
use Rattle.mesa_engine.proofs.mesa_store_spec.Wholes.{fits_shaped}
use Rattle.mesa_engine.specs.mesa_store_spec.Ids.{named}
use Rattle.mesa_engine.specs.mesa_catalog.Lookups.{generation_of, turns_generation}
use Rattle.mesa_store.specs.Store.{Writes as IsWritten}
use Rattle.mesa_file_records.specs.mesa_history_spec.Output.{block}
use Rattle.mesa_file_records.specs.mesa_history_spec.Rows.{Rows}
use Rattle.mesa_engine.specs.mesa_commit.Filed.{AreGiven, Renames}
use Rattle.mesa_engine.specs.mesa_invariant_spec.Causes.{Unwritten, reply_of, told_at}
use Rattle.mesa_engine.specs.mesa_invariant_spec.Printing.{IsPut}
use Rattle.mesa_engine.specs.mesa_invariant_spec.Turns.{entry}
use Rattle.mesa_engine.specs.mesa_invariant_spec.Invariant.{Counts, Passes, StandsForEither, Writes, run_of}
use Rattle.mesa_engine.specs.EngineState.{EngineState}
use Rattle.mesa_engine.specs.Recorded.{IsRecorded, failed_state, recorded_state}
use Rattle.mesa_engine.specs.Vault.{IsVault, Starts, outset_of}
use Rattle.mesa_engine.proofs.Agreeing.{named_agree, same_kept}
use Rattle.mesa_engine.proofs.RecordedStates.{Clears, clears_none}
use Rattle.mesa_engine.proofs.Renaming.{record_brings, record_renames}
use Rattle.mesa_engine.proofs.Writing.{unwritten_vault, written_vault}
use Rattle.mesa_engine.specs.Failing.{deciding_stage}
use Rattle.mesa_file_records.specs.Published.{AllTell}
use Rattle.mesa_write_turns.specs.declared.writing.Change.{Change}
use Rattle.mesa_write_turns.specs.Committing.{IsWhole, IsWorked}
use Rattle.mesa_write_turns.specs.Writing.{IsToWrite}
use Rattle.mesa_write_turns.proofs.Doing.{IsDone, command_done, sound_rows_later}

-- ---- ids

-- files that get ids from the next one on aren't there yet
pub absent_yet : (next later past : ℕ) (made : List (ℕ × Option (List ℕ))) (image : Image) → later ≤ past → AreGiven next later made → ((id : ℕ) → next ≤ id → id < past → file_of image id ≡ None) → AreAbsent made image
absent_yet next later past [] image le given fresh = tt
absent_yet next later past (file ∷ made) image le given fresh = (fresh file.0 given.0.0 (let lt = given.0.1 in omega (arith, lt, le)), absent_yet next later past made image le given.1 fresh)

module _ (n : Starts) (w : Rows) (sound : Bool) (l : EngineState) (story : Story) (held : Option (List ℕ)) (h : List Entry) (running refused : Bool) (v : IsVault (outset_of n w) (n.origin w) sound l story held h running refused)
    (session number : ℕ) (low : session < 2 ^ 16) (few : number < 2 ^ 32) (ran : running ≡ true)
    {M : Type 0} (bytes : M → Option (List ℕ)) (change : Change M) (script : Script) (r : Run) (to : IsToWrite bytes script r l session number change)
    (due : IsDue n.script (run_of (outset_of n w) h) session number to.asked (deciding_stage to.asked)) (typed : IsTyped change.writes) where
  abbrev c : Catalog
  c = l.catalogue

  abbrev x : Catalog
  x = applied l.catalogue change.writes

  abbrev later : Rows
  later = to.can.later v.rows

  abbrev made : List (ℕ × Option (List ℕ))
  made = files_of bytes change.made.items

  done : (end : ℕ) → IsDone (outset_of n w) (n.origin w) sound l h v.rows (to.can.later v.rows) session to.asked change.writes change.tells change.adopted end
  done end = command_done (outset_of n w) (n.origin w) sound l story held h running refused v to.can.later to.can.brings.agree to.can.opened session change.adopted end to.asked change.writes change.tells to.can.fit typed to.can.brings.told to.can.does

  renames : Renames (named c) made (named x) []
  renames = subst (λ gone. Renames (named c) made (named x) gone) (done 0).gone (record_renames c change.writes to.can.rules to.can.fit v.own made to.can.brings.ids)

  recorded : IsRecorded l v.rows later x made []
  recorded = record {
    agree = to.can.brings.agree v.rows;
    run = (done 0).run;
    renames = renames;
    brings = record_brings c change.writes to.can.rules to.can.fit v.own made to.can.brings.ids;
    shaped = fits_shaped c change.writes v.shaped typed to.can.fit;
    own = own_ids c change.writes to.can.rules to.can.fit v.own;
    columns = fits_counted c change.writes v.shaped v.columns to.can.fit;
    recordable = applied_recordable c change.writes (record { typed = typed; rules = to.can.rules }) v.recordable;
  }

  -- the files that wait wait still
  clears : Clears v.seen l (length h) change.adopted x l.trash []
  clears = clears_none (outset_of n w) (n.origin w) sound l story held h running refused v made change.adopted to.can.brings.adopts x renames

  module _ (body : List ℕ) (are : AreBytes body) (reads : record_at body ≡ Ok change.writes) where
    to_write : IsTrue sound → AllTell bytes change.made.items → IsWritten story l.area v.bodies l.end c later change.writes body made []
    to_write ok tell =
        let is = v.stands ok to.can.opened in
        let sound_rows = sound_rows_later (outset_of n w) (n.origin w) sound l story held h running refused v to.can.later to.can.brings.agree to.can.opened session change.adopted 0 ok in
        let moved = ((done 0).moves sound_rows).1 in
        record {
          held = record {
            bytes = is.bytes;
            records = is.records;
            sound_rows = sound_rows;
            stands = subst (λ files. Stands story l.area v.bodies l.end files) (sym (agree_wants v.rows later (live_files c) (named_agree (outset_of n w) (n.origin w) sound l story held h running refused v later (to.can.brings.agree v.rows)))) is.stands;
          };
          step = record { bytes = are; reads = reads; fitting = to.can.fit; sound_rows = moved.sound_rows; grows = moved.grows };
          brings = to.can.brings.files v.rows tell;
          unnamed = tt;
        }

    -- each image stands for what was kept, or for what is to be kept
    pub store_writes : (new : Story) → IsWorked story new l.area l.end body made [] → IsTrue sound → AllTell bytes change.made.items → Writes StandsFor story new (kept_of v.rows l.catalogue) (kept_of (to.can.later v.rows) (applied l.catalogue change.writes))
    store_writes new worked ok tell below all =
        subst (λ k. Spans (StandsForEither StandsFor k (kept_of later x)) story new) (same_kept (outset_of n w) (n.origin w) sound l story held h running refused v later (to.can.brings.agree v.rows))
        (worked.images v.bodies c later change.writes (to_write ok tell))

    pub store_holds : (new : Story) (end : ℕ) → IsWorked story new l.area l.end body made [] → IsWhole story new l.area l.end body made [] end → IsTrue sound → AllTell bytes change.made.items
        → IsHeld new l.area (v.bodies ++ body ∷ []) end (applied l.catalogue change.writes) (to.can.later v.rows)
    store_holds new end worked whole ok tell =
        subst (λ e. IsHeld new l.area (v.bodies ++ body ∷ []) e x later) (sym whole.ends) (whole.holds v.bodies c later change.writes (to_write ok tell))

  module _ (new : Story) (m : ℕ) (moment : m ≡ new.moment) (passes : Passes story new) (only : Steps (MovesOnly made []) story.told new.told) (at : ℕ) (place : at ≡ length h) (now : Bool) (new_held : Option (List ℕ))
      (writes : IsTrue sound → Writes StandsFor story new (kept_of v.rows l.catalogue) (kept_of (to.can.later v.rows) (applied l.catalogue change.writes))) where
    pub stands_so : (end : ℕ) → Counts story new false → (bodies : List (List ℕ)) → (IsTrue sound → IsHeld new l.area bodies end (applied l.catalogue change.writes) (to.can.later v.rows))
        → ((i : Image) → new.told ≡ Some i → AreGone [] i) → end < new.len l.area → generation_of (applied l.catalogue change.writes) ≡ l.generation + turns_generation change.writes
        → IsPut (block (entry session number kind.Decide outcome.Stands m) (Some (told_at at change.tells))) now held new_held
        → IsVault (outset_of n w) (n.origin w) sound (recorded_state l (applied l.catalogue change.writes) (generation_of (applied l.catalogue change.writes)) l.trash l.leases change.adopted end) new new_held (h ++ entry session number kind.Decide outcome.Stands m ∷ []) now (refused || is_refusal change.tells)
    stands_so end counts bodies holds gone long rises put =
        let d = done end in
        written_vault n w sound l story held h running refused v session number low few m ran at place to.can.opened later x made [] change.adopted to.can.brings.adopts recorded l.trash [] clears new moment passes only writes now new_held
        to.asked (deciding_stage to.asked) d.f d.decided due (generation_of x) end change.tells d.writes d.change counts bodies holds gone
        (λ ok. (d.moves (sound_rows_later (outset_of n w) (n.origin w) sound l story held h running refused v to.can.later to.can.brings.agree to.can.opened session change.adopted end ok)).1.sound_rows) long
        (rises ∙ ap (λ k. l.generation + k) d.rises) (λ told ok. d.sources (entry session number kind.Decide outcome.Stands m) _ due.known told ok) put

    pub fails_so : Counts story new true → IsPut (block (entry session number kind.Decide outcome.WriteFault m) (Some (told_at at (reply_of Unwritten)))) now held new_held
        → IsVault (outset_of n w) (n.origin w) sound (failed_state l at l.leases change.adopted) new new_held (h ++ entry session number kind.Decide outcome.WriteFault m ∷ []) now (refused || true)
    fails_so counts put =
        let d = done 0 in
        unwritten_vault n w sound l story held h running refused v session number low few m ran at place to.can.opened later x made [] change.adopted to.can.brings.adopts recorded l.trash [] clears new moment passes only writes now new_held
        to.asked (deciding_stage to.asked) d.f d.decided due (generation_of x) 0 change.tells d.writes d.change d.writing counts put

-- ---- on every store

module _ (n : Starts) (w : Rows) (sound : Bool) (l : EngineState) (story : Story) (held : Option (List ℕ)) (h : List Entry) (running refused : Bool) (v : IsVault (outset_of n w) (n.origin w) sound l story held h running refused)
    (session number : ℕ) (low : session < 2 ^ 16) (few : number < 2 ^ 32) (ran : running ≡ true)
    {M : Type 0} (bytes : M → Option (List ℕ)) (change : Change M) (script : Script) (r : Run) (to : IsToWrite bytes script r l session number change)
    (due : IsDue n.script (run_of (outset_of n w) h) session number to.asked (deciding_stage to.asked)) (typed : IsTyped change.writes) (tell : IsTrue sound → AllTell bytes change.made.items)
    (body : List ℕ) (are : AreBytes body) (reads : record_at body ≡ Ok change.writes) (new : Story) (worked : IsWorked story new l.area l.end body (files_of bytes change.made.items) [])
    (m : ℕ) (moment : m ≡ new.moment) (at : ℕ) (place : at ≡ length h) (now : Bool) (new_held : Option (List ℕ)) where
  -- The device work is done, and the vault has the record.
  pub write_stands : (end : ℕ) → IsWhole story new l.area l.end body (files_of bytes change.made.items) [] end → Counts story new false → generation_of (applied l.catalogue change.writes) ≡ l.generation + turns_generation change.writes
      → IsPut (block (entry session number kind.Decide outcome.Stands m) (Some (told_at at change.tells))) now held new_held
      → IsVault (outset_of n w) (n.origin w) sound (recorded_state l (applied l.catalogue change.writes) (generation_of (applied l.catalogue change.writes)) l.trash l.leases change.adopted end) new new_held (h ++ entry session number kind.Decide outcome.Stands m ∷ []) now (refused || is_refusal change.tells)
  write_stands end whole counts rises put =
      stands_so n w sound l story held h running refused v session number low few ran bytes change script r to due typed new m moment worked.passes worked.only at place now new_held
      (λ ok. store_writes n w sound l story held h running refused v session number low few ran bytes change script r to due typed body are reads new worked ok (tell ok)) end counts (v.bodies ++ body ∷ [])
      (λ ok. store_holds n w sound l story held h running refused v session number low few ran bytes change script r to due typed body are reads new end worked whole ok (tell ok)) whole.gone whole.long rises put

  -- The device work has failed, and the vault closes.
  pub write_fails : Counts story new true → IsPut (block (entry session number kind.Decide outcome.WriteFault m) (Some (told_at at (reply_of Unwritten)))) now held new_held
      → IsVault (outset_of n w) (n.origin w) sound (failed_state l at l.leases change.adopted) new new_held (h ++ entry session number kind.Decide outcome.WriteFault m ∷ []) now (refused || true)
  write_fails counts put =
      fails_so n w sound l story held h running refused v session number low few ran bytes change script r to due typed new m moment worked.passes worked.only at place now new_held
      (λ ok. store_writes n w sound l story held h running refused v session number low few ran bytes change script r to due typed body are reads new worked ok (tell ok)) counts put
