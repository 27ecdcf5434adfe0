-- How the close of a work whose range is swapped in keeps a vault.
use Rattle.std.proofs.Common.{◌≡◌, inl, inr, ◌∙◌, ℕ, ◌+◌, ◌<◌, ◌^◌, List, [], ◌∷◌, ◌++◌, map, length, Bool, true, false, ◌||◌, refl, sym, ap, subst, arith, Option, None, Some, Ok, IsTrue}
use Rattle.std.specs.List.{AllByRecursion}
use Rattle.mesa_write_turns.specs.mesa_key.Spelling.{AreBytes}
use Rattle.mesa_write_turns.specs.mesa_schema.Changes.{Lineage}
use Rattle.mesa_disk.specs.Files.{AreGone, files_of}
use Rattle.mesa_disk.specs.Image.{Image}
use Rattle.mesa_disk.specs.Story.{Spans, Steps, Story}
use Rattle.mesa_engine.specs.mesa_commit.Images.{Stands}
use Rattle.mesa_engine.specs.mesa_commit.Turn.{MovesOnly, made_ids, told_files}
use Rattle.mesa_span.specs.declared.works.Work.{Work}
use Rattle.mesa_span.specs.declared.works.Work.TheVariants as range_of
use Rattle.mesa_lease.specs.Book.{ended}
use Rattle.mesa_model.specs.declared.commands.Command.TheVariants as command
use Rattle.mesa_model.specs.declared.commands.WorkWords.{WorkWords}
use Rattle.mesa_model.specs.declared.entries.Entry.{Entry}
use Rattle.mesa_model.specs.declared.entries.Kind.TheVariants as kind
use Rattle.mesa_model.specs.declared.entries.Outcome.TheVariants as outcome
use Rattle.mesa_write_turns.specs.mesa_history_spec.Machine.{Claim, claim_checked, swapped_reply}
use Rattle.mesa_write_turns.specs.mesa_history_spec.Run.{Renewed}
use Rattle.mesa_write_turns.specs.mesa_history_spec.Sources.{Written}
use Rattle.mesa_write_turns.specs.mesa_history_spec.Turns.{IsDue}
use Rattle.mesa_record.specs.Reading.{record_at}
use Rattle.mesa_record.specs.Rules.{IsTyped, keeps_rules}
use Rattle.mesa_record.specs.declared.record.Record.{Record}
use Rattle.mesa_engine.specs.mesa_store_spec.Catalog.{Catalog, applied, meta_at}
use Rattle.mesa_engine.specs.mesa_store_spec.Contents.{kept_of}
use Rattle.mesa_engine.specs.mesa_store_spec.Fitting.{LiveFile, brought, fits, live_files, live_id}
use Rattle.mesa_engine.specs.mesa_store_spec.Held.{IsHeld, IsUnnamed}
use Rattle.mesa_engine.specs.mesa_store_spec.Sound.{HaveSoundRows, StandsFor, wants}
use Rattle.mesa_engine.proofs.mesa_store_spec.Agreeing.{agree_sound_rows, agree_wants}
use Rattle.mesa_engine.proofs.mesa_store_spec.AllSourced.{agree_sourced, merge_written, swap_replaces, swap_sourced}
use Rattle.mesa_engine.proofs.mesa_store_spec.CountedRecords.{fits_counted}
use Rattle.mesa_engine.proofs.mesa_store_spec.Ids.{own_ids}
use Rattle.mesa_engine.proofs.mesa_store_spec.Recordable.{applied_recordable}
use Rattle.mesa_engine.proofs.mesa_store_spec.Moving.{kind_of, swap_step}
use Rattle.mesa_engine.proofs.mesa_store_spec.Swapping.{swap_there, swap_within}
use Rattle.mesa_engine.proofs.mesa_store_spec.Wholes.{fits_shaped}
use Rattle.mesa_engine.specs.mesa_store_spec.Brought.{AreTold, Replaces, merged_of}
use Rattle.mesa_engine.specs.mesa_store_spec.Ids.{brought_ids, dropped_ids, named}
use Rattle.mesa_engine.specs.mesa_store_spec.Moves.{Moves, first_of, is_base, kept_swapped, last_of, work_of}
use Rattle.mesa_engine.specs.mesa_store_spec.Sourced.{HasSources, IsMadeOf}
use Rattle.mesa_engine.specs.mesa_catalog.Lookups.{generation_of, turns_generation}
use Rattle.mesa_store.specs.Store.{Writes as IsWritten}
use Rattle.mesa_write_turns.specs.mesa_history_spec.Output.{block}
use Rattle.mesa_write_turns.specs.mesa_history_spec.Rows.{Rows, no_rows}
use Rattle.mesa_engine.proofs.mesa_commit.Filing.{freed_unnamed}
use Rattle.mesa_engine.specs.mesa_commit.Filed.{Renames}
use Rattle.mesa_engine.specs.mesa_commit.Holding.{Among, freed, ids_of}
use Rattle.mesa_open_files.specs.declared.merging.Task.{Task}
use Rattle.mesa_write_turns.specs.mesa_invariant_spec.Causes.{Unwritten, reply_of, told_at}
use Rattle.mesa_write_turns.specs.mesa_invariant_spec.Printing.{IsPut}
use Rattle.mesa_write_turns.specs.mesa_invariant_spec.Turns.{entry}
use Rattle.mesa_write_turns.specs.mesa_invariant_spec.Invariant.{Counts, Passes, StandsForEither, Writes, run_of}
use Rattle.mesa_write_turns.specs.mesa_invariant_spec.Works.{Swaps}
use Rattle.mesa_write_turns.proofs.mesa_invariant_spec.Working.{checked_open}
use Rattle.mesa_engine.specs.EngineState.{EngineState, books_of, first_id, holders, ids_held, next_id}
use Rattle.mesa_engine.specs.Recorded.{IsRecorded, failed_state, left_by, recorded_state, removed_by, waiting}
use Rattle.mesa_engine.specs.Vault.{IsVault, Starts, outset_of, written_by}
use Rattle.mesa_engine.proofs.Agreeing.{named_agree, same_kept}
use Rattle.mesa_engine.proofs.Filing.{filed_moved, holds_are}
use Rattle.mesa_engine.proofs.RecordedStates.{Clears, clears_freed}
use Rattle.mesa_engine.proofs.Renaming.{record_brings, record_renames}
use Rattle.mesa_engine.proofs.Sources.{sources_stay}
use Rattle.mesa_engine.proofs.Swapping.{swap_is, swap_leaves, swapped_as}
use Rattle.mesa_engine.proofs.Writing.{swapped_vault, unswapped_vault}
use Rattle.mesa_write_turns.specs.mesa_file_records.Published.{AllTell, rows_with}
use Rattle.mesa_write_turns.specs.mesa_file_records.Finished.{HasRange}
use Rattle.mesa_write_turns.specs.mesa_file_records.Swapped.{IsSwapped, delta_of, swap_of}
use Rattle.mesa_write_turns.specs.mesa_file_records.declared.swapping.Swapped.{Swapped}
use Rattle.mesa_open_files.specs.Tasks.{claim_in}
use Rattle.mesa_write_turns.specs.Committing.{IsWhole, IsWorked}

-- a work is that of its range
work_same : (work : Work) → work_of (is_base work) (first_of work) (last_of work) ≡ work
work_same (range_of.Base to) = refl
work_same (range_of.Cumulative from to) = refl

-- ---- ids

pub all_among : (P : ℕ → Type 0) (ids : List ℕ) → ((id : ℕ) → Among id ids → P id) → AllByRecursion P ids
all_among P [] each = tt
all_among P (x ∷ ids) each = (each x (inl refl), all_among P ids (λ id is. each id (inr is)))

pub not_among : (id : ℕ) (files : List LiveFile) → (Among id (map live_id files) → ⊥) → AllByRecursion (λ (x : LiveFile). x.file.id ≡ id → ⊥) files
not_among id [] none = tt
not_among id (x ∷ files) none = (λ same. none (inl same), not_among id files (λ is. none (inr is)))

module _ (n : Starts) (w : Rows) (sound : Bool) (l : EngineState) (story : Story) (held : Option (List ℕ)) (h : List Entry) (running refused : Bool) (v : IsVault (outset_of n w) (n.origin w) sound l story held h running refused)
    (session number : ℕ) (low : session < 2 ^ 16) (few : number < 2 ^ 32) (ran : running ≡ true)
    {M R : Type 0} (bytes : M → Option (List ℕ)) (read : R → Option (List ℕ)) (was : Lineage) (t : Task R) (s : Swapped M) (is : IsSwapped bytes read l was t s) (typed : IsTyped s.entry)
    (words : WorkWords) (due : IsDue n.script (run_of (outset_of n w) h) session number (command.Work words) (Renewed (claim_in t)))
    (at : ℕ) (place : at ≡ length h) (checked : claim_checked (books_of no_rows l).bare (books_of no_rows l).machine at (claim_in t) ≡ Ok tt)
    (range : IsTrue sound → HasRange read was t (written_by (outset_of n w) (n.origin w).found h t.table)) where
  abbrev c : Catalog
  c = l.catalogue

  -- the record of the task's range
  abbrev r : Record
  r = swap_of t is.refs

  abbrev later : Rows
  later = rows_with v.rows (next_id l) is.more

  abbrev made : List (ℕ × Option (List ℕ))
  made = files_of bytes s.made.items

  abbrev gone : List ℕ
  gone = dropped_ids c r

  abbrev removed : List ℕ
  removed = removed_by l (length h) gone

  abbrev claim : Claim
  claim = claim_in t

  abbrev written : ℕ → List Written
  written = written_by (outset_of n w) (n.origin w).found h

  rules : keeps_rules r ≡ true
  rules = subst (λ e. keeps_rules e ≡ true) is.entry is.rules

  fit : fits c r ≡ true
  fit = subst (λ e. fits c e ≡ true) is.entry is.fitting

  ids : made_ids made ≡ brought_ids c r
  ids = is.ids ∙ ap (brought_ids c) is.entry

  files_told : AreTold later c r
  files_told = subst (λ e. AreTold later c e) is.entry (is.told v.rows)

  files : AllTell bytes s.made.items → made ≡ told_files (wants later (brought c r))
  files tell = is.files v.rows tell ∙ ap (λ e. told_files (wants later (brought c e))) is.entry

  agree : (id : ℕ) → id < next_id l → later id ≡ v.rows id
  agree = is.agree v.rows

  there : t.table < length c.tables
  there = swap_there c t.table (is_base t.work) (first_of t.work) (last_of t.work) t.epoch is.refs (kind_of c r fit)

  opened : l.closed ≡ None
  opened = checked_open (books_of no_rows l).bare (books_of no_rows l).machine at claim checked

  renames : Renames (named c) made (named (applied c r)) gone
  renames = record_renames c r rules fit v.own made ids

  recorded : IsRecorded l v.rows later (applied c r) made gone
  recorded = record {
    agree = agree;
    run = refl;
    renames = renames;
    brings = record_brings c r rules fit v.own made ids;
    shaped = fits_shaped c r v.shaped (subst IsTyped is.entry typed) fit;
    own = own_ids c r rules fit v.own;
    columns = fits_counted c r v.shaped v.columns fit;
    recordable = applied_recordable c r (record { typed = subst IsTyped is.entry typed; rules = rules }) v.recordable;
  }

  -- the files go that no hold is on, and the others wait
  clears : Clears v.seen l (length h) s.adopted (applied c r) (left_by l (length h) gone) removed
  clears = clears_freed (outset_of n w) (n.origin w) sound l story held h running refused v made s.adopted is.adopts (applied c r) gone renames

  -- nothing that is removed is named then
  unnamed : AllByRecursion (IsUnnamed (applied c r)) removed
  unnamed = all_among (IsUnnamed (applied c r)) removed (λ id among. not_among id (live_files (applied c r)) (freed_unnamed (length h + 1) (first_id c.run + s.adopted) (named (applied c r)) (waiting l (length h) gone) (map ids_held (holders v.seen l))
      (filed_moved (length h) (next_id l) (named c) l.trash (map ids_held (holders v.seen l)) v.filed made (first_id c.run + s.adopted) is.adopts.given (let more = is.adopts.more in omega (arith, more)) (named (applied c r)) gone renames)
      id (subst (λ hs. Among id (ids_of (freed hs (waiting l (length h) gone)))) (sym (holds_are v.seen l)) among)))

  -- ---- on a sound store

  module _ (ok : IsTrue sound) where
    sound_rows_later : HaveSoundRows later c
    sound_rows_later = agree_sound_rows v.rows later c (named_agree (outset_of n w) (n.origin w) sound l story held h running refused v later agree) (v.sound_rows ok).0

    has_sources : HasSources later written c
    has_sources = agree_sourced v.rows later written c (named_agree (outset_of n w) (n.origin w) sound l story held h running refused v later agree) (v.sourced ok)

    made_of : IsMadeOf later (meta_at c t.table).lineage (written t.table) (first_of t.work) (last_of t.work) (delta_of t is.refs)
    made_of = merge_written later written c v.shaped has_sources t.table there (first_of t.work) (last_of t.work) (delta_of t is.refs) (is.merged v.rows (written t.table) (range ok))

    replaces : Replaces later (meta_at c t.table).lineage (delta_of t is.refs) (merged_of (meta_at c t.table) (is_base t.work) (last_of t.work))
    replaces = swap_replaces later written c v.shaped has_sources t.table (is_base t.work) (first_of t.work) (last_of t.work) t.epoch is.refs fit made_of

    moves : Moves later c r (kept_swapped (kept_of later c) t.table (work_of (is_base t.work) (first_of t.work) (last_of t.work)))
    moves = swap_step later c sound_rows_later v.shaped t.table (is_base t.work) (first_of t.work) (last_of t.work) t.epoch is.refs fit files_told (record { replaces = replaces; grouped = is.grouped v.rows (written t.table) (range ok) })

  module _ (body : List ℕ) (are : AreBytes body) (reads : record_at body ≡ Ok r) where
    to_write : IsTrue sound → AllTell bytes s.made.items → IsWritten story l.area v.bodies l.end c later r body made removed
    to_write ok tell =
        let stands = v.stands ok opened in
        record {
          held = record {
            bytes = stands.bytes;
            records = stands.records;
            sound_rows = sound_rows_later ok;
            stands = subst (λ files. Stands story l.area v.bodies l.end files) (sym (agree_wants v.rows later (live_files c) (named_agree (outset_of n w) (n.origin w) sound l story held h running refused v later agree))) stands.stands;
          };
          step = record { bytes = are; reads = reads; fitting = fit; sound_rows = (moves ok).sound_rows; grows = (moves ok).grows };
          brings = files tell;
          unnamed = unnamed;
        }

    -- each image stands for what was kept, or for what is to be kept
    store_swaps : (new : Story) → IsWorked story new l.area l.end body made removed → IsTrue sound → AllTell bytes s.made.items → Writes StandsFor story new (kept_of v.rows l.catalogue) (kept_of later (applied c r))
    store_swaps new worked ok tell below all =
        subst (λ k. Spans (StandsForEither StandsFor k (kept_of later (applied c r))) story new) (same_kept (outset_of n w) (n.origin w) sound l story held h running refused v later agree)
        (worked.images v.bodies c later r (to_write ok tell))

    store_holds : (new : Story) (end : ℕ) → IsWorked story new l.area l.end body made removed → IsWhole story new l.area l.end body made removed end → IsTrue sound → AllTell bytes s.made.items
        → IsHeld new l.area (v.bodies ++ body ∷ []) end (applied c r) later
    store_holds new end worked whole ok tell =
        subst (λ e. IsHeld new l.area (v.bodies ++ body ∷ []) e (applied c r) later) (sym whole.ends) (whole.holds v.bodies c later r (to_write ok tell))

  module _ (new : Story) (m : ℕ) (moment : m ≡ new.moment) (passes : Passes story new) (only : Steps (MovesOnly made removed) story.told new.told) (now : Bool) (new_held : Option (List ℕ))
      (writes : IsTrue sound → Writes StandsFor story new (kept_of v.rows l.catalogue) (kept_of later (applied c r))) (end : ℕ) where
    swaps : Swaps sound (books_of v.rows l) claim t.work (kept_of later (applied c r))
    swaps = swap_is (outset_of n w) (n.origin w) sound l story held h running refused v later agree claim t.work (is_base t.work) (first_of t.work) (last_of t.work) t.epoch is.refs (work_same t.work)
        (swap_within c t.table (is_base t.work) (first_of t.work) (last_of t.work) t.epoch is.refs (kind_of c r fit)) replaces

    abbrev after : EngineState
    after = recorded_state l (applied c r) (generation_of (applied c r)) (left_by l (length h) gone) (ended t.table t.lease l.leases) s.adopted end

    stands_so : Counts story new false → (bodies : List (List ℕ)) → (IsTrue sound → IsHeld new l.area bodies end (applied c r) later) → ((i : Image) → new.told ≡ Some i → AreGone removed i) → end < new.len l.area
        → generation_of (applied c r) ≡ l.generation + turns_generation r → IsPut (block (entry session number kind.Close outcome.Stands m) (Some (told_at at (swapped_reply t.work)))) now held new_held
        → IsVault (outset_of n w) (n.origin w) sound after new new_held (h ++ entry session number kind.Close outcome.Stands m ∷ []) now (refused || false)
    stands_so counts bodies holds gone_now long rises put =
        swapped_vault n w sound l story held h running refused v session number low few m ran at place opened later (applied c r) made gone s.adopted is.adopts recorded (left_by l (length h) gone) removed clears new moment passes only writes now new_held
        words claim t.work refl due checked (generation_of (applied c r)) end swaps
        (swapped_as (outset_of n w) (n.origin w) sound l story held h running refused v later agree claim t.work (is_base t.work) (first_of t.work) (last_of t.work) t.epoch is.refs (work_same t.work) (generation_of (applied c r)) (left_by l (length h) gone) s.adopted end)
        counts bodies holds gone_now (λ ok. (moves ok).sound_rows) long (omega (arith, rises))
        (λ told ok. sources_stay (outset_of n w) (n.origin w) sound l story held h running refused v later agree (entry session number kind.Close outcome.Stands m) _ (swapped_reply t.work) told (swap_leaves t.work) (applied c r)
        (λ has. swap_sourced later written c v.shaped has t.table (is_base t.work) (first_of t.work) (last_of t.work) t.epoch is.refs fit (made_of ok)) ok) put

    fails_so : Counts story new true → IsPut (block (entry session number kind.Close outcome.WriteFault m) (Some (told_at at (reply_of Unwritten)))) now held new_held
        → IsVault (outset_of n w) (n.origin w) sound (failed_state l at (ended t.table t.lease l.leases) s.adopted) new new_held (h ++ entry session number kind.Close outcome.WriteFault m ∷ []) now (refused || true)
    fails_so counts put =
        unswapped_vault n w sound l story held h running refused v session number low few m ran at place opened later (applied c r) made gone s.adopted is.adopts recorded (left_by l (length h) gone) removed clears new moment passes only writes now new_held
        words claim t.work refl due checked (generation_of (applied c r)) end swaps
        (swapped_as (outset_of n w) (n.origin w) sound l story held h running refused v later agree claim t.work (is_base t.work) (first_of t.work) (last_of t.work) t.epoch is.refs (work_same t.work) (generation_of (applied c r)) (left_by l (length h) gone) s.adopted end)
        counts put

-- ---- on every store

module _ (n : Starts) (w : Rows) (sound : Bool) (l : EngineState) (story : Story) (held : Option (List ℕ)) (h : List Entry) (running refused : Bool) (v : IsVault (outset_of n w) (n.origin w) sound l story held h running refused)
    (session number : ℕ) (low : session < 2 ^ 16) (few : number < 2 ^ 32) (ran : running ≡ true)
    {M R : Type 0} (bytes : M → Option (List ℕ)) (read : R → Option (List ℕ)) (was : Lineage) (t : Task R) (s : Swapped M) (is : IsSwapped bytes read l was t s) (typed : IsTyped s.entry)
    (words : WorkWords) (due : IsDue n.script (run_of (outset_of n w) h) session number (command.Work words) (Renewed (claim_in t)))
    (at : ℕ) (place : at ≡ length h) (checked : claim_checked (books_of no_rows l).bare (books_of no_rows l).machine at (claim_in t) ≡ Ok tt)
    (range : IsTrue sound → HasRange read was t (written_by (outset_of n w) (n.origin w).found h t.table)) (tell : IsTrue sound → AllTell bytes s.made.items)
    (body : List ℕ) (are : AreBytes body) (new : Story) (m : ℕ) (moment : m ≡ new.moment) (now : Bool) (new_held : Option (List ℕ)) where
  -- what is asked of the device work for a record, and what the vault then is
  abbrev Ends : Record → Type 0
  Ends e = record_at body ≡ Ok e → IsWorked story new l.area l.end body (files_of bytes s.made.items) (removed_by l (length h) (dropped_ids l.catalogue e)) → (end : ℕ)
      → IsWhole story new l.area l.end body (files_of bytes s.made.items) (removed_by l (length h) (dropped_ids l.catalogue e)) end → Counts story new false → generation_of (applied l.catalogue e) ≡ l.generation + turns_generation e
      → IsPut (block (entry session number kind.Close outcome.Stands m) (Some (told_at at (swapped_reply t.work)))) now held new_held
      → IsVault (outset_of n w) (n.origin w) sound (recorded_state l (applied l.catalogue e) (generation_of (applied l.catalogue e)) (left_by l (length h) (dropped_ids l.catalogue e)) (ended t.table t.lease l.leases) s.adopted end) new new_held
      (h ++ entry session number kind.Close outcome.Stands m ∷ []) now (refused || false)

  abbrev Fails : Record → Type 0
  Fails e = record_at body ≡ Ok e → IsWorked story new l.area l.end body (files_of bytes s.made.items) (removed_by l (length h) (dropped_ids l.catalogue e)) → Counts story new true
      → IsPut (block (entry session number kind.Close outcome.WriteFault m) (Some (told_at at (reply_of Unwritten)))) now held new_held
      → IsVault (outset_of n w) (n.origin w) sound (failed_state l at (ended t.table t.lease l.leases) s.adopted) new new_held (h ++ entry session number kind.Close outcome.WriteFault m ∷ []) now (refused || true)

  ends_so : Ends (swap_of t is.refs)
  ends_so reads worked end whole counts rises put =
      stands_so n w sound l story held h running refused v session number low few ran bytes read was t s is typed words due at place checked range new m moment worked.passes worked.only now new_held
      (λ ok. store_swaps n w sound l story held h running refused v session number low few ran bytes read was t s is typed words due at place checked range body are reads new worked ok (tell ok)) end counts (v.bodies ++ body ∷ [])
      (λ ok. store_holds n w sound l story held h running refused v session number low few ran bytes read was t s is typed words due at place checked range body are reads new end worked whole ok (tell ok)) whole.gone whole.long rises put

  failed_so : Fails (swap_of t is.refs)
  failed_so reads worked counts put =
      fails_so n w sound l story held h running refused v session number low few ran bytes read was t s is typed words due at place checked range new m moment worked.passes worked.only now new_held
      (λ ok. store_swaps n w sound l story held h running refused v session number low few ran bytes read was t s is typed words due at place checked range body are reads new worked ok (tell ok)) 0 counts put

  -- The device work is done, and the vault has the record: the lease has ended.
  pub swap_ends : Ends s.entry
  swap_ends = subst Ends (sym is.entry) ends_so

  -- The device work has failed, and the vault closes: the lease has ended too.
  pub swap_fails : Fails s.entry
  swap_fails = subst Fails (sym is.entry) failed_so
