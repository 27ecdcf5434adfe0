-- A vault with one entry more that wrote a record, or tried to.
use Rattle.std.proofs.Common.{◌≡◌, ℕ, ◌+◌, ◌*◌, ◌<◌, ◌≤◌, List, [], ◌∷◌, ◌++◌, map, length, Bool, refl, sym, ◌∙◌, ap, subst, arith, Option, None, Some, IsTrue}
use Rattle.std.specs.List.{AllByRecursion}
use Rattle.std.proofs.lemmas.List.{length-append}
use Rattle.mesa_disk.specs.Files.{AreGone}
use Rattle.mesa_disk.specs.Image.{Image}
use Rattle.mesa_disk.specs.Story.{Story, Steps}
use Rattle.mesa_commit.specs.Images.{Has}
use Rattle.mesa_commit.specs.Turn.{MovesOnly}
use Rattle.mesa_lease.specs.Book.{Book}
use Rattle.mesa_model.specs.declared.entries.Entry.{Entry}
use Rattle.mesa_model.specs.declared.replies.Reply.{Reply}
use Rattle.mesa_invariant_spec.specs.mesa_history_spec.Counting.{one_if}
use Rattle.mesa_invariant_spec.specs.mesa_history_spec.Run.{begins}
use Rattle.mesa_catalog.specs.mesa_store_spec.Catalog.{Catalog}
use Rattle.mesa_catalog.specs.mesa_store_spec.Held.{IsHeld}
use Rattle.mesa_catalog.specs.mesa_store_spec.Sound.{HaveSoundRows}
use Rattle.mesa_catalog.proofs.mesa_store_spec.Agreeing.{agree_sound_rows}
use Rattle.mesa_catalog.specs.mesa_store_spec.Ids.{named}
use Rattle.mesa_invariant_spec.specs.mesa_history_spec.Rows.{Rows}
use Rattle.mesa_commit.specs.Filed.{AreFresh, AreMoved, PinFiles, Renames}
use Rattle.mesa_commit.specs.declared.trash.Dropped.{Dropped}
use Rattle.mesa_commit.specs.Holding.{Among, Held, AreFiled, IsHoldOf, ids_of, freed, kept}
use Rattle.mesa_commit.proofs.Adopting.{fresh_stays, named_stays}
use Rattle.mesa_invariant_spec.specs.Sight.{is_of_schemas, tells_of_schemas, schema_changes}
use Rattle.mesa_invariant_spec.specs.Invariant.{Outset, KeepsInvariant, KeepsInvariantTelling}
use Rattle.mesa_engine.specs.EngineState.{EngineState, books_of, first_id, next_id, past_id, most_files, Holder, holders, ids_held, files_held}
use Rattle.mesa_engine.specs.Recorded.{waiting, removed_by, left_by, Adopts, IsRecorded, recorded_state, failed_state}
use Rattle.mesa_catalog.specs.mesa_store_spec.Sourced.{HasSources}
use Rattle.mesa_engine.specs.Vault.{Origin, IsRead, AreThere, IsVault, written_by}
use Rattle.mesa_engine.proofs.Accepting.{silent_changes, silent_leaves, changes_more}
use Rattle.mesa_engine.proofs.Filing.{IsCleared, holds_are, filed_lost, freed_cleared, none_cleared, old_agree, files_stay}
use Rattle.mesa_engine.proofs.Lists.{map_all, all_also}

-- no number is more than the next one
pub more_given : (n : ℕ) (ns : List ℕ) → AllByRecursion (λ x. x ≤ n) ns → AllByRecursion (λ x. x ≤ n + 1) ns
more_given n [] all = tt
more_given n (x ∷ ns) all = (omega (arith, all.0), more_given n ns all.1)

-- what a turn does with the files that wait in a vault, whose record makes this catalogue
abbrev pub Clears : (ℕ → Catalog) → EngineState → ℕ → ℕ → Catalog → List Dropped → List ℕ → Type 0
Clears seen l position adopted c waits removed = IsCleared position (first_id l.catalogue.run + adopted) (named l.catalogue) l.trash (map ids_held (holders seen l)) (named c) waits removed

module _ (o : Outset) (g : Origin) (sound : Bool) (l : EngineState) (story : Story) (held : Option (List ℕ)) (h : List Entry) (running refused : Bool) (v : IsVault o g sound l story held h running refused)
    (made : List (ℕ × Option (List ℕ))) (adopted : ℕ) (adopts : Adopts l made adopted) (c : Catalog) where
  given_later : next_id l ≤ first_id l.catalogue.run + adopted
  given_later = (let n = adopts.more in omega (arith, n))

  -- all files go that no hold is on
  pub clears_freed : (gone : List ℕ) → Renames (named l.catalogue) made (named c) gone → Clears v.seen l (length h) adopted c (left_by l (length h) gone) (removed_by l (length h) gone)
  clears_freed gone renames = subst (λ hs. Clears v.seen l (length h) adopted c (kept hs (waiting l (length h) gone)) (ids_of (freed hs (waiting l (length h) gone)))) (holds_are v.seen l)
      (freed_cleared (length h) (next_id l) (named l.catalogue) l.trash (map ids_held (holders v.seen l)) v.filed made (first_id l.catalogue.run + adopted) adopts.given given_later (named c) gone renames)

  -- or all that wait wait still
  pub clears_none : Renames (named l.catalogue) made (named c) [] → Clears v.seen l (length h) adopted c l.trash []
  clears_none renames = none_cleared (length h) (next_id l) (named l.catalogue) l.trash (map ids_held (holders v.seen l)) v.filed made (first_id l.catalogue.run + adopted) adopts.given given_later (named c) renames

module _ (o : Outset) (g : Origin) (sound : Bool) (l : EngineState) (story : Story) (held : Option (List ℕ)) (h : List Entry) (running refused : Bool) (v : IsVault o g sound l story held h running refused)
    (e : Entry) (new : Story) (new_held : Option (List ℕ)) (now told : Bool) (made : List (ℕ × Option (List ℕ))) (adopted : ℕ) (adopts : Adopts l made adopted)
    (c : Catalog) (waits : List Dropped) (removed : List ℕ) (clears : Clears v.seen l (length h) adopted c waits removed) (only : Steps (MovesOnly made removed) story.told new.told) where
  more : length (h ++ e ∷ []) ≡ length h + 1
  more = length-append h (e ∷ [])

  abbrev pins : List Held
  pins = map ids_held (holders v.seen l)

  abbrev later_id : ℕ
  later_id = first_id l.catalogue.run + adopted

  later_le : next_id l ≤ later_id
  later_le = (let n = adopts.more in omega (arith, n))

  most_more : most_files * (length h + 1) ≡ most_files * length h + most_files
  most_more = omega arith

  few_now : adopted ≤ most_files * length (h ++ e ∷ [])
  few_now = subst (λ n. adopted ≤ most_files * n) (sym more) (let a = adopts.few in let b = v.counts.adopted in omega (arith, a, b, most_more))

  read_stays : IsTrue sound → IsRead new
  read_stays ok = let was = v.read ok in let now = only.on was.0 was.1 in (now.0, now.1)

  -- files of holds stay, since no hold is on what is removed
  module _ (later : Rows) (agree : (id : ℕ) → id < next_id l → later id ≡ v.rows id) where
    below : AllByRecursion (λ (x : Holder). (id : ℕ) → Among id (named x.1) → id < next_id l) (holders v.seen l)
    below = all_also (λ x. IsHoldOf (named l.catalogue) l.trash (ids_held x).0 (ids_held x).1) (λ x. ((ids_held x).0.at < length h) × ((ids_held x).0.next ≤ next_id l)) (λ (x : Holder). (id : ℕ) → Among id (named x.1) → id < next_id l) (holders v.seen l)
        (λ x is low id named. (let a = is.given id named in omega (arith, a, low.1)))
        (map_all (λ (p : Held). IsHoldOf (named l.catalogue) l.trash p.0 p.1) ids_held (holders v.seen l) v.filed.held) (map_all (λ (p : Held). (p.0.at < length h) × (p.0.next ≤ next_id l)) ids_held (holders v.seen l) v.filed.before)

    stay_all : (xs : List Holder) (i j : Image) → MovesOnly made removed i j → AllByRecursion (λ (x : Holder). (id : ℕ) → Among id (named x.1) → id < next_id l) xs → ((id : ℕ) → Among id removed → AllByRecursion (λ (p : Held). Among id p.1 → ⊥) (map ids_held xs))
        → AllByRecursion (λ (p : PinFiles). Has p.1 i) (map (files_held v.rows) xs) → AllByRecursion (λ (p : PinFiles). Has p.1 j) (map (files_held later) xs)
    stay_all [] i j moves low apart has = tt
    stay_all (x ∷ xs) i j moves low apart has =
        (files_stay v.rows later (next_id l) later_id agree x.1 low.0 made removed i j moves adopts.given (λ id is named. (apart id is).0 named) has.0, stay_all xs i j moves low.1 (λ id is. (apart id is).1) has.1)

    there_stays : IsTrue sound → AreThere later v.seen l new
    there_stays ok j is = let before = only.back j is in stay_all (holders v.seen l) before.0 j before.2 below clears.unheld (v.there ok before.0 before.1)

    sound_rows_stays : IsTrue sound → AllByRecursion (λ (x : Holder). HaveSoundRows later x.1) (holders v.seen l)
    sound_rows_stays ok = all_also (λ (x : Holder). (id : ℕ) → Among id (named x.1) → id < next_id l) (λ (x : Holder). HaveSoundRows v.rows x.1) (λ (x : Holder). HaveSoundRows later x.1) (holders v.seen l)
        (λ x low are. agree_sound_rows v.rows later x.1 (old_agree v.rows later (next_id l) later_id agree x.1 low) are) below (v.sound_rows ok).1

  -- ---- the record is written

  module _ (later : Rows) (gone : List ℕ) (recorded : IsRecorded l v.rows later c made gone) (gone_now : (i : Image) → new.told ≡ Some i → AreGone removed i) where
    moved : AreMoved made removed story.told new.told
    moved = record { only = only; gone = gone_now }

    module _ (generation : ℕ) (leases : Book) (end : ℕ) (bodies : List (List ℕ)) (rep : Reply) where
      abbrev after : EngineState
      after = recorded_state l c generation waits leases adopted end

      -- The device work of the turn is done, and the state has its record.
      pub recorded_vault : KeepsInvariantTelling o sound (books_of later after) new new_held h e now told rep → (IsTrue sound → l.closed ≡ None → IsHeld new l.area bodies end c later) → (IsTrue sound → HaveSoundRows later c) → (l.closed ≡ None → end < new.len l.area)
          → leases.granted ≤ l.leases.granted → generation ≡ l.generation + one_if (is_of_schemas rep) → (IsTrue sound → HasSources later (written_by o g.found (h ++ e ∷ [])) c) → IsVault o g sound after new new_held (h ++ e ∷ []) now told
      recorded_vault on stands sound_rows long granted counted sourced = record {
        rows = later;
        bodies = bodies;
        seen = v.seen;
        invariant = on.invariant;
        ranges = v.ranges;
        stands = stands;
        shaped = recorded.shaped;
        own = recorded.own;
        columns = recorded.columns;
        recordable = recorded.recordable;
        copies = v.copies;
        versions = v.versions;
        counts = record {
          leases = omega (arith, more, granted, v.counts.leases);
          given = subst (λ n. AllByRecursion (λ x. x ≤ n) l.given) (sym more) (more_given (length h) l.given v.counts.given);
          adopted = few_now;
          generation = counted_now;
          run = recorded.run ∙ v.counts.run;
        };
        filed = subst (λ n. AreFiled n (next_id after) (named c) after.trash pins) (sym more) (subst (λ n. AreFiled (length h + 1) (first_id n + adopted) (named c) after.trash pins) (sym recorded.run) clears.filed);
        ready = λ is. record {
          long = long is;
          fresh = subst (λ n. AreFresh (first_id n + adopted) (first_id (n + 1)) new.told) (sym recorded.run)
              (fresh_stays made removed (next_id l) later_id (past_id l) story.told new.told adopts.given later_le only (v.ready is).fresh);
          strays = named_stays made removed (named l.catalogue) (named c) (ids_of l.trash) (ids_of after.trash) story.told new.told moved recorded.brings clears.goes (v.ready is).strays;
        };
        read = read_stays;
        there = there_stays later recorded.agree;
        sound_rows = λ ok. (sound_rows ok, sound_rows_stays later recorded.agree ok);
        sourced = sourced;
      }
        where
          counted_now : generation ≡ g.generation + schema_changes o.script (begins o.start) (h ++ e ∷ [])
          counted_now = (let a = v.counts.generation in let b = changes_more o.script (begins o.start) h e ∙ ap (λ t. schema_changes o.script (begins o.start) h + one_if (tells_of_schemas t)) on.tells in omega (arith, a, b, counted))

  -- ---- the device work failed

  -- The device work of the turn failed: the books close, whatever was brought is lost, and the lease of a work may have ended.
  pub failed_vault : (position : ℕ) (leases : Book) → KeepsInvariant o sound (books_of v.rows (failed_state l position leases adopted)) new new_held h e now told → leases.granted ≤ l.leases.granted
      → IsVault o g sound (failed_state l position leases adopted) new new_held (h ++ e ∷ []) now told
  failed_vault position leases on granted = record {
    rows = v.rows;
    bodies = v.bodies;
    seen = v.seen;
    invariant = on.invariant;
    ranges = v.ranges;
    stands = λ ok is. absurd (let never : Some position ≡ None = is in cc);
    shaped = v.shaped;
    own = v.own;
    columns = v.columns;
    recordable = v.recordable;
    copies = v.copies;
    versions = v.versions;
    counts = record {
      leases = omega (arith, more, granted, v.counts.leases);
      given = subst (λ n. AllByRecursion (λ x. x ≤ n) l.given) (sym more) (more_given (length h) l.given v.counts.given);
      adopted = few_now;
      generation = v.counts.generation ∙ ap (λ n. g.generation + n) (sym (silent_changes o.script (begins o.start) h e on.silent));
      run = v.counts.run;
    };
    filed = subst (λ n. AreFiled n later_id (named l.catalogue) l.trash pins) (sym more) (filed_lost (length h) (next_id l) (named l.catalogue) l.trash pins v.filed made later_id adopts.given later_le);
    ready = λ is. absurd (let never : Some position ≡ None = is in cc);
    read = read_stays;
    there = there_stays v.rows (λ id low. refl);
    sound_rows = λ ok. v.sound_rows ok;
    sourced = λ ok. subst (λ written. HasSources v.rows written l.catalogue) (sym (silent_leaves o.script (begins o.start) h e on.silent g.found)) (v.sourced ok);
  }
