-- A vault with one entry more that wrote nothing.
use Rattle.std.proofs.Common.{◌≡◌, ℕ, ◌+◌, ◌*◌, ◌≤◌, List, [], ◌∷◌, ◌++◌, map, length, Bool, sym, ◌∙◌, ap, subst, arith, Option, None}
use Rattle.std.specs.List.{AllByRecursion}
use Rattle.std.proofs.lemmas.List.{length-append}
use Rattle.mesa_disk.specs.Story.{Story, Unmoved}
use Rattle.mesa_lease.specs.Book.{Book}
use Rattle.mesa_model.specs.declared.entries.Entry.{Entry}
use Rattle.mesa_invariant_spec.specs.mesa_history_spec.Run.{begins}
use Rattle.mesa_catalog.specs.mesa_store_spec.Catalog.{Catalog}
use Rattle.mesa_catalog.specs.mesa_store_spec.Ids.{named}
use Rattle.mesa_commit.specs.Holding.{AreFiled}
use Rattle.mesa_invariant_spec.specs.Invariant.{Outset, KeepsInvariant}
use Rattle.mesa_engine.specs.EngineState.{HeldPin, OpenQuery, EngineState, books_of, next_id, most_files, holders, ids_held}
use Rattle.mesa_catalog.specs.mesa_store_spec.Sourced.{HasSources}
use Rattle.mesa_engine.specs.Vault.{Origin, IsReady, IsVault}
use Rattle.mesa_engine.proofs.Accepting.{silent_changes, silent_leaves}
use Rattle.mesa_engine.proofs.Holding.{AreKept}
use Rattle.mesa_engine.proofs.Standing.{held_unmoved, ready_unmoved}

module _ (o : Outset) (g : Origin) (sound : Bool) (l : EngineState) (story : Story) (held : Option (List ℕ)) (h : List Entry) (running refused : Bool) (v : IsVault o g sound l story held h running refused) where
  -- what is kept of the holds between turns
  pub kept_holds : AreKept v.rows sound story.told v.seen l (length h)
  kept_holds = record { filed = v.filed; copies = v.copies; versions = v.versions; sound_rows = λ ok. (v.sound_rows ok).1; there = v.there }

  -- The catalogue stays, and what waits; the pins, the open queries, the leases and the closing position may be others.
  module _ (pins : List HeldPin) (queries : List OpenQuery) (leases : Book) (given : List ℕ) (closed : Option ℕ) where
    abbrev after : EngineState
    after = record l { pins = pins; queries = queries; leases = leases; given = given; closed = closed }

    pub quiet_vault : (e : Entry) (new : Story) (new_held : Option (List ℕ)) (now told : Bool) → KeepsInvariant o sound (books_of v.rows after) new new_held h e now told → Unmoved story new
        → (closed ≡ None → l.closed ≡ None) → leases.granted ≤ l.leases.granted + 1 → AllByRecursion (λ n. n ≤ length h + 1) given → (seen : ℕ → Catalog) → AreKept v.rows sound story.told seen after (length h + 1)
        → IsVault o g sound after new new_held (h ++ e ∷ []) now told
    quiet_vault e new new_held now told on same opened granted counts seen kept = record {
      rows = v.rows;
      bodies = v.bodies;
      seen = seen;
      invariant = on.invariant;
      ranges = v.ranges;
      stands = λ ok is. held_unmoved story new same l.area v.bodies l.end l.catalogue v.rows (v.stands ok (opened is));
      shaped = v.shaped;
      own = v.own;
      columns = v.columns;
      recordable = v.recordable;
      copies = kept.copies;
      versions = kept.versions;
      counts = record {
        leases = omega (arith, more, granted, v.counts.leases);
        given = subst (λ n. AllByRecursion (λ x. x ≤ n) given) (sym more) counts;
        adopted = subst (λ n. l.adopted ≤ most_files * n) (sym more) (omega (arith, v.counts.adopted));
        generation = v.counts.generation ∙ ap (λ n. g.generation + n) (sym (silent_changes o.script (begins o.start) h e on.silent));
        run = v.counts.run;
      };
      filed = subst (λ n. AreFiled n (next_id l) (named l.catalogue) l.trash (map ids_held (holders seen after))) (sym more) kept.filed;
      ready = λ is. ready_unmoved story new same after (was_ready is);
      read = λ ok. let was = v.read ok in (was.0, same.told ∙ was.1);
      there = λ ok i is. kept.there ok i (sym same.told ∙ is);
      sound_rows = λ ok. ((v.sound_rows ok).0, kept.sound_rows ok);
      sourced = λ ok. subst (λ written. HasSources v.rows written l.catalogue) (sym (silent_leaves o.script (begins o.start) h e on.silent g.found)) (v.sourced ok);
    }
      where
        more : length (h ++ e ∷ []) ≡ length h + 1
        more = length-append h (e ∷ [])

        was_ready : closed ≡ None → IsReady after story
        was_ready is = record { long = (v.ready (opened is)).long; fresh = (v.ready (opened is)).fresh; strays = (v.ready (opened is)).strays }
