-- A sync, and a first gate.
use Rattle.std.proofs.Common.{◌≡◌, inl, inr, ⊎_elim, ℕ, ◌+◌, ◌<◌, ◌≤◌, List, [], ◌∷◌, ◌++◌, length, Option, Some, Bool, refl, sym, ◌∙◌, ap, subst, arith, length-append}
use Rattle.mesa_disk.specs.Image.{Image, area_of, file_of, InArea, AnyChange}
use Rattle.mesa_disk.specs.Story.{Story, Steps, After, Elapses, Spans}
use Rattle.mesa_disk.specs.declared.area.Area.{Area}
use Rattle.mesa_disk.proofs.Run.{weakens, spans_on, area_of-with_area, with_area-area_of}
use Rattle.mesa_disk.proofs.Others.{area_others}
use Rattle.mesa_journal.specs.Journal.{Closed, IsJournal, frames, word}
use Rattle.mesa_journal.specs.Settled.{IsSettled}
use Rattle.mesa_journal.specs.Areas.{HasJournal, MayClose, Closes, holds_body, other_of}
use Rattle.mesa_journal.proofs.Live.{other_stays}
use Rattle.mesa_commit.specs.Images.{Has, Shows, Stands}
use Rattle.mesa_commit.specs.Restated.{TakesOver, OldOrRestated}
use Rattle.mesa_commit.proofs.Files.{has_changed}
use Rattle.mesa_commit.proofs.Calls.{behind_changed}
use Rattle.mesa_store_spec.specs.Catalog.{Catalog}
use Rattle.mesa_store_spec.specs.Fitting.{live_files}
use Rattle.mesa_store_spec.specs.Contents.{Rows, kept_of}
use Rattle.mesa_store_spec.specs.Sound.{wants, StandsFor}
use Rattle.mesa_store_spec.specs.Held.{IsHeld}
use Rattle.mesa_store.specs.Store.{IsFound, Restates, StatesIfAny}
use Rattle.mesa_store.proofs.Joined.{shows_stands}

no_bodies : (bodies : List (List ℕ)) (gate : ℕ) (rest : List ℕ) → length (frames bodies ++ gate ∷ rest) ≤ 1 → bodies ≡ []
no_bodies [] gate rest le = refl
no_bodies (body ∷ bodies) gate rest le = absurd (omega (arith, length-append (word (length body) ++ body ++ frames bodies) (gate ∷ rest), le))

-- an area of no or one byte has no body
short_journal : (area : List ℕ) (bodies : List (List ℕ)) (end : ℕ) → IsJournal area bodies end → length area ≤ 1 → bodies ≡ []
short_journal area bodies end (inl none) le = none.none
short_journal area bodies end (inr closed) le = no_bodies bodies closed.gate closed.rest (subst (λ a. length a ≤ 1) closed.split le)

none_ends : (area : List ℕ) (bodies : List (List ℕ)) (end : ℕ) → IsJournal area bodies end → bodies ≡ [] → end ≡ 0
none_ends area bodies end (inl none) is = none.ends
none_ends area bodies end (inr closed) is = closed.ends ∙ ap (λ b. length (frames b)) is

-- a longer one has a gate behind its bodies
long_journal : (area : List ℕ) (bodies : List (List ℕ)) (end : ℕ) → IsJournal area bodies end → 1 < length area → Closed area bodies end
long_journal area bodies end (inl none) lt = absurd (omega (arith, none.short, lt))
long_journal area bodies end (inr closed) lt = closed

module _ (live : Area) (bodies : List (List ℕ)) (end : ℕ) (c : Catalog) (rows : Rows) (s0 : Story) (found : IsFound s0 live bodies end c rows) where
  abbrev P : Image → Type 0
  P x = StandsFor x (kept_of rows c)

  -- once the sync was tried
  pub synced : (s1 : Story) → ((x : Image) → s1.may_leave x → s0.may_leave x) → Elapses s1.may_leave s0 s1 → Spans P s0 s1
  synced s1 crash time = record { run = weakens P s1.may_leave s0 s1 time (λ x l. found.left x (crash x l)); left = λ x l. found.left x (crash x l) }

  -- once it is done
  module _ (s1 : Story) (same : s1.told ≡ s0.told) (durable : (x : Image) → s1.may_leave x → s1.told ≡ Some x) where
    journal : (x : Image) → s1.told ≡ Some x → HasJournal x live bodies end
    journal x is = found.journal x (sym same ∙ is)

    files : (x : Image) → s1.told ≡ Some x → Has (wants rows (live_files c)) x
    files x is = found.files x (sym same ∙ is)

    -- the area has records or a gate
    pub held : ((x : Image) → s1.told ≡ Some x → 1 < length (area_of live x)) → IsHeld s1 live bodies end c rows
    held long = record { bytes = found.bytes; records = found.records; sound_rows = found.sound_rows; stands = record { read = read; left = λ x l. read x (durable x l) } }
      where
        read : (x : Image) → s1.told ≡ Some x → Shows live bodies end (wants rows (live_files c)) x
        read x is = record { journal = long_journal (area_of live x) bodies end (journal x is).whole (long x is); behind = (journal x is).behind; has = files x is }

    -- it has none
    module _ (short : (x : Image) → s1.told ≡ Some x → length (area_of live x) ≤ 1) where
      pub all_short : (x : Image) → s1.may_leave x → MayClose (area_of live x)
      all_short x l = inl (short x (durable x l))

      still_whole : (old new : List ℕ) → IsJournal old bodies end → bodies ≡ [] → Closes old new → (e : ℕ) × IsJournal new bodies e
      still_whole old new was none (inl is) = (0, subst (λ b. IsJournal new b 0) (sym none) is)
      still_whole old new was none (inr is) = (end, subst (λ a. IsJournal a bodies end) (sym is) was)

      gated_image : (x : Image) → After (InArea live Closes) s1.may_leave x → P x
      gated_image x from =
          let told = durable from.0 from.1 in
          let was = journal from.0 told in
          let none : bodies ≡ [] = short_journal (area_of live from.0) bodies end was.whole (short from.0 told) in
          let bytes : area_of live x ≡ from.2.bytes = ap (area_of live) from.2.same ∙ area_of-with_area live from.2.bytes from.0 in
          let here = still_whole (area_of live from.0) (area_of live x) was.whole none (subst (λ (b : List ℕ). Closes (area_of live from.0) b) (sym bytes) from.2.stepped) in
          record {
            bodies = bodies;
            catalogue = c;
            rows = rows;
            is = record {
              live = live;
              end = here.0;
              journal = record { whole = here.1; behind = behind_changed live bodies _ from.0 x from.2 was.behind };
              records = found.records;
              files = has_changed (wants rows (live_files c)) live _ from.0 x from.2 (files from.0 told);
              rows_are = found.sound_rows;
            };
            same = refl;
          }

      -- once the gate was tried
      pub gated : (s2 : Story) → Spans P s0 s1 → (((x : Image) → s1.may_leave x → MayClose (area_of live x)) → Spans (After (InArea live Closes) s1.may_leave) s1 s2) → Spans P s0 s2
      gated s2 so_far run = spans_on P (After (InArea live Closes) s1.may_leave) s0 s1 s2 so_far (run all_short) gated_image

      -- once it is written
      pub held_gated : (s2 : Story) → IsSettled s2 live [] 0 → Steps (AnyChange live) s1.told s2.told → ((x : Image) → s2.may_leave x → s2.told ≡ Some x) → IsHeld s2 live bodies end c rows
      held_gated s2 settled changed now = record { bytes = found.bytes; records = found.records; sound_rows = found.sound_rows; stands = record { read = read; left = λ x l. read x (now x l) } }
        where
          read : (x : Image) → s2.told ≡ Some x → Shows live bodies end (wants rows (live_files c)) x
          read x is =
              let from = changed.back x is in
              let was = journal from.0 from.1 in
              let none : bodies ≡ [] = short_journal (area_of live from.0) bodies end was.whole (short from.0 from.1) in
              let at : end ≡ 0 = none_ends (area_of live from.0) bodies end was.whole none in
              record {
                journal = subst (λ b. Closed (area_of live x) b end) (sym none) (subst (λ e. Closed (area_of live x) [] e) (sym at) (settled.read x is));
                behind = behind_changed live bodies _ from.0 x from.2 was.behind;
                has = has_changed (wants rows (live_files c)) live _ from.0 x from.2 (files from.0 from.1);
              }

-- a sync, and a change of the area
pub told_settled : (live : Area) (old one two : Option Image) → one ≡ old → Steps (AnyChange live) one two → Steps (AnyChange live) old two
told_settled live old one two same is = subst (λ (o : Option Image). Steps (AnyChange live) o two) same is

pub told_synced : (live : Area) (old one : Option Image) → one ≡ old → Steps (AnyChange live) old one
told_synced live old one same = record {
  on = λ i e. (i, same ∙ e, record { bytes = area_of live i; stepped = tt; same = sym (with_area-area_of live i) });
  back = λ j e. (j, sym same ∙ e, record { bytes = area_of live j; stepped = tt; same = sym (with_area-area_of live j) });
}

-- ---- a checkpoint

module _ (live : Area) (bodies : List (List ℕ)) (end : ℕ) (c : Catalog) (rows : Rows) (body : List ℕ) (s0 : Story) (r : Restates s0 live bodies end c rows body) where
  pub takes_over : TakesOver s0 live bodies end (wants rows (live_files c)) body
  takes_over = record { stands = r.held.stands; alone = r.alone; leads = r.leads }

  -- whichever journal an image has, it stands for the same
  pub either_stands : (x : Image) → OldOrRestated live bodies end (wants rows (live_files c)) body x → StandsFor x (kept_of rows c)
  either_stands x is =
      ⊎_elim (λ old. shows_stands live bodies end c rows x r.held.records r.held.sound_rows old)
      (λ new. shows_stands (other_of live) (body ∷ []) (length body + 5) c rows x r.states r.held.sound_rows new) is

  pub held_restated : (s1 : Story) → Stands s1 (other_of live) (body ∷ []) (length body + 5) (wants rows (live_files c)) → IsHeld s1 (other_of live) (body ∷ []) (length body + 5) c rows
  held_restated s1 stands = record { bytes = (r.bytes, tt); records = r.states; sound_rows = r.held.sound_rows; stands = stands }

-- ---- an opening that carries on

-- what a checkpoint states of a store that is held
pub restates : (s : Story) (live : Area) (bodies : List (List ℕ)) (end : ℕ) (c : Catalog) (rows : Rows) (o : Option (List ℕ)) (body : List ℕ) → o ≡ Some body → IsHeld s live bodies end c rows → ((x : Image) → s.may_leave x → s.told ≡ Some x) → StatesIfAny live bodies c o → Restates s live bodies end c rows body
restates s live bodies end c rows o body is held alone states =
    let k = subst (StatesIfAny live bodies c) is states in
    record { held = held; alone = alone; bytes = k.bytes; states = k.states; leads = k.leads }

-- the other area holds what it held
pub holds_still : (live : Area) (holds : Bool) (old new : Option Image) → ((i : Image) → old ≡ Some i → holds ≡ holds_body (area_of (other_of live) i)) → Steps (AnyChange live) old new → (i : Image) → new ≡ Some i → holds ≡ holds_body (area_of (other_of live) i)
holds_still live holds old new was changed i e =
    let from = changed.back i e in
    was from.0 from.1 ∙ ap holds_body (sym (other_stays live _ from.0 i from.2))

pub carried : (P : Image → Type 0) (s0 s1 s2 : Story) → Spans P s0 s1 → Spans P s1 s2 → Spans P s0 s2
carried P s0 s1 s2 first second = spans_on P P s0 s1 s2 first second (λ x p. p)

-- files stay where areas change
pub files_stay : (a : Area) (old new : Option Image) → Steps (AnyChange a) old new → Steps (λ i j. (id : ℕ) → file_of j id ≡ file_of i id) old new
files_stay a old new is = record {
  on = λ i e. let to = is.on i e in (to.0, to.1, λ id. area_others a _ i to.0 to.2 id);
  back = λ j e. let from = is.back j e in (from.0, from.1, λ id. area_others a _ from.0 j from.2 id);
}

pub files_stay_twice : (a b : Area) (old mid new : Option Image) → Steps (AnyChange a) old mid → Steps (AnyChange b) mid new → Steps (λ i j. (id : ℕ) → file_of j id ≡ file_of i id) old new
files_stay_twice a b old mid new first second = record {
  on = λ i e. let one = (files_stay a old mid first).on i e in let two = (files_stay b mid new second).on one.0 one.1 in (two.0, two.1, λ id. two.2 id ∙ one.2 id);
  back = λ j e. let two = (files_stay b mid new second).back j e in let one = (files_stay a old mid first).back two.0 two.1 in (one.0, one.1, λ id. two.2 id ∙ one.2 id);
}
