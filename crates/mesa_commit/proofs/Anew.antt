-- A journal that is stated anew in the other area.
use Rattle.std.proofs.Common.{◌≡◌, inl, inr, ⊎_elim, ℕ, ◌+◌, List, [], ◌∷◌, length, Option, Some, Bool, false, ◌<◌, refl, sym, ◌∙◌, ap, subst, arith}
use Rattle.mesa_disk.specs.Image.{Image, area_of, InArea, AnyChange}
use Rattle.mesa_disk.specs.Story.{Story, Steps, After, Spans}
use Rattle.mesa_disk.specs.declared.area.Area.{Area}
use Rattle.mesa_disk.proofs.Run.{area_of-with_area, with_area-area_of, spans_on, spans_weaken, spans_none}
use Rattle.mesa_journal.specs.Journal.{Closed}
use Rattle.mesa_journal.specs.Settled.{IsSettled, IsWithinAppend}
use Rattle.mesa_journal.specs.Areas.{other_of, IsBehind, Closes, MayClose, holds_body}
use Rattle.mesa_journal.proofs.Live.{same_stays, other_other, leads_none, behind_closes, shut_long}
use Rattle.mesa_commit.specs.Images.{Shows, Stands}
use Rattle.mesa_commit.specs.Restated.{TakesOver, OldOrRestated}
use Rattle.mesa_commit.proofs.Files.{has_changed}

-- nothing was done
pub untouched : (s : Story) (area : Area) → Spans (After (InArea area Closes) s.may_leave) s s
untouched s area = spans_none (After (InArea area Closes) s.may_leave) s (λ c l. (c, l, record { bytes = area_of area c; stepped = inr refl; same = sym (with_area-area_of area c) }))

pub stays_told : (area : Area) (told : Option Image) → Steps (AnyChange area) told told
stays_told area told = record {
  on = λ i e. (i, e, record { bytes = area_of area i; stepped = tt; same = sym (with_area-area_of area i) });
  back = λ j e. (j, e, record { bytes = area_of area j; stepped = tt; same = sym (with_area-area_of area j) });
}

module _ (live : Area) (bodies : List (List ℕ)) (end : ℕ) (files : List (ℕ × List ℕ)) (body : List ℕ) (s0 : Story) (t : TakesOver s0 live bodies end files body) where
  abbrev P : Image → Type 0
  P = OldOrRestated live bodies end files body

  -- an image whose other area is without a body, or as it was
  readied_image : (i j : Image) → InArea (other_of live) Closes i j → Shows live bodies end files i → Shows live bodies end files j
  readied_image i j step is =
      let bytes : area_of (other_of live) j ≡ step.bytes = ap (area_of (other_of live)) step.same ∙ area_of-with_area (other_of live) step.bytes i in
      let closes : Closes (area_of (other_of live) i) (area_of (other_of live) j) = subst (λ (b : List ℕ). Closes (area_of (other_of live) i) b) (sym bytes) step.stepped in
      record {
        journal = subst (λ (b : List ℕ). Closed b bodies end) (sym (same_stays live Closes i j step)) is.journal;
        behind = behind_closes live bodies (area_of (other_of live) i) (area_of (other_of live) j) is.behind closes;
        has = has_changed files (other_of live) Closes i j step is.has;
      }

  -- once the other area was made ready, or that was tried
  pub readied : (s1 : Story) → Spans (After (InArea (other_of live) Closes) s0.may_leave) s0 s1 → Spans P s0 s1
  readied s1 run = spans_weaken P (After (InArea (other_of live) Closes) s0.may_leave) s0 s1 run (λ c from. inl (readied_image from.0 c from.2 (t.stands.left from.0 from.1)))

  module _ (s1 : Story) (run : Spans (After (InArea (other_of live) Closes) s0.may_leave) s0 s1) where
    old : (c : Image) → s1.may_leave c → Shows live bodies end files c
    old c l = let from = run.left c l in readied_image from.0 c from.2 (t.stands.left from.0 from.1)

    -- an image in which the other area changed: the live one is as it was
    live_stays : (step : List ℕ → List ℕ → Type 0) (i j : Image) → InArea (other_of live) step i j → Shows live bodies end files i → Closed (area_of live j) bodies end
    live_stays step i j change is = subst (λ (b : List ℕ). Closed b bodies end) (sym (same_stays live step i j change)) is.journal

    -- the old journal is behind the new one
    taken : (step : List ℕ → List ℕ → Type 0) (i j : Image) → InArea (other_of live) step i j → Shows live bodies end files i → IsBehind (other_of live) (body ∷ []) (area_of (other_of (other_of live)) j)
    taken step i j change is =
        let here : IsBehind (other_of live) (body ∷ []) (area_of live j) = record { others = bodies; end = end; whole = inr (live_stays step i j change is); leads = t.leads } in
        subst (λ (a : Area). IsBehind (other_of live) (body ∷ []) (area_of a j)) (sym (other_other live)) here

    ends : 0 + length body + 5 ≡ length body + 5
    ends = omega arith

    -- the other area was written, and counts for nothing yet
    still : (step : List ℕ → List ℕ → Type 0) (i j : Image) → (change : InArea (other_of live) step i j) → Closed change.bytes [] 0 → Shows live bodies end files i → Shows live bodies end files j
    still step i j change shut is =
        let bytes : area_of (other_of live) j ≡ change.bytes = ap (area_of (other_of live)) change.same ∙ area_of-with_area (other_of live) change.bytes i in
        record {
          journal = live_stays step i j change is;
          behind = record { others = []; end = 0; whole = inr (subst (λ (b : List ℕ). Closed b [] 0) (sym bytes) shut); leads = leads_none live bodies is.behind.others is.behind.leads };
          has = has_changed files (other_of live) step i j change is.has;
        }

    within : ((i : Image) → s1.told ≡ Some i → s1.may_leave i) → (c : Image) → IsWithinAppend s1 (other_of live) [] 0 body c → P c
    within read c (inl from) = inl (still _ from.0 c from.2 from.2.stepped (old from.0 from.1))
    within read c (inr from) =
        let step = from.2 in
        let was = old from.0 (read from.0 from.1) in
        let bytes : area_of (other_of live) c ≡ step.bytes = ap (area_of (other_of live)) step.same ∙ area_of-with_area (other_of live) step.bytes from.0 in
        ⊎_elim
        (λ is. inl (still _ from.0 c step is was))
        (λ is. inr (record {
          journal = subst (λ (n : ℕ). Closed (area_of (other_of live) c) (body ∷ []) n) ends (subst (λ (b : List ℕ). Closed b (body ∷ []) (0 + length body + 5)) (sym bytes) is);
          behind = taken _ from.0 c step was;
          has = has_changed files (other_of live) _ from.0 c step was.has;
        })) step.stepped

    -- once the body was appended, or that was tried
    pub restated : ((i : Image) → s1.told ≡ Some i → s1.may_leave i) → (s2 : Story) → Spans (IsWithinAppend s1 (other_of live) [] 0 body) s1 s2 → Spans P s0 s2
    restated read s2 more = spans_on P (IsWithinAppend s1 (other_of live) [] 0 body) s0 s1 s2 (readied s1 run) more (within read)

    -- and once that is done
    pub all_restated : ((i : Image) → s1.told ≡ Some i → s1.may_leave i) → (s2 : Story) → Steps (AnyChange (other_of live)) s1.told s2.told → IsSettled s2 (other_of live) (body ∷ []) (0 + length body + 5) → ((c : Image) → s2.may_leave c → s2.told ≡ Some c)
        → Stands s2 (other_of live) (body ∷ []) (length body + 5) files
    all_restated read s2 told settled durable = record { read = shown; left = λ c l. shown c (durable c l) }
      where
        shown : (j : Image) → s2.told ≡ Some j → Shows (other_of live) (body ∷ []) (length body + 5) files j
        shown j e =
            let from = told.back j e in
            let was = old from.0 (read from.0 from.1) in
            record {
              journal = subst (λ (n : ℕ). Closed (area_of (other_of live) j) (body ∷ []) n) ends (settled.read j e);
              behind = taken _ from.0 j from.2 was;
              has = has_changed files (other_of live) _ from.0 j from.2 was.has;
            }

-- a long area without a body has its gate
pub settled_long : (s : Story) (area : Area) (holds : Bool) → ((i : Image) → s.told ≡ Some i → holds ≡ holds_body (area_of area i)) → ((c : Image) → s.may_leave c → s.told ≡ Some c) → ((i : Image) → s.told ≡ Some i → 1 < length (area_of area i)) → holds ≡ false → IsSettled s area [] 0
settled_long s area holds is alone long none = record {
  read = λ i e. shut_long (area_of area i) (sym (is i e) ∙ none) (long i e);
  left = λ c l. shut_long (area_of area c) (sym (is c (alone c l)) ∙ none) (long c (alone c l));
}

-- an area that holds a body, or is short
pub may_close_all : (s : Story) (area : Area) → ((i : Image) → s.told ≡ Some i → MayClose (area_of area i)) → ((c : Image) → s.may_leave c → s.told ≡ Some c) → (c : Image) → s.may_leave c → MayClose (area_of area c)
may_close_all s area may alone c l = may c (alone c l)
