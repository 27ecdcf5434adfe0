-- The device calls of a turn, one after another.
use Rattle.std.proofs.Common.{◌≡◌, inl, inr, ⊎_elim, ℕ, ◌+◌, List, [], ◌∷◌, ◌++◌, length, Option, Some, sym, ◌∙◌, ap, subst}
use Rattle.std.specs.List.{AllByRecursion}
use Rattle.mesa_disk.specs.Image.{Image, area_of, Adopts, May, AnyChange, InArea}
use Rattle.mesa_disk.specs.Story.{Story, Steps, After, Spans}
use Rattle.mesa_disk.specs.Files.{AddsAll, AddsSome, LosesFirst, LosesSome, HasDistinctIds, HasOtherIds, IsNoneOf, OthersStay, AreThere}
use Rattle.mesa_disk.specs.declared.area.Area.{Area}
use Rattle.mesa_disk.proofs.Run.{area_of-with_area, spans_on, spans_weaken, spans_kept}
use Rattle.mesa_disk.proofs.Rounds.{each}
use Rattle.mesa_disk.proofs.Others.{adds_only, adds_there, loses_only, loses_first_only}
use Rattle.mesa_journal.specs.Journal.{Closed}
use Rattle.mesa_journal.specs.Settled.{IsSettled, IsWithinAppend}
use Rattle.mesa_journal.specs.Areas.{other_of, IsBehind}
use Rattle.mesa_journal.proofs.Live.{other_stays, behind_more, behind_same}
use Rattle.mesa_commit.specs.Images.{ids_of, Has, Shows, Stands}
use Rattle.mesa_commit.specs.Turn.{told_files, Brings, OldOrNew}
use Rattle.mesa_commit.proofs.Files.{same_area, has_stays, has_changed, apart_others, there_has}

-- files among the others stay, and so does the journal
pub shows_stays : (P : ℕ → Type 0) (area : Area) (bodies : List (List ℕ)) (end : ℕ) (files : List (ℕ × List ℕ)) (i j : Image) → OthersStay P i j → AllByRecursion P (ids_of files) → Shows area bodies end files i → Shows area bodies end files j
shows_stays P area bodies end files i j stay others is = record {
  journal = subst (λ b. Closed b bodies end) (sym (same_area area P i j stay)) is.journal;
  behind = behind_same area bodies (area_of (other_of area) i) (area_of (other_of area) j) (same_area (other_of area) P i j stay) is.behind;
  has = has_stays P files i j stay others is.has;
}

-- an image with other files besides
pub shows_with : (area : Area) (bodies : List (List ℕ)) (end : ℕ) (files more : List (ℕ × List ℕ)) (i : Image) → (Has files i → Has more i) → Shows area bodies end files i → Shows area bodies end more i
shows_with area bodies end files more i there is = record { journal = is.journal; behind = is.behind; has = there is.has }

-- a change of the live area leaves the other behind
pub behind_changed : (area : Area) (bodies : List (List ℕ)) (step : List ℕ → List ℕ → Type 0) (i j : Image) → InArea area step i j → IsBehind area bodies (area_of (other_of area) i) → IsBehind area bodies (area_of (other_of area) j)
behind_changed area bodies step i j is behind = behind_same area bodies (area_of (other_of area) i) (area_of (other_of area) j) (other_stays area step i j is) behind

module _ (area : Area) (bodies : List (List ℕ)) (end : ℕ) where
  pub settled : (s : Story) (files : List (ℕ × List ℕ)) → Stands s area bodies end files → IsSettled s area bodies end
  settled s files is = record { read = λ i e. (is.read i e).journal; left = λ c l. (is.left c l).journal }

  -- an append, whatever it answers: the files before it are there in each image, and those after it in what a read gives
  pub appending : (start now : Story) (before after : List (ℕ × List ℕ)) (body : List ℕ) → Stands start area bodies end before → ((i : Image) → start.told ≡ Some i → Shows area bodies end after i)
      → Spans (IsWithinAppend start area bodies end body) start now → Spans (OldOrNew area bodies end before body after) start now
  appending start now before after body old new run = spans_weaken _ (IsWithinAppend start area bodies end body) start now run here
    where
      here : (c : Image) → IsWithinAppend start area bodies end body c → OldOrNew area bodies end before body after c
      here c (inl from) =
          let step = from.2 in
          let was = old.left from.0 from.1 in
          let bytes : area_of area c ≡ step.bytes = ap (area_of area) step.same ∙ area_of-with_area area step.bytes from.0 in
          inl (record {
            journal = subst (λ b. Closed b bodies end) (sym bytes) step.stepped;
            behind = behind_changed area bodies _ from.0 c step was.behind;
            has = has_changed before area _ from.0 c step was.has;
          })
      here c (inr from) =
          let step = from.2 in
          let was = old.read from.0 from.1 in
          let bytes : area_of area c ≡ step.bytes = ap (area_of area) step.same ∙ area_of-with_area area step.bytes from.0 in
          let behind : IsBehind area bodies (area_of (other_of area) c) = behind_changed area bodies _ from.0 c step was.behind in
          ⊎_elim (λ is. inl (record { journal = subst (λ b. Closed b bodies end) (sym bytes) is; behind = behind; has = has_changed before area _ from.0 c step was.has }))
          (λ is. inr (record { journal = subst (λ b. Closed b (bodies ++ body ∷ []) (end + length body + 5)) (sym bytes) is; behind = behind_more area bodies (body ∷ []) _ behind; has = has_changed after area _ from.0 c step (new from.0 from.1).has })) step.stepped

  -- an append that is done
  pub appended : (start now : Story) (files : List (ℕ × List ℕ)) (body : List ℕ) → ((i : Image) → start.told ≡ Some i → Shows area bodies end files i)
      → IsSettled now area (bodies ++ body ∷ []) (end + length body + 5) → Steps (AnyChange area) start.told now.told
      → ((c : Image) → now.may_leave c → now.told ≡ Some c)
      → Stands now area (bodies ++ body ∷ []) (end + length body + 5) files
  appended start now files body was done told durable = record { read = shown; left = λ c l. shown c (durable c l) }
    where
      shown : (j : Image) → now.told ≡ Some j → Shows area (bodies ++ body ∷ []) (end + length body + 5) files j
      shown j e =
          let from = told.back j e in
          record {
            journal = done.read j e;
            behind = behind_more area bodies (body ∷ []) _ (behind_changed area bodies _ from.0 j from.2 (was from.0 from.1).behind);
            has = has_changed files area _ from.0 j from.2 (was from.0 from.1).has;
          }

  -- removals of others, whatever they answer
  pub removing : (start now : Story) (files : List (ℕ × List ℕ)) (ids : List ℕ) → Stands start area bodies end files → AllByRecursion (IsNoneOf ids) (ids_of files)
      → Spans (After (LosesSome ids) start.may_leave) start now → Spans (Shows area bodies end files) start now
  removing start now files ids is apart run =
      spans_kept (Shows area bodies end files) (LosesSome ids) start now run is.left
      (λ i j step. shows_stays (IsNoneOf ids) area bodies end files i j (loses_only ids i j step) apart)

  -- and what a read gives then
  pub removed : (start now : Story) (files : List (ℕ × List ℕ)) (ids : List ℕ) → Stands start area bodies end files → AllByRecursion (IsNoneOf ids) (ids_of files)
      → Spans (After (LosesSome ids) start.may_leave) start now → Steps (LosesFirst ids) start.told now.told → Stands now area bodies end files
  removed start now files ids is apart run told = record {
    read = λ j e. let from = told.back j e in shows_stays (IsNoneOf ids) area bodies end files from.0 j (loses_first_only ids from.0 j from.2) apart (is.read from.0 from.1);
    left = (removing start now files ids is apart run).left;
  }

-- ---- a turn

module _ (area : Area) (bodies : List (List ℕ)) (end : ℕ) (body : List ℕ) (before brought after : List (ℕ × List ℕ)) (dropped : List ℕ) (made : List (ℕ × Option (List ℕ))) (told_is : made ≡ told_files brought) (s0 : Story) (turn : Brings s0 area bodies end before brought after dropped) where
  abbrev P : Image → Type 0
  P = OldOrNew area bodies end before body after

  others : AllByRecursion (λ id. HasOtherIds id made) (ids_of before)
  others = subst (λ files. AllByRecursion (λ id. HasOtherIds id files) (ids_of before)) (sym told_is) (apart_others brought (ids_of before) turn.apart)

  some_keep : (i j : Image) → AddsSome made i j → Shows area bodies end before i → Shows area bodies end before j
  some_keep i j run = shows_stays (λ id. HasOtherIds id made) area bodies end before i j (adds_only made i j run) others

  -- once the adoptions were tried
  pub tried_adopting : (s1 : Story) → Spans (After (AddsSome made) s0.may_leave) s0 s1 → Spans P s0 s1
  tried_adopting s1 run = spans_weaken P (Shows area bodies end before) s0 s1 (spans_kept (Shows area bodies end before) (AddsSome made) s0 s1 run turn.stands.left some_keep) (λ c is. inl is)

  -- once they are done
  module _ (s1 : Story) (adopting : Spans (After (AddsSome made) s0.may_leave) s0 s1) (distinct : HasDistinctIds made) (told : Steps (AddsAll made) s0.told s1.told) where
    old_after : (i j : Image) → AddsAll made i j → Shows area bodies end before i → Shows area bodies end before j
    old_after i j run = some_keep i j (each Adopts (May Adopts) (λ x k l is. inr is) made i j run)

    brings : (i j : Image) → AddsAll made i j → Shows area bodies end before i → Shows area bodies end after j
    brings i j run is =
        let old = old_after i j run is in
        shows_with area bodies end before after j (turn.there j (there_has brought j (subst (λ files. AreThere files j) told_is (adds_there made i j distinct run)))) old

    old : Stands s1 area bodies end before
    old = record {
      read = λ j e. let from = told.back j e in old_after from.0 j from.2 (turn.stands.read from.0 from.1);
      left = λ c l. let from = adopting.left c l in some_keep from.0 c from.2 (turn.stands.left from.0 from.1);
    }

    -- what a read gives has the files already; an image may not
    new : (i : Image) → s1.told ≡ Some i → Shows area bodies end after i
    new j e = let from = told.back j e in brings from.0 j from.2 (turn.stands.read from.0 from.1)

    -- once the append was tried
    pub tried_appending : (s2 : Story) → (IsSettled s1 area bodies end → Spans (IsWithinAppend s1 area bodies end body) s1 s2) → Spans P s0 s2
    tried_appending s2 run =
        let is = settled area bodies end s1 before old in
        spans_on P P s0 s1 s2 (tried_adopting s1 adopting) (appending area bodies end s1 s2 before after body old new (run is)) (λ c p. p)

    -- once it is done
    module _ (s2 : Story) (run : IsSettled s1 area bodies end → Spans (IsWithinAppend s1 area bodies end body) s1 s2) (done : IsSettled s1 area bodies end → IsSettled s2 area (bodies ++ body ∷ []) (end + length body + 5)) (changed : Steps (AnyChange area) s1.told s2.told) (durable : (c : Image) → s2.may_leave c → s2.told ≡ Some c) where
      stands : Stands s2 area (bodies ++ body ∷ []) (end + length body + 5) after
      stands = let is = settled area bodies end s1 before old in appended area bodies end s1 s2 after body new (done is) changed durable

      -- once the removals were tried
      pub tried_removing : (s3 : Story) → Spans (After (LosesSome dropped) s2.may_leave) s2 s3 → Spans P s0 s3
      tried_removing s3 gone =
          spans_on P (Shows area (bodies ++ body ∷ []) (end + length body + 5) after) s0 s2 s3 (tried_appending s2 run) (removing area (bodies ++ body ∷ []) (end + length body + 5) s2 s3 after dropped stands turn.gone gone) (λ c is. inr is)

      -- and once all is done
      pub all_done : (s3 : Story) → Spans (After (LosesSome dropped) s2.may_leave) s2 s3 → Steps (LosesFirst dropped) s2.told s3.told → Stands s3 area (bodies ++ body ∷ []) (end + length body + 5) after
      all_done s3 gone told_gone = removed area (bodies ++ body ∷ []) (end + length body + 5) s2 s3 after dropped stands turn.gone gone told_gone
