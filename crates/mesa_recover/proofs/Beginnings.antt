-- A run that begins.
use Rattle.std.proofs.Common.{◌≡◌, inl, inr, ⊎_elim, ℕ, ◌+◌, ◌-◌, ◌*◌, ◌/◌, ◌^◌, ◌<◌, ◌≤◌, List, [], ◌∷◌, Option, Some, None, Bool, true, false, ◌&&◌, ◌==◌, nat_le, cond, Result, Ok, Err, refl, sym, ◌∙◌, ap, subst, arith}
use Rattle.std.proofs.lemmas.Bool.Decides.{nat_tests}
use Rattle.std.proofs.lemmas.List.Sums.{sum_by-cons}
use Rattle.mesa_store.specs.mesa_io.Causes.{last}
use Rattle.mesa_store.specs.mesa_key.Spelling.{AreBytes}
use Rattle.mesa_disk.specs.Image.{Image, file_of}
use Rattle.mesa_disk.specs.Story.{Story, Spans, Unmoved}
use Rattle.mesa_disk.specs.declared.area.Area.{Area}
use Rattle.mesa_disk.proofs.Run.{spans_on}
use Rattle.mesa_journal.proofs.Live.{one_live, same_live}
use Rattle.mesa_store.specs.mesa_commit.Holding.{Among}
use Rattle.mesa_store.specs.mesa_commit.Filed.{AreFresh, AreNamedOrWait, FilesAdopted}
use Rattle.mesa_store.proofs.mesa_commit.Filing.{filed_first}
use Rattle.mesa_record.specs.Reading.{record_at}
use Rattle.mesa_store_spec.specs.Catalog.{Catalog, applied}
use Rattle.mesa_store_spec.specs.Fitting.{fits, max_runs, live_files}
use Rattle.mesa_store_spec.specs.Journaled.{catalog}
use Rattle.mesa_store_spec.proofs.Wholes.{catalog_whole}
use Rattle.std.specs.List.{AllByRecursion}
use Rattle.mesa_store_spec.specs.Contents.{Rows, kept_of}
use Rattle.mesa_store.specs.mesa_commit.Images.{Has}
use Rattle.mesa_store_spec.specs.Sound.{HaveSoundRows, StandsFor, wants}
use Rattle.mesa_store_spec.specs.Held.{IsHeld, IsStep, StandsForEither}
use Rattle.mesa_store_spec.specs.Ids.{HasOwnIds, named, times}
use Rattle.mesa_store.specs.Store.{IsFound, Writes}
use Rattle.mesa_recover.specs.declared.error.OpenError.{OpenError}
use Rattle.mesa_recover.specs.declared.error.OpenError.TheVariants as open_error
use Rattle.mesa_recover.specs.Checking.{Counts}
use Rattle.mesa_recover.specs.Strays.{AreStrays}
use Rattle.mesa_recover.proofs.Unnamed.{strays_unnamed}
use Rattle.mesa_recover.specs.Opening.{BeginsRun, IsOpenedAs, IsSoundStart, Keeps, first_id, run_record}

-- ---- the record of a run

two_true : (a b : Bool) → a ≡ true → b ≡ true → (a && b) ≡ true
two_true true b e f = f
two_true false b e f = absurd (let g : false ≡ true = e in cc)

pub fits_run : (c : Catalog) → c.run < 2 ^ 24 - 1 → fits c (run_record (c.run + 1)) ≡ true
unfolding fits
fits_run c few =
    let same : (c.run + 1 == c.run + 1) ≡ true = grind (arith, nat_tests) in
    let low : nat_le (c.run + 1) max_runs ≡ true = grind (arith, nat_tests) in
    two_true ((c.run + 1 == c.run + 1) && nat_le (c.run + 1) max_runs) true (two_true (c.run + 1 == c.run + 1) (nat_le (c.run + 1) max_runs) same low) refl

-- the last run of a store's is at most the greatest
pub runs_few : (area : Area) (bodies : List (List ℕ)) (c : Catalog) → AllByRecursion AreBytes bodies → catalog area bodies ≡ Some c → c.run ≤ 2 ^ 24 - 1
runs_few area bodies c bytes is = (catalog_whole area bodies c bytes is).counted.run

pub run_step : (rows : Rows) (c : Catalog) (number : ℕ) (body : List ℕ) → AreBytes body → record_at body ≡ Ok (run_record number) → fits c (run_record number) ≡ true → HaveSoundRows rows c → IsStep rows c (run_record number) body
run_step rows c number body bytes reads fitting sound_rows = record { bytes = bytes; reads = reads; fitting = fitting; sound_rows = sound_rows; grows = λ i has new. has }

same_kept : (rows : Rows) (c : Catalog) (number : ℕ) → kept_of rows (applied c (run_record number)) ≡ kept_of rows c
unfolding kept_of
same_kept rows c number = refl

pub writes_run : (story : Story) (area : Area) (bodies : List (List ℕ)) (end : ℕ) (c : Catalog) (rows : Rows) (number : ℕ) (body : List ℕ) (made : List (ℕ × Option (List ℕ))) (strays : List ℕ) → IsHeld story area bodies end c rows → BeginsRun c number body strays → made ≡ []
    → Writes story area bodies end c rows (run_record number) body made strays
writes_run story area bodies end c rows number body made strays held begins none = record {
  held = held;
  step = run_step rows c number body begins.bytes begins.reads begins.fitting held.sound_rows;
  brings = none;
  unnamed = begins.unnamed;
}

-- ---- images

-- a call that moves no image
pub unmoved_spans : (P : Image → Type 0) (a b : Story) → Unmoved a b → ((x : Image) → a.may_leave x → P x) → Spans P a b
unmoved_spans P a b still had = record {
  run = record {
    later = omega (arith, still.moment);
    nothing_else = λ t x le left. inl ((still.may_have_left t x).0 left);
    keeps = λ t x le left. (still.may_have_left t x).1 left;
  };
  left = λ x left. had x ((still.may_leave x).0 left);
}

pub found_unmoved : (a b : Story) (area : Area) (bodies : List (List ℕ)) (end : ℕ) (c : Catalog) (rows : Rows) → Unmoved a b → IsFound a area bodies end c rows → IsFound b area bodies end c rows
found_unmoved a b area bodies end c rows still found = record {
  bytes = found.bytes;
  records = found.records;
  sound_rows = found.sound_rows;
  journal = λ i told. found.journal i (sym still.told ∙ told);
  files = λ i told. found.files i (sym still.told ∙ told);
  left = λ x left. found.left x ((still.may_leave x).0 left);
}

-- the store is as it was found, before the record and after it
pub begun_images : (rows : Rows) (c : Catalog) (number : ℕ) (s0 s1 s2 : Story) → Spans (λ x. StandsFor x (kept_of rows c)) s0 s1 → Spans (StandsForEither (kept_of rows c) (kept_of rows (applied c (run_record number)))) s1 s2 → Spans (λ x. StandsFor x (kept_of rows c)) s0 s2
begun_images rows c number s0 s1 s2 settled written =
    spans_on (λ x. StandsFor x (kept_of rows c)) (StandsForEither (kept_of rows c) (kept_of rows (applied c (run_record number)))) s0 s1 s2 settled written (λ x p. ⊎_elim (λ old. old) (λ new. subst (StandsFor x) (same_kept rows c number) new) p)

pub images_after : (rows : Rows) (c : Catalog) (s0 s1 s2 : Story) → Unmoved s0 s1 → ((x : Image) → s0.may_leave x → StandsFor x (kept_of rows c)) → Spans (λ x. StandsFor x (kept_of rows c)) s1 s2 → Spans (λ x. StandsFor x (kept_of rows c)) s0 s2
images_after rows c s0 s1 s2 still had spans =
    let P : Image → Type 0 = λ x. StandsFor x (kept_of rows c) in
    spans_on P P s0 s1 s2 (unmoved_spans P s0 s1 still had) spans (λ x p. p)

-- what is ready to be written
pub begins_run : (story : Story) (c : Catalog) (number : ℕ) (body : List ℕ) (strays : List ℕ) → AreBytes body → record_at body ≡ Ok (run_record number) → fits c (run_record number) ≡ true → AreStrays story c strays → BeginsRun c number body strays
begins_run story c number body strays bytes reads fitting are = record { bytes = bytes; reads = reads; fitting = fitting; unnamed = strays_unnamed story c strays are }

-- ---- a sound start

told_same : (told : Option Image) (i j : Image) → told ≡ Some i → told ≡ Some j → i ≡ j
told_same told i j a b = cc

some_same : (o : Option Catalog) (c d : Catalog) → o ≡ Some c → o ≡ Some d → c ≡ d
some_same o c d a b = cc

module _ (story : Story) (c : Catalog) (last_run : ℕ) (area : Area) (number : ℕ) (holds : Bool) (end since : ℕ) (o : IsOpenedAs story c last_run area number holds end since) where
  -- what a sound start has is what was read
  pub start_same : (d : Catalog) (rows : Rows) → IsSoundStart story d rows → d ≡ c
  start_same d rows start =
      let here = o.reads.journal start.image start.told in
      let live : area ≡ start.sound.live = one_live start.image area start.sound.live o.bodies start.bodies end start.sound.end here start.sound.journal in
      let bodies : o.bodies ≡ start.bodies = (same_live start.image area start.sound.live o.bodies start.bodies end start.sound.end here start.sound.journal).0 in
      some_same (catalog start.sound.live start.bodies) d c start.sound.records (subst (λ a. catalog a start.bodies ≡ Some c) live (subst (λ bs. catalog area bs ≡ Some c) bodies o.reads.records))

  pub found_start : (rows : Rows) → IsSoundStart story c rows → IsFound story area o.bodies end c rows
  found_start rows start = record {
    bytes = o.reads.bytes;
    records = o.reads.records;
    sound_rows = start.sound.rows_are;
    journal = o.reads.journal;
    files = λ i told. subst (λ (x : Image). Has (wants rows (live_files c)) x) (told_same story.told start.image i start.told told) start.sound.files;
    left = start.left;
  }

  -- so each image since then stands for it
  pub keeps_from : (now : Story) → ((s t : ℕ) (x : Image) → s ≤ t → now.may_have_left t x → now.may_have_left s x) → ((x : Image) → story.moment < last → story.may_have_left story.moment x → story.may_leave x)
      → ((rows : Rows) → IsFound story area o.bodies end c rows → Spans (λ x. StandsFor x (kept_of rows c)) story now) → Keeps story now
  keeps_from now earlier only images d rows start below t x from to left =
      let same : d ≡ c = start_same d rows start in
      let begun : IsSoundStart story c rows = subst (λ k. IsSoundStart story k rows) same start in
      let spans = images rows (found_start rows begun) in
      subst (λ k. StandsFor x (kept_of rows k)) (sym same)
      (⊎_elim (λ had. start_left begun (only x (omega (arith, from, to, below)) had)) (λ p. p) (spans.run.nothing_else story.moment x (omega arith) (earlier story.moment t x from left)))
    where
      start_left : IsSoundStart story c rows → story.may_leave x → StandsFor x (kept_of rows c)
      start_left begun l = begun.left x l

-- ---- files

counted_first : (b : Bool) (n : ℕ) → b ≡ true → 0 < cond b 1 0 + n
counted_first true n e = omega arith
counted_first false n e = absurd (let f : false ≡ true = e in cc)

counted : (id : ℕ) (ids : List ℕ) → Among id ids → 0 < times id ids
counted id [] is = absurd is
counted id (n ∷ ids) (inl same) =
    let e : (id == n) ≡ true = (let f : n ≡ id = same in grind (arith, nat_tests)) in
    subst (λ k. 0 < k) (sym (sum_by-cons (λ m. cond (id == m) 1 0) n ids)) (counted_first (id == n) (times id ids) e)
counted id (n ∷ ids) (inr is) =
    let more = counted id ids is in
    let next = sum_by-cons (λ m. cond (id == m) 1 0) n ids in
    omega (arith, more, next)

below_run : (id run : ℕ) → id / 2 ^ 40 ≤ run → id < (run + 1) * 2 ^ 40
below_run id run le = omega arith

pub files_adopted : (c : Catalog) (told : Option Image) → HasOwnIds c → AreNamedOrWait (named c) [] told → FilesAdopted 0 (first_id (c.run + 1)) (first_id (c.run + 1 + 1)) (named c) [] [] told
files_adopted c told own strays = record {
  filed = filed_first 0 (first_id (c.run + 1)) (named c) given;
  there = λ i is. tt;
  strays = strays;
  fresh = fresh;
}
  where
    given : (id : ℕ) → Among id (named c) → id < first_id (c.run + 1)
    given id is = below_run id c.run (own.runs id (counted id (named c) is))

    there : (o : Option (List ℕ)) → ((o ≡ None → ⊥) → ⊥) → o ≡ None
    there None never = refl
    there (Some b) never = absurd (never (λ is. (let f : Some b ≡ None = is in cc)))

    fresh : AreFresh (first_id (c.run + 1)) (first_id (c.run + 1 + 1)) told
    fresh i is id from past = there (file_of i id) (λ is_there. ⊎_elim (λ (one : Among id (named c)). (let lt = given id one in omega (arith, lt, from))) (λ none. none) (strays i is id is_there))

-- ---- counts

-- what is said of counts at an error is so whatever would have been answered
pub counts_err : {A B : Type 0} (old new : Story) (e : OpenError) → Counts {T = A} old new (Err e) → Counts {T = B} old new (Err e)
counts_err {A = A} {B = B} old new e counts = record {
  later = counts.later;
  fault = λ is. counts.fault (let e_is : e ≡ open_error.Fault = fault_of is in ap Err e_is);
  quiet = λ not. counts.quiet (λ is. not (let e_is : e ≡ open_error.Fault = fault_of is in ap Err e_is));
}
  where
    fault_of : {T : Type 0} → ◌≡◌ {A = Result T OpenError} (Err e) (Err open_error.Fault) → e ≡ open_error.Fault
    fault_of is = cc
