-- What a disk counts when readers are given back, and what is answered then.
use Rattle.std.proofs.Common.{◌≡◌, ℕ, ◌<◌, List, [], ◌∷◌, false, refl, ◌∙◌, subst, arith, inl, inr}
use Rattle.std.specs.Prelude.{Option, None, Result, Ok, Err, IfOk, IfErr}
use Rattle.std.specs.List.{AllByRecursion}
use Rattle.mesa_disk.specs.mesa_io.Causes.{Rose}
use Rattle.mesa_examine.specs.mesa_file.declared.damage.Damage.{Damage}
use Rattle.mesa_disk.specs.Story.{Story}
use Rattle.mesa_examine.specs.mesa_delta.declared.error.FileError.{FileError}
use Rattle.mesa_examine.specs.mesa_delta.declared.error.FileError.TheVariants.{Damaged, Memory, Read}
use Rattle.mesa_examine.specs.mesa_delta.declared.input.Input.{Input}
use Rattle.mesa_examine.specs.mesa_scan.Cursors.{reader_in}
use Rattle.mesa_merge.specs.Faults.{HaveFaultCause, SomeRose, faults_of}
use Rattle.mesa_examine.specs.mesa_open_files.GivingBack.{GivesBack}
use Rattle.mesa_examine.specs.mesa_open_files.Opening.{Counted}
use Rattle.mesa_examine.specs.Examined.{is_read_failure}
use Rattle.mesa_compare.specs.Compared.{answer_of}

counted_quiet : (a b : Story) → b.faults ≡ a.faults → b.read_faults ≡ a.read_faults → Counted a b false
counted_quiet a b same none = record { faults = omega (arith, same); read_faults = omega (arith, none); both = λ low lower. omega (arith, same, none); quiet = λ no. (same, none) }

module _ {R : Type 0} (faults : R → ℕ) where
  -- no reader has failed
  abbrev pub AreFresh : List (Input R) → Type 0
  AreFresh inputs = AllByRecursion (λ (i : Input R). faults (reader_in i) ≡ 0) inputs

  -- ---- readers given back

  later_all : (Q S : Type 0) (inputs : List (Input R)) → (Q → S) → AllByRecursion (λ (i : Input R). 0 < faults (reader_in i) → Q) inputs → AllByRecursion (λ (i : Input R). 0 < faults (reader_in i) → S) inputs
  later_all Q S [] f all = tt
  later_all Q S (i ∷ inputs) f all = (λ failed. f (all.0 failed), later_all Q S inputs f all.1)

  -- one behind others
  pub one_after : (i : Input R) (inputs : List (Input R)) (a b d : Story) → GivesBack faults inputs a b → GivesBack faults (i ∷ []) b d → GivesBack faults (i ∷ inputs) a d
  one_after i inputs a b d one two = record {
    calls = two.calls ∙ one.calls;
    later = omega (arith, one.later, two.later);
    counted = (
      λ failed. (let rose : Rose b.read_faults d.read_faults = two.counted.0 failed in omega (arith, one.later, rose)),
      later_all (Rose a.read_faults b.read_faults) (Rose a.read_faults d.read_faults) inputs (λ (rose : Rose a.read_faults b.read_faults). omega (arith, rose, two.later)) one.counted,
    );
    quiet = λ none. two.quiet (none.0, tt) ∙ one.quiet none.1;
  }

  -- the same ones
  pub same_given : (inputs others : List (Input R)) (a b : Story) → inputs ≡ others → GivesBack faults inputs a b → GivesBack faults others a b
  same_given inputs others a b same back = subst (λ (is : List (Input R)). GivesBack faults is a b) same back

  pub same_fresh : (inputs others : List (Input R)) → inputs ≡ others → AreFresh inputs → AreFresh others
  same_fresh inputs others same fresh = subst (λ (is : List (Input R)). AreFresh is) same fresh

  -- ---- what they count

  still_fresh : (before now : List (Input R)) → faults_of faults now ≡ faults_of faults before → AreFresh before → AreFresh now
  still_fresh before [] same fresh = tt
  still_fresh [] (i ∷ now) same fresh = absurd cc
  still_fresh (b ∷ before) (i ∷ now) same fresh =
      let one : faults (reader_in i) ≡ faults (reader_in b) = cc in
      let rest : faults_of faults now ≡ faults_of faults before = cc in
      (one ∙ fresh.0, still_fresh before now rest fresh.1)

  first_fault : (b n : ℕ) → b ≡ 0 → Rose b n → 0 < n
  first_fault b n none rose = omega (arith, none, rose)

  some_failed : (Q : Type 0) (before now : List (Input R)) → AreFresh before → SomeRose (faults_of faults before) (faults_of faults now) → AllByRecursion (λ (i : Input R). 0 < faults (reader_in i) → Q) now → Q
  some_failed Q [] now fresh rose all = absurd rose
  some_failed Q (b ∷ before) [] fresh rose all = absurd rose
  some_failed Q (b ∷ before) (i ∷ now) fresh (inl rose) all = all.0 (first_fault (faults (reader_in b)) (faults (reader_in i)) fresh.0 rose)
  some_failed Q (b ∷ before) (i ∷ now) fresh (inr rose) all = some_failed Q before now fresh.1 rose all.1

  -- A fault of a reader is told by the disk's count once all are given back.
  pub counted_by : {T : Type 0} (r : Result (Option T) FileError) (before now : List (Input R)) (a b : Story) → HaveFaultCause (λ e. e ≡ Read) (faults_of faults before) (faults_of faults now) r → AreFresh before → GivesBack faults now a b
      → Counted a b (is_read_failure (answer_of r))
  counted_by (Ok o) before now a b cause fresh back = counted_quiet a b back.calls (back.quiet (still_fresh before now cause.quiet fresh))
  counted_by (Err Read) before now a b cause fresh back =
      let rose : Rose a.read_faults b.read_faults = some_failed (Rose a.read_faults b.read_faults) before now fresh (cause.failed refl) back.counted in
      record { faults = omega (arith, back.calls); read_faults = back.later; both = λ low lower. omega (arith, rose, lower, back.calls); quiet = λ no. absurd cc }
  counted_by (Err (Damaged d)) before now a b cause fresh back = counted_quiet a b back.calls (back.quiet (still_fresh before now (cause.other (λ e. cc)) fresh))
  counted_by (Err Memory) before now a b cause fresh back = counted_quiet a b back.calls (back.quiet (still_fresh before now (cause.other (λ e. cc)) fresh))

-- ---- answers

-- A difference that is found is answered; and none where the files aren't the recorded ones.
pub answered : {T : Type 0} (r : Result (Option T) FileError) (D P : Option T → Type 0) (N : FileError → Type 0) → IfOk r D → IfErr r N → ((o : Option T) → D o → P o) → ((d : Damage) → N (Damaged d) → P None) → IfOk (answer_of r) P
answered (Ok o) D P N found never f g = f o found
answered (Err Read) D P N found never f g = tt
answered (Err (Damaged d)) D P N found never f g = g d never
answered (Err Memory) D P N found never f g = tt
