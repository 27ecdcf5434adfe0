-- Pinned files, of which blocks were read ahead.
use Rattle.std.proofs.Common.{◌≡◌, ℕ, zero, suc, ◌<◌, List, [], ◌∷◌, length, get_or, set, refl, sym, ◌∙◌, ap, subst, arith}
use Rattle.std.specs.Prelude.{Option, Result, Some, slice_get}
use Rattle.std.specs.List.{AllByRecursion}
use Rattle.std.proofs.Math.ListN.{get_or-map}
use Rattle.std.proofs.lemmas.List.{length-map, map-set}
use Rattle.mesa_open_files.specs.mesa_io.Causes.{HasFaultCause}
use Rattle.mesa_delta.specs.Reading.{index_of}
use Rattle.mesa_delta.specs.declared.error.FileError.{FileError}
use Rattle.mesa_delta.specs.declared.error.FileError.TheVariants.{Read}
use Rattle.mesa_delta.specs.declared.input.Input.{Input}
use Rattle.mesa_scan.specs.Cursors.{IsSameInput, reader_in}
use Rattle.mesa_scan.specs.Moving.{moved_to, told_in}
use Rattle.mesa_merge.specs.Faults.{HaveFaultCause, faults_of}
use Rattle.mesa_merge.specs.Inputs.{Known, knowns_of, tolds_of}
use Rattle.mesa_merge.proofs.Causing.{cause_kept}
use Rattle.mesa_merge.proofs.Inputs.{SameEnd, cause_at, faults_same}
use Rattle.mesa_open_files.specs.declared.querying.PinnedInput.{PinnedInput}
use Rattle.mesa_group_blocks.specs.Moved.{AreMoved, IsMoved, inputs_in}

-- ---- the file at a place

pub input_here : {R : Type 0} (files : List (PinnedInput R)) (n : ℕ) (d : PinnedInput R) → d ≡ get_or files n d → get_or (inputs_in files) n d.input ≡ d.input
input_here {R = R} files n d is = get_or-map (λ (file : PinnedInput R). file.input) files n d ∙ ap (λ (file : PinnedInput R). file.input) (sym is)

pub input_within : {R : Type 0} (files : List (PinnedInput R)) (n : ℕ) → n < length files → n < length (inputs_in files)
input_within {R = R} files n lt = omega (arith, lt, length-map files (λ (file : PinnedInput R). file.input))

pub all_at : {X : Type 0} (P : X → Type 0) (xs : List X) (n : ℕ) (x : X) → AllByRecursion P xs → n < length xs → x ≡ get_or xs n x → P x
all_at P [] n x h lt is = absurd (omega (arith, lt))
all_at {X = X} P (y ∷ xs) zero x h lt is = subst P (sym is) h.0
all_at P (y ∷ xs) (suc n) x h lt is = all_at P xs n x h.1 (omega (arith, lt)) is

-- ---- files of which blocks were read ahead

pub moved_same : {R : Type 0} (bytes : R → Option (List ℕ)) (size : R → ℕ) (old new : PinnedInput R) → IsMoved bytes size old new → IsSameInput bytes old.input new.input
moved_same {R = R} bytes size old new m = record {
  index = ap (λ (file : PinnedInput R). index_of file.input.reader) m.file;
  evolving = ap (λ (file : PinnedInput R). file.input.evolving) m.file;
  epoch = ap (λ (file : PinnedInput R). file.input.epoch) m.file;
  told = m.told;
}

moved_twice : {R : Type 0} (bytes : R → Option (List ℕ)) (size : R → ℕ) (a b c : PinnedInput R) → IsMoved bytes size a b → IsMoved bytes size b c → IsMoved bytes size a c
moved_twice {R = R} bytes size a b c p q = record {
  file = q.file ∙ ap (λ (file : PinnedInput R). record file { input = moved_to (reader_in c.input) file.input }) p.file;
  told = q.told ∙ p.told;
  size = q.size ∙ p.size;
}

pub moved_none : {R : Type 0} (bytes : R → Option (List ℕ)) (size : R → ℕ) (files : List (PinnedInput R)) → AreMoved bytes size files files
moved_none bytes size [] = tt
moved_none bytes size (file ∷ files) = (record { file = refl; told = refl; size = refl }, moved_none bytes size files)

pub moved_further : {R : Type 0} (bytes : R → Option (List ℕ)) (size : R → ℕ) (first between last : List (PinnedInput R)) → AreMoved bytes size first between → AreMoved bytes size between last → AreMoved bytes size first last
moved_further bytes size [] [] last p q = q
moved_further bytes size [] (b ∷ between) last p q = absurd p
moved_further bytes size (a ∷ first) [] last p q = absurd p
moved_further bytes size (a ∷ first) (b ∷ between) [] p q = absurd q
moved_further bytes size (a ∷ first) (b ∷ between) (c ∷ last) p q = (moved_twice bytes size a b c p.0 q.0, moved_further bytes size first between last p.1 q.1)

pub moved_set : {R : Type 0} (bytes : R → Option (List ℕ)) (size : R → ℕ) (files : List (PinnedInput R)) (n : ℕ) (x d : PinnedInput R) → n < length files → d ≡ get_or files n d → IsMoved bytes size d x → AreMoved bytes size files (set files n x)
moved_set bytes size [] n x d lt is m = absurd (omega (arith, lt))
moved_set {R = R} bytes size (file ∷ files) zero x d lt is m = (subst (λ (f : PinnedInput R). IsMoved bytes size f x) is m, moved_none bytes size files)
moved_set bytes size (file ∷ files) (suc n) x d lt is m = (record { file = refl; told = refl; size = refl }, moved_set bytes size files n x d (omega (arith, lt)) is m)

pub moved_known : {R : Type 0} (bytes : R → Option (List ℕ)) (size : R → ℕ) (old new : List (PinnedInput R)) → AreMoved bytes size old new → knowns_of bytes (inputs_in new) ≡ knowns_of bytes (inputs_in old)
moved_known bytes size [] [] m = refl
moved_known bytes size [] (y ∷ new) m = absurd m
moved_known bytes size (file ∷ old) [] m = absurd m
moved_known bytes size (file ∷ old) (y ∷ new) m =
    let same = moved_same bytes size file y m.0 in
    let rest = moved_known bytes size old new m.1 in
    λ k. record { file = same.index k; table = (same.evolving k).value; epoch = same.epoch k; told = same.told k } ∷ rest k

-- ---- a file that was read

pub all_set : {X : Type 0} (P : X → Type 0) (xs : List X) (n : ℕ) (x : X) → AllByRecursion P xs → P x → AllByRecursion P (set xs n x)
all_set P [] n x h one = tt
all_set P (y ∷ xs) zero x h one = (one, h.1)
all_set P (y ∷ xs) (suc n) x h one = (h.0, all_set P xs n x h.1 one)

pub file_faults : {R : Type 0} (faults : R → ℕ) (files : List (PinnedInput R)) (n : ℕ) (x d : PinnedInput R) → n < length files → d ≡ get_or files n d → faults (reader_in x.input) ≡ faults (reader_in d.input)
    → faults_of faults (inputs_in (set files n x)) ≡ faults_of faults (inputs_in files)
file_faults {R = R} faults files n x d lt is same =
    ap (faults_of faults) (map-set (λ (file : PinnedInput R). file.input) files n x)
    ∙ faults_same faults (inputs_in files) n x.input d.input (input_within files n lt) (same ∙ ap (λ (i : Input R). faults (reader_in i)) (sym (input_here files n d is)))

-- the cause at one file is the cause at all
pub file_cause : {R T U : Type 0} (faults : R → ℕ) (start files : List (PinnedInput R)) (n : ℕ) (x d : PinnedInput R) (r : Result T FileError) (q : Result U FileError) → n < length files → d ≡ get_or files n d
    → faults_of faults (inputs_in files) ≡ faults_of faults (inputs_in start) → HasFaultCause (λ e. e ≡ Read) (faults (reader_in d.input)) (faults (reader_in x.input)) r → SameEnd r q
    → HaveFaultCause (λ e. e ≡ Read) (faults_of faults (inputs_in start)) (faults_of faults (inputs_in (set files n x))) q
file_cause {R = R} faults start files n x d r q lt is stay cause same =
    let here : HasFaultCause (λ e. e ≡ Read) (faults (reader_in (get_or (inputs_in files) n d.input))) (faults (reader_in x.input)) r =
    subst (λ (i : Input R). HasFaultCause (λ e. e ≡ Read) (faults (reader_in i)) (faults (reader_in x.input)) r) (sym (input_here files n d is)) cause in
    cause_kept q (faults_of faults (inputs_in files)) (faults_of faults (inputs_in start)) (faults_of faults (set (inputs_in files) n x.input)) (faults_of faults (inputs_in (set files n x))) stay
    (ap (faults_of faults) (sym (map-set (λ (file : PinnedInput R). file.input) files n x)))
    (cause_at faults (inputs_in files) n x.input d.input r q (input_within files n lt) here same)

-- ---- what waits of them

told_there : {R : Type 0} (bytes : R → Option (List ℕ)) (files : List (PinnedInput R)) (n : ℕ) (d : PinnedInput R) → n < length files → d ≡ get_or files n d → slice_get (tolds_of (knowns_of bytes (inputs_in files))) n ≡ Some (told_in bytes d.input)
told_there bytes [] n d lt is = absurd (omega (arith, lt))
told_there {R = R} bytes (file ∷ files) zero d lt is = ap (λ (one : PinnedInput R). Some (told_in bytes one.input)) (sym is)
told_there bytes (file ∷ files) (suc n) d lt is = told_there bytes files n d (omega (arith, lt)) is

-- what waits of the file at a place
pub there_of_file : {R : Type 0} (bytes : R → Option (List ℕ)) (start now : List (PinnedInput R)) (n : ℕ) (d : PinnedInput R) → knowns_of bytes (inputs_in now) ≡ knowns_of bytes (inputs_in start) → n < length now → d ≡ get_or now n d
    → slice_get (tolds_of (knowns_of bytes (inputs_in start))) n ≡ Some (told_in bytes d.input)
there_of_file bytes start now n d known lt is = ap (λ (ks : List Known). slice_get (tolds_of ks) n) (sym known) ∙ told_there bytes now n d lt is

-- ---- errors of a file

pub length_knowns : {R : Type 0} (bytes : R → Option (List ℕ)) (files : List (PinnedInput R)) → length (knowns_of bytes (inputs_in files)) ≡ length files
length_knowns bytes [] = refl
length_knowns bytes (file ∷ files) = ap suc (length_knowns bytes files)
