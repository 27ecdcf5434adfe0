-- Pinned files, one of which is read.
use Rattle.std.proofs.Common.{◌≡◌, ℕ, zero, suc, ◌+◌, ◌<◌, List, [], ◌∷◌, length, drop, get_or, set, refl, sym, ◌∙◌, ap, subst, arith, add-one, inl, inr}
use Rattle.std.specs.Prelude.{Err, IfSome, Option, Some, slice_get}
use Rattle.std.specs.List.{AllByRecursion}
use Rattle.std.proofs.Math.Seq.{map-set_same}
use Rattle.std.proofs.lemmas.List.{length-set, map-set}
use Rattle.mesa_group_blocks.specs.mesa_io.Causes.{HasFaultCause}
use Rattle.mesa_file.specs.declared.damage.Damage.{Damage}
use Rattle.mesa_group_blocks.specs.mesa_columns.declared.rows.Row.{Row}
use Rattle.mesa_group_blocks.specs.mesa_columns.Columns.{Columns}
use Rattle.mesa_group_blocks.specs.mesa_delta.Ahead.{AreAhead, AreOfFile, IsOfFile, Told, Untested}
use Rattle.mesa_group_blocks.specs.mesa_delta_format.Indexed.{Indexed}
use Rattle.mesa_group_blocks.specs.mesa_delta.Reading.{IsIndexed, index_of}
use Rattle.mesa_group_blocks.specs.mesa_delta.declared.error.FileError.{FileError}
use Rattle.mesa_group_blocks.specs.mesa_delta.declared.error.FileError.TheVariants.{Read}
use Rattle.mesa_group_blocks.specs.mesa_delta.declared.input.Input.{Input}
use Rattle.mesa_group_blocks.specs.mesa_scan.Cursors.{IsSameInput, reader_in}
use Rattle.mesa_group_blocks.specs.mesa_scan.Damaged.{IsDamaged}
use Rattle.mesa_group_blocks.specs.mesa_scan.Moving.{told_in}
use Rattle.mesa_group_blocks.proofs.mesa_scan.Moving.{stays_input}
use Rattle.mesa_group_blocks.proofs.mesa_scan.Onwards.{damaged_before}
use Rattle.mesa_group_blocks.specs.mesa_merge.Faults.{faults_of}
use Rattle.mesa_group_blocks.specs.mesa_merge.Inputs.{IsTold, Known, known_of, knowns_of, tolds_of}
use Rattle.mesa_group_blocks.proofs.mesa_merge.Inputs.{known_set}
use Rattle.mesa_group_blocks.specs.mesa_open_files.declared.querying.PinnedInput.{PinnedInput}
use Rattle.mesa_group_blocks.specs.mesa_open_files.Pins.{IsPinnedInput}
use Rattle.mesa_group_blocks.specs.mesa_view.declared.error.GatherError.{GatherError}
use Rattle.mesa_group_blocks.specs.mesa_view.declared.error.GatherError.TheVariants as gather
use Rattle.mesa_group_blocks.specs.Moved.{AreMoved, IsMoved, inputs_in}
use Rattle.mesa_query.specs.Files.{IsDamageIn, owns_in}
use Rattle.mesa_group_blocks.specs.Ungrouped.{rows_ungrouped}
use Rattle.mesa_group_blocks.proofs.Owned.{pinned_after}
use Rattle.mesa_group_blocks.proofs.Moved.{input_here, input_within, moved_same, moved_further, moved_known, all_set, file_faults, there_of_file, length_knowns}

-- ---- files of which blocks were read ahead

moved_own : {R : Type 0} (bytes : R → Option (List ℕ)) (size : R → ℕ) (old new : PinnedInput R) → IsMoved bytes size old new → new.own ≡ old.own
moved_own {R = R} bytes size old new m = ap (λ (file : PinnedInput R). file.own) m.file

pub moved_drop : {R : Type 0} (bytes : R → Option (List ℕ)) (size : R → ℕ) (n : ℕ) (old new : List (PinnedInput R)) → AreMoved bytes size old new → AreMoved bytes size (drop n old) (drop n new)
moved_drop bytes size zero old new m = m
moved_drop bytes size (suc n) [] [] m = tt
moved_drop bytes size (suc n) [] (y ∷ new) m = absurd m
moved_drop bytes size (suc n) (file ∷ old) [] m = absurd m
moved_drop bytes size (suc n) (file ∷ old) (y ∷ new) m = moved_drop bytes size n old new m.1

pub moved_count : {R : Type 0} (bytes : R → Option (List ℕ)) (size : R → ℕ) (old new : List (PinnedInput R)) → AreMoved bytes size old new → length new ≡ length old
moved_count bytes size [] [] m = refl
moved_count bytes size [] (y ∷ new) m = absurd m
moved_count bytes size (file ∷ old) [] m = absurd m
moved_count bytes size (file ∷ old) (y ∷ new) m = ap suc (moved_count bytes size old new m.1)

pub moved_owns : {R : Type 0} (bytes : R → Option (List ℕ)) (size : R → ℕ) (old new : List (PinnedInput R)) → AreMoved bytes size old new → owns_in new ≡ owns_in old
moved_owns bytes size [] [] m = refl
moved_owns bytes size [] (y ∷ new) m = absurd m
moved_owns bytes size (file ∷ old) [] m = absurd m
moved_owns bytes size (file ∷ old) (y ∷ new) m =
    let own = moved_own bytes size file y m.0 in
    let rest = moved_owns bytes size old new m.1 in
    λ k. own k ∷ rest k

pub moved_pinned : {R : Type 0} (bytes : R → Option (List ℕ)) (size : R → ℕ) (s : Columns) (view : Option ℕ) (old new : List (PinnedInput R)) → AreMoved bytes size old new → AllByRecursion (IsPinnedInput bytes s view) old → AllByRecursion (IsPinnedInput bytes s view) new
moved_pinned bytes size s view [] [] m all = tt
moved_pinned bytes size s view [] (y ∷ new) m all = absurd m
moved_pinned bytes size s view (file ∷ old) [] m all = absurd m
moved_pinned {R = R} bytes size s view (file ∷ old) (y ∷ new) m all = (
  pinned_after bytes s view file y (moved_same bytes size file y m.0) (moved_own bytes size file y m.0)
      (stays_input bytes file.input y.input (ap (λ (f : PinnedInput R). f.input) m.0.file) m.0.told all.0.input) all.0,
  moved_pinned bytes size s view old new m.1 all.1,
)

pub moved_here : {R : Type 0} (bytes : R → Option (List ℕ)) (size : R → ℕ) (n : ℕ) (start now : List (PinnedInput R)) (d e : PinnedInput R) → n < length start → length now ≡ length start → AreMoved bytes size (drop n start) (drop n now) → IsMoved bytes size (get_or start n d) (get_or now n e)
moved_here bytes size n [] now d e lt long m = absurd (omega (arith, lt))
moved_here bytes size n (s ∷ start) [] d e lt long m = absurd (omega (arith, long))
moved_here bytes size zero (s ∷ start) (y ∷ now) d e lt long m = m.0
moved_here bytes size (suc n) (s ∷ start) (y ∷ now) d e lt long m = moved_here bytes size n start now d e (omega (arith, lt)) (omega (arith, long)) m

pub left_more : {R : Type 0} (bytes : R → Option (List ℕ)) (size : R → ℕ) (n : ℕ) (start now : List (PinnedInput R)) (x : PinnedInput R) → length now ≡ length start → AreMoved bytes size (drop n start) (drop n now) → AreMoved bytes size (drop (suc n) start) (drop (suc n) (set now n x))
left_more bytes size n [] (y ∷ now) x long m = absurd (omega (arith, long))
left_more bytes size n (s ∷ start) [] x long m = absurd (omega (arith, long))
left_more bytes size zero [] [] x long m = tt
left_more bytes size zero (s ∷ start) (y ∷ now) x long m = m.1
left_more bytes size (suc n) [] [] x long m = tt
left_more bytes size (suc n) (s ∷ start) (y ∷ now) x long m = left_more bytes size n start now x (omega (arith, long)) m

-- a file's rows in the relation are what they were
pub moved_rows : {R : Type 0} (bytes : R → Option (List ℕ)) (size : R → ℕ) (view : Option ℕ) (old new : PinnedInput R) (rows : List Row) → IsMoved bytes size old new → rows_ungrouped view new rows ≡ rows_ungrouped view old rows
moved_rows {R = R} bytes size view old new rows m = ap (λ (file : PinnedInput R). rows_ungrouped view file rows) m.file

-- and so is what is told of it
pub moved_told : {R : Type 0} (bytes : R → Option (List ℕ)) (size : R → ℕ) (old new : PinnedInput R) (rows : List Row) → IsMoved bytes size old new → IsTold (known_of bytes old.input) rows → IsTold (known_of bytes new.input) rows
moved_told bytes size old new rows m told =
    let same = moved_same bytes size old new m in
    (told.0, same.told ∙ told.1, subst (λ (x : Indexed). IsIndexed x rows told.0) (sym same.index) told.2)

-- ---- a file that was read

pub own_set : {R : Type 0} (files : List (PinnedInput R)) (n : ℕ) (x d : PinnedInput R) → d ≡ get_or files n d → x.own ≡ d.own → owns_in (set files n x) ≡ owns_in files
own_set {R = R} files n x d is same = map-set_same (λ (file : PinnedInput R). file.own) files n x d (same ∙ ap (λ (file : PinnedInput R). file.own) is)

pub file_known : {R : Type 0} (bytes : R → Option (List ℕ)) (files : List (PinnedInput R)) (n : ℕ) (x d : PinnedInput R) → n < length files → d ≡ get_or files n d → IsSameInput bytes d.input x.input
    → knowns_of bytes (inputs_in (set files n x)) ≡ knowns_of bytes (inputs_in files)
file_known {R = R} bytes files n x d lt is same =
    ap (knowns_of bytes) (map-set (λ (file : PinnedInput R). file.input) files n x)
    ∙ known_set bytes (inputs_in files) n x.input d.input (input_within files n lt) (subst (λ (i : Input R). IsSameInput bytes i x.input) (sym (input_here files n d is)) same)

pub damage_before : {R : Type 0} (bytes : R → Option (List ℕ)) (size : R → ℕ) (d : Damage) (old new : PinnedInput R) → IsMoved bytes size old new → IsDamaged bytes size new.input d → IsDamaged bytes size old.input d
damage_before bytes size d old new m damaged = damaged_before bytes size old.input new.input d (moved_same bytes size old new m) m.size damaged

-- damage of one file, behind which no block was taken, is damage of the files
pub file_damage : {R : Type 0} (bytes : R → Option (List ℕ)) (size : R → ℕ) (d : Damage) (start files : List (PinnedInput R)) (n : ℕ) (x i : PinnedInput R) → n < length files → length files ≡ length start → i ≡ get_or files n i
    → AreMoved bytes size (drop n start) (drop n files) → IsDamaged bytes size i.input d → IsDamageIn bytes size d start (set files n x)
file_damage bytes size d start [] n x i lt long is left h = absurd (omega (arith, lt))
file_damage bytes size d [] (y ∷ files) n x i lt long is left h = absurd (omega (arith, long))
file_damage {R = R} bytes size d (file ∷ start) (y ∷ files) zero x i lt long is left h = inl (damage_before bytes size d file y left.0 (subst (λ (f : PinnedInput R). IsDamaged bytes size f.input d) is h), left.1)
file_damage bytes size d (file ∷ start) (y ∷ files) (suc n) x i lt long is left h = inr (file_damage bytes size d start files n x i (omega (arith, lt)) (omega (arith, long)) is left h)

-- ---- what waits of them

of_file : (files : List Told) (place : ℕ) (f : Told) (ahead : List Untested) → slice_get files place ≡ Some f → AreAhead files ahead → AreOfFile f.content f.index place ahead
of_file files place f [] at h = tt
of_file files place f (u ∷ ahead) at h = (λ is. subst (λ (o : Option Told). IfSome o (λ (f : Told). IsOfFile f.content f.index u)) (ap (slice_get files) is ∙ at) h.0, of_file files place f ahead at h.1)

-- The files before a place were read, and those from it on are as they were but for what was read ahead.
pub record Looked {R : Type 0} (bytes : R → Option (List ℕ)) (size_of fault_of : R → ℕ) (s : Columns) (view : Option ℕ) (start now : List (PinnedInput R)) (n : ℕ) (waiting : List Untested) : Type 0 where
  pub pinned : AllByRecursion (IsPinnedInput bytes s view) now
  pub known : knowns_of bytes (inputs_in now) ≡ knowns_of bytes (inputs_in start)
  pub own : owns_in now ≡ owns_in start
  pub faults : faults_of fault_of (inputs_in now) ≡ faults_of fault_of (inputs_in start)
  pub count : length now ≡ length start
  pub left : AreMoved bytes size_of (drop n start) (drop n now)
  pub ahead : AreAhead (tolds_of (knowns_of bytes (inputs_in start))) waiting

pub looked_on : {R : Type 0} (bytes : R → Option (List ℕ)) (size faults : R → ℕ) (s : Columns) (view : Option ℕ) (start now next : List (PinnedInput R)) (n : ℕ) (ahead after : List Untested) → Looked bytes size faults s view start now n ahead
    → AreMoved bytes size now next → faults_of faults (inputs_in next) ≡ faults_of faults (inputs_in now) → (AreAhead (tolds_of (knowns_of bytes (inputs_in now))) ahead → AreAhead (tolds_of (knowns_of bytes (inputs_in now))) after)
    → Looked bytes size faults s view start next n after
looked_on bytes size faults s view start now next n ahead after h moved stay waits = record {
  pinned = moved_pinned bytes size s view now next moved h.pinned;
  known = moved_known bytes size now next moved ∙ h.known;
  own = moved_owns bytes size now next moved ∙ h.own;
  faults = stay ∙ h.faults;
  count = moved_count bytes size now next moved ∙ h.count;
  left = moved_further bytes size (drop n start) (drop n now) (drop n next) h.left (moved_drop bytes size n now next moved);
  ahead = subst (λ (ks : List Known). AreAhead (tolds_of ks) after) h.known (waits (subst (λ (ks : List Known). AreAhead (tolds_of ks) ahead) (sym h.known) h.ahead));
}

pub own_ahead : {R : Type 0} (bytes : R → Option (List ℕ)) (start now : List (PinnedInput R)) (n : ℕ) (d : PinnedInput R) (ahead : List Untested) → knowns_of bytes (inputs_in now) ≡ knowns_of bytes (inputs_in start) → n < length now → d ≡ get_or now n d
    → AreAhead (tolds_of (knowns_of bytes (inputs_in start))) ahead → AreOfFile (bytes (reader_in d.input)) (index_of d.input.reader) n ahead
own_ahead bytes start now n d ahead known lt is h = of_file (tolds_of (knowns_of bytes (inputs_in start))) n (told_in bytes d.input) ahead (there_of_file bytes start now n d known lt is) h

-- ---- errors of a file

-- the cause of an error of a file, told as that error alone
pub file_fault : {T U : Type 0} (e : GatherError) (f : FileError) (before now : ℕ) → e ≡ gather.File f → HasFaultCause {T = U} (λ x. x ≡ gather.File Read) before now (Err e) → HasFaultCause {T = T} (λ x. x ≡ Read) before now (Err f)
file_fault e f before now is h = record {
  later = h.later;
  failed = λ read. h.failed (is ∙ ap gather.File read);
  quiet = tt;
  other = λ not. h.other (λ read. not (let same : gather.File f ≡ gather.File Read = sym is ∙ read in cc));
}

-- a sum is no fault
pub sum_quiet : {U : Type 0} (e : GatherError) (before now : ℕ) → e ≡ gather.Sum → HasFaultCause {T = U} (λ x. x ≡ gather.File Read) before now (Err e) → now ≡ before
sum_quiet e before now is h = h.other (λ read. cc)

-- files of which as much is known are as many
pub length_known : {R : Type 0} (bytes : R → Option (List ℕ)) (xs ys : List (PinnedInput R)) → knowns_of bytes (inputs_in xs) ≡ knowns_of bytes (inputs_in ys) → length xs ≡ length ys
length_known bytes xs ys same = sym (length_knowns bytes xs) ∙ ap length same ∙ length_knowns bytes ys

-- ---- one file more is read

pub looked_more : {R : Type 0} (bytes : R → Option (List ℕ)) (size faults : R → ℕ) (s : Columns) (view : Option ℕ) (start files : List (PinnedInput R)) (i : ℕ) (x file : PinnedInput R) (ahead after : List Untested) → Looked bytes size faults s view start files i ahead
    → i < length files → file ≡ get_or files i file → IsPinnedInput bytes s view x → IsSameInput bytes file.input x.input → x.own ≡ file.own → faults (reader_in x.input) ≡ faults (reader_in file.input)
    → ((all : List Told) → slice_get all i ≡ Some (told_in bytes file.input) → AreAhead all ahead → AreAhead all after) → Looked bytes size faults s view start (set files i x) (i + 1) after
looked_more bytes size faults s view start files i x file ahead after h lt is one same own stay waits = record {
  pinned = all_set (IsPinnedInput bytes s view) files i x h.pinned one;
  known = file_known bytes files i x file lt is same ∙ h.known;
  own = own_set files i x file is own ∙ h.own;
  faults = file_faults faults files i x file lt is stay ∙ h.faults;
  count = length-set files i x ∙ h.count;
  left = rw (add-one i) (left_more bytes size i start files x h.count h.left);
  ahead = waits (tolds_of (knowns_of bytes (inputs_in start))) (there_of_file bytes start files i file h.known lt is) h.ahead;
}
