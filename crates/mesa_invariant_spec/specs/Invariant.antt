-- The invariant: what a vault's books, disk and sink are to the history of its run.
use Rattle.std.specs.Prelude.{◌≡◌, ◌⊎◌, ℕ, ◌+◌, ◌≤◌, ◌<◌, List, [], ◌∷◌, ◌++◌, Bool, not, false, Option, None, Some, IsTrue, true}
use Rattle.std.specs.List.{AllByRecursion}
use Rattle.mesa_disk.specs.mesa_io.Causes.{last, Rose}
use Rattle.mesa_disk.specs.Image.{Image}
use Rattle.mesa_disk.specs.Story.{Story, Spans}
use Rattle.mesa_history_spec.specs.mesa_model.declared.commands.Script.{Script}
use Rattle.mesa_history_spec.specs.mesa_model.declared.entries.Entry.{Entry}
use Rattle.mesa_history_spec.specs.mesa_model.declared.replies.Reply.{Reply}
use Rattle.mesa_history_spec.specs.mesa_model.Entry.{IsShort}
use Rattle.mesa_history_spec.specs.Run.{State, Run, begins}
use Rattle.mesa_history_spec.specs.Replay.{told_by, runs}
use Rattle.mesa_history_spec.specs.Legal.{AllFit, fits_sink, wrote}
use Rattle.mesa_history_spec.specs.Found.{Kept, Found}
use Rattle.mesa_history_spec.specs.Counting.{count_in, is_disk_fault}
use Rattle.mesa_history_spec.specs.Refused.{some_refused}
use Rattle.mesa_invariant_spec.specs.Books.{Books, AreBooksOf}
use Rattle.mesa_invariant_spec.specs.Causes.{told_at}
use Rattle.mesa_invariant_spec.specs.Printing.{IsPrinted, IsPrintedButRows}

-- What a run sets out from: what an image stands for, the script, the state, and the disk's clock, both counts of the disk's faults together and the sink's bytes at its start.
pub record Outset : Type 1 where
  pub stands : Image → Kept → Type 0
  pub script : Script
  pub start : State
  pub since : ℕ
  pub counted : ℕ
  pub at_start : Option (List ℕ)

-- what stands after a history from a start
abbrev pub run_at : Script → State → List Entry → Run
run_at script start h = runs script (begins start) h

-- what stands after a history of a run
abbrev pub run_of : Outset → List Entry → Run
run_of o h = run_at o.script o.start h

-- no entry is later than the disk's clock
abbrev pub AllBy : List Entry → ℕ → Type 0
AllBy h clock = AllByRecursion (λ e. e.moment ≤ clock) h

-- the last entry, if there is one, has the clock's moment
abbrev pub IsAtClock : Option ℕ → ℕ → Type 0
IsAtClock None clock = Unit {0}
IsAtClock (Some moment) clock = moment ≡ clock

-- CRASH: while the clock is below its last value, each image that a crash since some moment of the run may have left is found.
abbrev pub AllFound : Outset → List Entry → Story → Type 0
AllFound o h story =
    story.moment < last → (t : ℕ) (c : Image) → o.since ≤ t → t ≤ story.moment → story.may_have_left t c → Found o.stands o.script (begins o.start) h t c

-- how many entries answer a fault of the disk
abbrev pub faults_in : Outset → List Entry → ℕ
faults_in o h = count_in is_disk_fault o.script (begins o.start) h

-- Faults aren't reused: while neither the clock nor a count stands at its last value, both counts together rose by at least one for each entry that answers a fault.
abbrev pub HasCounted : ℕ → Story → ℕ → Type 0
HasCounted counted story answered =
    story.moment < last → story.faults < last → story.read_faults < last → counted + answered ≤ story.faults + story.read_faults

-- The invariant: after a history the books are those of the state that Replay gives, and the history is legal so far; the last entry's moment is the disk's clock; what was printed, but for the rows of pages, and how many faults were answered, is what the history says, and on a sound store so is all that was printed and what a crash may have left, while the clock is below its last value; so is whether the sink has failed, and whether some reply was a refusal.
pub record HoldsInvariant (o : Outset) (sound : Bool) (books : Books) (story : Story) (held : Option (List ℕ)) (h : List Entry) (running refused : Bool) : Type 0 where
  pub state : AreBooksOf sound books (run_of o h).state
  pub legal : AllFit o.script (begins o.start) h
  pub short : AllByRecursion IsShort h
  pub by : AllBy h story.moment
  pub at : IsAtClock (run_of o h).moment story.moment
  pub begun : o.since ≤ story.moment
  pub sink : IsTrue (fits_sink (run_of o h).last (not running))
  pub told : refused ≡ some_refused o.script (begins o.start) h
  pub counts : HasCounted o.counted story (faults_in o h)
  pub shown : IsPrintedButRows o.script (begins o.start) h running o.at_start held
  pub printed : IsTrue sound → story.moment < last → IsPrinted o.script (begins o.start) h running o.at_start held
  pub found : IsTrue sound → AllFound o h story

-- ---- what a turn does to the disk

-- The counts of faults never fall; while the clock is below its last value, one rose where the turn answers a fault of the disk.
pub record Counts (old new : Story) (answers : Bool) : Type 0 where
  pub faults : old.faults ≤ new.faults
  pub reads : old.read_faults ≤ new.read_faults
  pub rose : new.moment < last → answers ≡ true → Rose old.faults new.faults ⊎ Rose old.read_faults new.read_faults

-- an image stands for the one or for the other
abbrev pub StandsForEither : (Image → Kept → Type 0) → Kept → Kept → Image → Type 0
StandsForEither stands old new image = stands image old ⊎ stands image new

-- each image that a crash now may leave stands for this
abbrev pub AllStand : (Image → Kept → Type 0) → Story → Kept → Type 0
AllStand stands story kept = (c : Image) → story.may_leave c → stands c kept

-- What a disk's laws say of two points of a run: below its last value the clock has no other moment since now, and what a crash since a moment may have left, one since an earlier moment may have left.
pub record HasLaws (old new : Story) : Type 0 where
  pub only_old : (c : Image) → old.moment < last → old.may_have_left old.moment c → old.may_leave c
  pub only_new : (c : Image) → new.moment < last → new.may_have_left new.moment c → new.may_leave c
  pub earlier : (s t : ℕ) (c : Image) → s ≤ t → new.may_have_left t c → new.may_have_left s c

-- A turn's device work took the disk on: its clock rose.
pub record Passes (old new : Story) : Type 0 where
  pub rose : Rose old.moment new.moment
  pub later : old.moment ≤ new.moment
  pub laws : HasLaws old new

-- What the device work of a turn leaves: where each image stood for what was kept, each image since stands for that or for what was to be kept.
abbrev pub Writes : (Image → Kept → Type 0) → Story → Story → Kept → Kept → Type 0
Writes stands old new before after = new.moment < last → AllStand stands old before → Spans (StandsForEither stands before after) old new

-- ---- one entry more

-- The invariant is kept with an entry that wrote nothing.
pub record KeepsInvariant (o : Outset) (sound : Bool) (books : Books) (story : Story) (held : Option (List ℕ)) (h : List Entry) (e : Entry) (running refused : Bool) : Type 0 where
  pub invariant : HoldsInvariant o sound books story held (h ++ e ∷ []) running refused
  pub silent : wrote (told_by o.script (run_of o h) e) ≡ false

-- The invariant is kept with an entry that wrote, and tells this reply.
pub record KeepsInvariantTelling (o : Outset) (sound : Bool) (books : Books) (story : Story) (held : Option (List ℕ)) (h : List Entry) (e : Entry) (running refused : Bool) (r : Reply) : Type 0 where
  pub invariant : HoldsInvariant o sound books story held (h ++ e ∷ []) running refused
  pub tells : told_by o.script (run_of o h) e ≡ Some (told_at (run_of o h).position r)
