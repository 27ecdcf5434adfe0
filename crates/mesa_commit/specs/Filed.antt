-- What is kept of the files of a disk while turns name, drop and remove them.
use Rattle.std.specs.Prelude.{◌≡◌, ◌⊎◌, ℕ, ◌+◌, ◌<◌, ◌≤◌, List, ◌++◌, map, Option, None, Some}
use Rattle.std.specs.List.{AllByRecursion}
use Rattle.mesa_disk.specs.Image.{Image, file_of}
use Rattle.mesa_disk.specs.Files.{AreGone}
use Rattle.mesa_disk.specs.Story.{Steps}
use Rattle.mesa_commit.specs.Images.{Has, ids_of as ids_in}
use Rattle.mesa_commit.specs.Turn.{MovesOnly, made_ids}
use Rattle.mesa_commit.specs.declared.trash.Hold.{Hold}
use Rattle.mesa_commit.specs.declared.trash.Dropped.{Dropped}
use Rattle.mesa_commit.specs.Holding.{Among, Held, IsHad, AreFiled, ids_of, freed, kept, holds_of, dropped_at}

-- No file of an id from the next one on, and before a last one, is there.
abbrev pub AreFresh : ℕ → ℕ → Option Image → Type 0
AreFresh next past told = (i : Image) → told ≡ Some i → (id : ℕ) → next ≤ id → id < past → file_of i id ≡ None

-- Each file that is there is named, or waits for its removal.
abbrev pub AreNamedOrWait : List ℕ → List ℕ → Option Image → Type 0
AreNamedOrWait named waits told = (i : Image) → told ≡ Some i → (id : ℕ) → (file_of i id ≡ None → ⊥) → Among id named ⊎ Among id waits

-- Each of these files was given an id from a next one on, before another.
abbrev pub AreGiven : ℕ → ℕ → List (ℕ × Option (List ℕ)) → Type 0
AreGiven next later made = AllByRecursion (λ (f : ℕ × Option (List ℕ)). (next ≤ f.0) × (f.0 < later)) made

-- a pin: its hold, and the files that were named in its turn
abbrev pub PinFiles : Type 0
PinFiles = Hold × List (ℕ × List ℕ)

abbrev pub held_in : PinFiles → Held
held_in p = (p.0, ids_in p.1)

-- FilesAdopted: what is filed agrees with what a read gives. Each pin's files are there with their bytes; each file that is there is named or waits; and the ids that this run may still give have no file.
pub record FilesAdopted (position next past : ℕ) (named : List ℕ) (trash : List Dropped) (pins : List PinFiles) (told : Option Image) : Type 0 where
  pub filed : AreFiled position next named trash (map held_in pins)
  pub there : (i : Image) → told ≡ Some i → AllByRecursion (λ (p : PinFiles). Has p.1 i) pins
  pub strays : AreNamedOrWait named (ids_of trash) told
  pub fresh : AreFresh next past told

-- What a turn names: files are made under new ids and are named after it, and those that it drops were named and are no more; each other one is named as before.
pub record Renames (named : List ℕ) (made : List (ℕ × Option (List ℕ))) (later gone : List ℕ) : Type 0 where
  pub fewer : (id : ℕ) → Among id later → Among id (named ++ made_ids made)
  pub were : (id : ℕ) → Among id gone → Among id named
  pub split : (id : ℕ) → Among id (named ++ made_ids made) → Among id later ⊎ Among id gone
  pub apart : (id : ℕ) → Among id gone → Among id later → ⊥

-- the files that wait once a turn at a position dropped more
abbrev pub waits_after : ℕ → List Dropped → List ℕ → List Dropped
waits_after position trash gone = trash ++ map (dropped_at position) gone

-- the holds of pins
abbrev pub pin_holds : List PinFiles → List Hold
pin_holds pins = holds_of (map held_in pins)

-- What the device work of a turn leaves of files, once it is done: those made are there, those that no pin holds are gone, and each other one is as before.
pub record AreMoved (made : List (ℕ × Option (List ℕ))) (removed : List ℕ) (old new : Option Image) : Type 0 where
  pub only : Steps (MovesOnly made removed) old new
  pub gone : (i : Image) → new ≡ Some i → AreGone removed i

-- A turn that names, drops and removes files keeps what is kept of them.
abbrev pub TurnsKeepFiles : Type 0
TurnsKeepFiles =
    (position next past : ℕ) (named : List ℕ) (trash : List Dropped) (pins : List PinFiles) (old new : Option Image) (made : List (ℕ × Option (List ℕ))) (later_id : ℕ) (later gone : List ℕ)
    → FilesAdopted position next past named trash pins old → AreGiven next later_id made → next ≤ later_id → Renames named made later gone → ((id : ℕ) → Among id (made_ids made) → Among id later)
    → AreMoved made (ids_of (freed (pin_holds pins) (waits_after position trash gone))) old new
    → FilesAdopted (position + 1) later_id past later (kept (pin_holds pins) (waits_after position trash gone)) pins new

-- No file that is freed was had by a pin, nor is it named.
abbrev pub FreedFilesAreUnheld : Type 0
FreedFilesAreUnheld =
    (position next : ℕ) (named : List ℕ) (trash : List Dropped) (pins : List Held) → AreFiled position next named trash pins
    → (id : ℕ) → Among id (ids_of (freed (holds_of pins) trash)) → AllByRecursion (λ (p : Held). Among id p.1 → ⊥) pins × (Among id named → ⊥)

-- Each file that still waits after a removal was had by a pin.
abbrev pub KeptFilesAreHad : Type 0
KeptFilesAreHad =
    (position next : ℕ) (named : List ℕ) (trash : List Dropped) (pins : List Held) → AreFiled position next named trash pins
    → (id : ℕ) → Among id (ids_of (kept (holds_of pins) trash)) → IsHad id pins
