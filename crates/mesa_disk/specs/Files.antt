-- The files that a run of calls adds or removes.
use Rattle.std.specs.Prelude.{◌≡◌, ◌≢◌, ℕ, List, [], ◌∷◌, map, take, Option, None, Some, IfSome}
use Rattle.std.specs.List.{AllByRecursion}
use Rattle.mesa_disk.specs.Image.{Image, file_of, Adopts, Loses, May}
use Rattle.mesa_disk.specs.declared.moving.Adoption.{Adoption}

-- each file's id, and its bytes where they are told
abbrev pub files_of : {M : Type 0} → (M → Option (List ℕ)) → List (Adoption M) → List (ℕ × Option (List ℕ))
files_of bytes adoptions = map (λ a. (a.id, bytes a.made)) adoptions

-- One step for each of these, in order.
abbrev pub InTurn : {A : Type 0} → (A → Image → Image → Type 0) → List A → Image → Image → Type 0
InTurn step [] old new = new ≡ old
InTurn step (x ∷ xs) old new = (mid : Image) × step x old mid × InTurn step xs mid new

-- One step for each of the first few of these, in order, and none for the rest.
abbrev pub InTurnFor : {A : Type 0} → (A → Image → Image → Type 0) → List A → Image → Image → Type 0
InTurnFor step xs old new = (n : ℕ) × InTurn step (take n xs) old new

-- All of these files are added whole.
abbrev pub AddsAll : List (ℕ × Option (List ℕ)) → Image → Image → Type 0
AddsAll = InTurn Adopts

-- The first few of them are added whole, and no other.
abbrev pub AddsFirst : List (ℕ × Option (List ℕ)) → Image → Image → Type 0
AddsFirst = InTurnFor Adopts

-- None, some or all of them are added whole.
abbrev pub AddsSome : List (ℕ × Option (List ℕ)) → Image → Image → Type 0
AddsSome = InTurn (May Adopts)

-- All of these files are gone.
abbrev pub LosesAll : List ℕ → Image → Image → Type 0
LosesAll = InTurn Loses

-- The first few of them are gone, and no other.
abbrev pub LosesFirst : List ℕ → Image → Image → Type 0
LosesFirst = InTurnFor Loses

-- None, some or all of them are gone.
abbrev pub LosesSome : List ℕ → Image → Image → Type 0
LosesSome = InTurn (May Loses)

-- None of these files is there.
abbrev pub AreAbsent : List (ℕ × Option (List ℕ)) → Image → Type 0
AreAbsent [] image = Unit {0}
AreAbsent (file ∷ files) image = (file_of image file.0 ≡ None) × AreAbsent files image

-- None of these files has this id.
abbrev pub HasOtherIds : ℕ → List (ℕ × Option (List ℕ)) → Type 0
HasOtherIds id [] = Unit {0}
HasOtherIds id (file ∷ files) = (file.0 ≢ id) × HasOtherIds id files

-- The ids of these files differ from each other.
abbrev pub HasDistinctIds : List (ℕ × Option (List ℕ)) → Type 0
HasDistinctIds [] = Unit {0}
HasDistinctIds (file ∷ files) = HasOtherIds file.0 files × HasDistinctIds files

-- The areas stay, and so does the file of each id that is one of those others.
pub record OthersStay (IsOther : ℕ → Type 0) (old new : Image) : Type 0 where
  pub zero : new.zero ≡ old.zero
  pub one : new.one ≡ old.one
  pub files : (id : ℕ) → IsOther id → file_of new id ≡ file_of old id

-- Each of these files is there, with its bytes where they are told.
abbrev pub AreThere : List (ℕ × Option (List ℕ)) → Image → Type 0
AreThere files image = AllByRecursion (λ file. (bytes : List ℕ) × (file_of image file.0 ≡ Some bytes) × IfSome file.1 (λ b. b ≡ bytes)) files

-- This id is none of these.
abbrev pub IsNoneOf : List ℕ → ℕ → Type 0
IsNoneOf ids id = AllByRecursion (λ other. other ≢ id) ids

-- None of these ids has a file.
abbrev pub AreGone : List ℕ → Image → Type 0
AreGone ids image = AllByRecursion (λ id. file_of image id ≡ None) ids
