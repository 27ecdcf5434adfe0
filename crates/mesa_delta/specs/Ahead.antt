-- Blocks that were read ahead.
use Rattle.std.specs.Prelude.{◌≡◌, ℕ, ◌<◌, List, length, slice_get, IfSome, Option}
use Rattle.std.specs.List.{AllByRecursion}
use Rattle.mesa_delta.specs.Damages.{IsPiece}
use Rattle.mesa_delta_format.specs.Indexed.{Indexed}
use Rattle.mesa_delta_format.specs.Places.{entry_of}

-- What was read ahead: of which file, by its place among those that are read, the bytes of which block.
pub record Untested : Type 0 where
  pub file : ℕ
  pub block : ℕ
  pub bytes : List ℕ

-- It is a block of a file with this index, as it was read: no more is known of its bytes.
pub record IsOfFile (told : Option (List ℕ)) (x : Indexed) (u : Untested) : Type 0 where
  pub within : u.block < length x.entries
  pub piece : IsPiece told (entry_of x.entries u.block).offset (entry_of x.entries u.block).len u.bytes

-- All that was read ahead of the file of this place is.
abbrev pub AreOfFile : Option (List ℕ) → Indexed → ℕ → List Untested → Type 0
AreOfFile told x file ahead = AllByRecursion (λ (u : Untested). u.file ≡ file → IsOfFile told x u) ahead

-- What is known of a file that is read: its index, and its bytes where they are told.
pub record Told : Type 0 where
  pub index : Indexed
  pub content : Option (List ℕ)

-- Each block that was read ahead is of the file of its place, if there is one, among these.
abbrev pub AreAhead : List Told → List Untested → Type 0
AreAhead files ahead = AllByRecursion (λ (u : Untested). IfSome (slice_get files u.file) (λ (f : Told). IsOfFile f.content f.index u)) ahead
