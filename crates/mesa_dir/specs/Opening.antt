-- What is done while a folder is opened.
use Rattle.std.specs.Prelude.{◌≡◌, ◌⊎◌, ℕ, ◌+◌, true, List, length, Option, None, Some, codes}
use Rattle.std.specs.declared.io.ErrorKind.{ErrorKind}
use Rattle.std.specs.declared.io.ErrorKind.TheVariants.{AlreadyExists}
use Rattle.mesa_os.specs.Calls.{Call, IsOpened, Locked, MadeFolder, Measured, OpenedWithin, Read, Removed, Synced, WroteAt, with_call}
use Rattle.mesa_dir.specs.Paths.{IsNumbered, one_path_of, within, zero_path_of}

-- One call made the folder of this path, or found that it was there.
pub record IsFolderMade (path : List ℕ) (old new : Option (List Call)) : Type 0 where
  pub answer : Option ErrorKind
  pub there : (answer ≡ None) ⊎ (answer ≡ Some AlreadyExists)
  pub made : new ≡ with_call (MadeFolder path answer) old

-- All that was done with the current folder: it was opened, the folder of this path was made in it or found there, and then the names in it were synced.
pub record IsNameSynced (path : List ℕ) (told : Option (List Call)) : Type 0 where
  pub opened : Option (List Call)
  pub is_opened : IsOpened (codes ".") opened
  pub made : Option (List Call)
  pub is_made : IsFolderMade path opened made
  pub synced : told ≡ with_call (Synced true) made

-- The calls since those first: the bytes before this place were read piece by piece, and each piece was at once written again as it was read, where it was read.
pub data WrittenAgain (first : Option (List Call)) : ℕ → Option (List Call) → Type 0 where
  nothing : WrittenAgain first 0 first
  piece : (at : ℕ) (bytes : List ℕ) (told : Option (List Call)) → WrittenAgain first at told
      → WrittenAgain first (at + length bytes) (with_call (WroteAt at bytes true) (with_call (Read at bytes true) told))

-- A piece of so many bytes was read from this place on and written again as it was read.
pub record IsPiece (at count : ℕ) (old new : Option (List Call)) : Type 0 where
  pub bytes : List ℕ
  pub counted : length bytes ≡ count
  pub again : new ≡ with_call (WroteAt at bytes true) (with_call (Read at bytes true) old)

-- A file's bytes, of which there are so many, were all written again, and then synced; no other call was made since those first.
pub record IsSettled (first : Option (List Call)) (len : ℕ) (told : Option (List Call)) : Type 0 where
  pub before : Option (List Call)
  pub again : WrittenAgain (with_call (Measured len) first) len before
  pub synced : told ≡ with_call (Synced true) before

-- A draft's name.
abbrev pub IsDraftName : List ℕ → Type 0
IsDraftName = IsNumbered (codes ".draft")

-- The calls since those first took names away, each of them a draft's.
pub data DraftsRemoved (folder : List ℕ) (first : Option (List Call)) : Option (List Call) → Type 0 where
  none : DraftsRemoved folder first first
  more : (name : List ℕ) (answer : Option ErrorKind) (told : Option (List Call)) → IsDraftName name → DraftsRemoved folder first told
      → DraftsRemoved folder first (with_call (Removed (within folder name) answer) told)

-- The folder was opened; then the file of area 0 was opened and locked, then that of area 1 was opened.
abbrev pub areas_opened : List ℕ → Option (List Call) → Option (List Call)
areas_opened folder opened = with_call (OpenedWithin (one_path_of folder) true) (with_call (Locked true) (with_call (OpenedWithin (zero_path_of folder) true) opened))

-- A folder was opened, and the files of its areas; behind the lock drafts were removed, and nothing else was done with its names.
pub record NamesCleared (folder : List ℕ) (told : Option (List Call)) : Type 0 where
  pub opened : Option (List Call)
  pub is_opened : IsOpened folder opened
  pub removed : DraftsRemoved folder (areas_opened folder opened) told

-- Then its names were synced.
pub record NamesSettled (folder : List ℕ) (told : Option (List Call)) : Type 0 where
  pub before : Option (List Call)
  pub cleared : NamesCleared folder before
  pub synced : told ≡ with_call (Synced true) before

-- A file was opened and locked.
pub record IsAreaLocked (path : List ℕ) (told : Option (List Call)) : Type 0 where
  pub opened : Option (List Call)
  pub is_opened : IsOpened path opened
  pub locked : told ≡ with_call (Locked true) opened

-- All that was done with the file of area 0: it was locked before it was written, and all its bytes were written again and synced.
pub record ZeroSettled (folder : List ℕ) (len : ℕ) (told : Option (List Call)) : Type 0 where
  pub locked : Option (List Call)
  pub is_locked : IsAreaLocked (zero_path_of folder) locked
  pub settled : IsSettled locked len told

-- The same with that of area 1, which isn't locked.
pub record OneSettled (folder : List ℕ) (len : ℕ) (told : Option (List Call)) : Type 0 where
  pub opened : Option (List Call)
  pub is_opened : IsOpened (one_path_of folder) opened
  pub settled : IsSettled opened len told
