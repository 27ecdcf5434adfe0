-- The calls of an open folder.
use Rattle.std.specs.Prelude.{◌≡◌, ◌⊎◌, ℕ, Bool, true, false, List, [], Option, None, Some}
use Rattle.mesa_disk.specs.declared.area.Area.{Area}
use Rattle.mesa_disk.specs.declared.area.Area.TheVariants.{Zero, One}
use Rattle.std.specs.declared.io.ErrorKind.{ErrorKind}
use Rattle.std.specs.declared.io.ErrorKind.TheVariants.{NotFound}
use Rattle.mesa_os.specs.Calls.{Call, Removed, Renamed, Synced, SyncedBytes, is_named, is_durable, is_trusted, with_call}
use Rattle.mesa_dir.specs.Opening.{IsNameSynced, NamesSettled, OneSettled, ZeroSettled}

-- The calls on the folder that has an open folder's name, on the open folder and the names in it, and on the files of its two areas; each the newest first, where they are told.
pub record Asked : Type 0 where
  pub above : Option (List Call)
  pub names : Option (List Call)
  pub zero : Option (List Call)
  pub one : Option (List Call)

-- Nothing is left that isn't on the device.
pub record AllSynced (all : Asked) : Type 0 where
  pub names : is_named all.names ≡ true
  pub zero : is_durable all.zero ≡ true
  pub one : is_durable all.one ≡ true

-- No sync ever failed.
pub record IsTrusted (all : Asked) : Type 0 where
  pub names : is_trusted all.names ≡ true
  pub zero : is_trusted all.zero ≡ true
  pub one : is_trusted all.one ≡ true

-- these calls
abbrev pub asked : Option (List Call) → Option (List Call) → Option (List Call) → Option (List Call) → Asked
asked above names zero one = record { above = above; names = names; zero = zero; one = one }

-- one call more on the folder's names
abbrev pub with_named : Call → Asked → Asked
with_named call all = asked all.above (with_call call all.names) all.zero all.one

-- one call more on an area's file
abbrev pub with_asked : Area → Call → Asked → Asked
with_asked Zero call all = asked all.above all.names (with_call call all.zero) all.one
with_asked One call all = asked all.above all.names all.zero (with_call call all.one)

-- No call was made on these but one at most, a sync.
abbrev pub SyncedAtMost : (Bool → Call) → Option (List Call) → Option (List Call) → Type 0
SyncedAtMost sync old new = (new ≡ old) ⊎ ((ok : Bool) × (new ≡ with_call (sync ok) old))

-- No call was made but syncs, one at most of the names and one of each area.
pub record OnlySynced (old new : Asked) : Type 0 where
  pub above : new.above ≡ old.above
  pub names : SyncedAtMost Synced old.names new.names
  pub zero : SyncedAtMost SyncedBytes old.zero new.zero
  pub one : SyncedAtMost SyncedBytes old.one new.one

-- the calls of a folder that isn't open: none
abbrev pub unasked : Asked
unasked = asked (Some []) (Some []) (Some []) (Some [])

-- A folder that was opened: the calls on its own name, on the names in it and on both areas, of which each has so many bytes.
pub record IsFound (folder : List ℕ) (zero_len one_len : ℕ) (all : Asked) : Type 0 where
  pub above : IsNameSynced folder all.above
  pub names : NamesSettled folder all.names
  pub zero : ZeroSettled folder zero_len all.zero
  pub one : OneSettled folder one_len all.one

-- A folder that was opened, or one that couldn't be.
abbrev pub IsFoundOrUnasked : List ℕ → ℕ → ℕ → Asked → Type 0
IsFoundOrUnasked folder zero_len one_len all = (all ≡ unasked) ⊎ IsFound folder zero_len one_len all

-- One call took this name away, or found that it wasn't there; no other call was made.
pub record IsGone (path : List ℕ) (old new : Asked) : Type 0 where
  pub answer : Option ErrorKind
  pub gone : (answer ≡ None) ⊎ (answer ≡ Some NotFound)
  pub removed : new ≡ with_named (Removed path answer) old

-- The file of the first path got the second; no other call was made.
abbrev pub IsAdopted : List ℕ → List ℕ → Asked → Asked → Type 0
IsAdopted from to old new = new ≡ with_named (Renamed from to true) old

-- At most such a renaming was tried, and failed; no other call was made.
abbrev pub IsUnadopted : List ℕ → List ℕ → Asked → Asked → Type 0
IsUnadopted from to old new = (new ≡ old) ⊎ (new ≡ with_named (Renamed from to false) old)
