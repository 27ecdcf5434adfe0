-- What was asked of the system by a handle, and how it answered.
use Rattle.std.specs.Prelude.{◌≡◌, ℕ, Bool, true, false, ◌&&◌, List, [], ◌∷◌, Option, None, Some, option_map, IfSome, Result, Ok, Err}
use Rattle.std.specs.IoError.{error_kind}
use Rattle.std.specs.declared.io.Error.{Error}
use Rattle.std.specs.declared.io.ErrorKind.{ErrorKind}

-- One call on an open file, or on an open folder and its names. A path is its bytes; a last `true` says that it was answered Ok.
pub data Call : Type 0 where
  -- the handle was opened, by this path
  Opened : List ℕ → Call
  -- the handle is of a file that this call made
  Created : List ℕ → Call
  -- a file of this folder was opened for writing, and made if it was missing
  OpenedWithin : List ℕ → Bool → Call
  -- a folder was made in this one; with an error its kind
  MadeFolder : List ℕ → Option ErrorKind → Call
  -- this file was locked, or one in this folder was
  Locked : Bool → Call
  -- how many bytes the file has
  Measured : ℕ → Call
  -- these bytes were read from this place on
  Read : ℕ → List ℕ → Bool → Call
  -- these bytes were written behind those that this handle wrote before
  Wrote : List ℕ → Bool → Call
  -- these bytes were written from this place on
  WroteAt : ℕ → List ℕ → Bool → Call
  -- the bytes of the file and all that is kept of it, or the names of the folder, went to the device
  Synced : Bool → Call
  -- the bytes of the file and its length went to the device
  SyncedBytes : Bool → Call
  -- a file got another path, the second
  Renamed : List ℕ → List ℕ → Bool → Call
  -- a name was taken away; with an error its kind
  Removed : List ℕ → Option ErrorKind → Call

-- the kind of the error, where there is one
abbrev pub failure : {T : Type 0} → Result T Error → Option ErrorKind
failure (Ok x) = None
failure (Err e) = Some (error_kind e)

-- The calls of a handle, the newest first, where they are told: one call more.
abbrev pub with_call : Call → Option (List Call) → Option (List Call)
with_call x told = option_map (λ calls. x ∷ calls) told

-- The handle was opened by this path, and no other call was made on it.
abbrev pub IsOpened : List ℕ → Option (List Call) → Type 0
IsOpened path told = IfSome told (λ calls. calls ≡ Opened path ∷ [])

-- The file was opened by this path, and then so many bytes were found in it.
pub record IsMeasured (path : List ℕ) (count : ℕ) (told : Option (List Call)) : Type 0 where
  pub before : Option (List Call)
  pub opened : IsOpened path before
  pub measured : told ≡ with_call (Measured count) before

-- The handle is of a file that was made under this path, and no other call was made on it.
abbrev pub IsCreated : List ℕ → Option (List Call) → Type 0
IsCreated path told = IfSome told (λ calls. calls ≡ Created path ∷ [])

-- whether all that was written to a file is on the device: no write came behind a sync that succeeded
abbrev pub ends_durable : List Call → Bool
ends_durable [] = false
ends_durable (Synced ok ∷ calls) = ok
ends_durable (SyncedBytes ok ∷ calls) = ok
ends_durable (Read at bytes ok ∷ calls) = ends_durable calls
ends_durable (call ∷ calls) = false

-- the same where it is told
abbrev pub is_durable : Option (List Call) → Bool
is_durable None = true
is_durable (Some calls) = ends_durable calls

-- whether the names of a folder are on the device
abbrev pub ends_named : List Call → Bool
ends_named [] = false
ends_named (Synced ok ∷ calls) = ok
ends_named (call ∷ calls) = false

-- the same where it is told
abbrev pub is_named : Option (List Call) → Bool
is_named None = true
is_named (Some calls) = ends_named calls

-- whether a call is no sync that failed
abbrev pub is_no_failed_sync : Call → Bool
is_no_failed_sync (Synced ok) = ok
is_no_failed_sync (SyncedBytes ok) = ok
is_no_failed_sync call = true

-- whether no sync failed
abbrev pub no_sync_failed : List Call → Bool
no_sync_failed [] = true
no_sync_failed (call ∷ calls) = is_no_failed_sync call && no_sync_failed calls

-- the same where it is told
abbrev pub is_trusted : Option (List Call) → Bool
is_trusted None = true
is_trusted (Some calls) = no_sync_failed calls

-- whether a call is no write and no sync that failed
abbrev pub is_kept : Call → Bool
is_kept (Wrote bytes ok) = ok
is_kept call = is_no_failed_sync call

-- whether no write and no sync failed
abbrev pub none_failed : List Call → Bool
none_failed [] = true
none_failed (call ∷ calls) = is_kept call && none_failed calls

-- the same where it is told
abbrev pub is_whole : Option (List Call) → Bool
is_whole None = true
is_whole (Some calls) = none_failed calls
