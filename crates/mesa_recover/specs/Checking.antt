-- What a test of files answers, and what it leaves of counts.
use Rattle.std.specs.Prelude.{◌≡◌, ◌≢◌, ◌⊎◌, ℕ, ◌≤◌, List, length, drop, Result, Err, ⊤}
use Rattle.sha2.specs.Sha256.{sha256}
use Rattle.mesa_store.specs.mesa_io.Causes.{Rose}
use Rattle.mesa_disk.specs.Story.{Story}
use Rattle.mesa_catalog_table.specs.declared.recorded.Recorded.{Recorded}
use Rattle.mesa_disk.specs.declared.failures.ListFault.{ListFault}
use Rattle.mesa_disk.specs.declared.failures.ListFault.TheVariants as list_fault
use Rattle.mesa_recover.specs.declared.error.OpenError.{OpenError}
use Rattle.mesa_recover.specs.declared.error.OpenError.TheVariants as open_error

-- Bytes have the recorded length, and their tail has the recorded digest.
pub record HasSound (bytes : List ℕ) (r : Recorded) : Type 0 where
  pub whole : length bytes ≡ r.len
  pub tail : sha256 (drop r.tail bytes) ≡ r.digest

-- No count falls; one rose where a fault is answered, and both stay where none is.
pub record Counts {T : Type 0} (old new : Story) (result : Result T OpenError) : Type 0 where
  pub later : (old.faults ≤ new.faults) × (old.read_faults ≤ new.read_faults)
  pub fault : result ≡ Err open_error.Fault → Rose old.faults new.faults ⊎ Rose old.read_faults new.read_faults
  pub quiet : (result ≡ Err open_error.Fault → ⊥) → (new.faults ≡ old.faults) × (new.read_faults ≡ old.read_faults)

-- The refusal is of a file: it is damaged, and what is found isn't what is wanted; or the disk failed, or memory ran out.
abbrev pub IsOfFiles : OpenError → Type 0
IsOfFiles open_error.Fault = ⊤
IsOfFiles (open_error.Journal area at want found) = ⊥
IsOfFiles (open_error.File d) = d.want ≢ d.found
IsOfFiles open_error.RunsFull = ⊥
IsOfFiles open_error.Memory = ⊤

-- the refusal where files aren't listed
abbrev pub list_refusal : ListFault → OpenError
list_refusal list_fault.Failed = open_error.Fault
list_refusal list_fault.Memory = open_error.Memory

-- The disk failed, or memory ran out.
abbrev pub IsFaultOrMemory : OpenError → Type 0
IsFaultOrMemory e = (e ≡ open_error.Fault) ⊎ (e ≡ open_error.Memory)
