-- What comes of a file that is written from a merge.
use Rattle.std.specs.Prelude.{◌≡◌, ℕ, List, Result, IfErr}
use Rattle.mesa_open_files.specs.mesa_io.Causes.{HasFaultCause}
use Rattle.mesa_file.specs.declared.damage.Damage.{Damage}
use Rattle.mesa_delta.specs.declared.error.FileError.TheVariants as file
use Rattle.mesa_merge.specs.Faults.{HaveFaultCause}
use Rattle.mesa_open_files.specs.declared.merging.CompactError.{CompactError}
use Rattle.mesa_open_files.specs.declared.merging.CompactError.TheVariants as compact

-- a fault of a draft or of the bench
abbrev pub IsDraftFault : CompactError → Type 0
IsDraftFault e = e ≡ compact.Draft

-- a fault of a reader
abbrev pub IsReadFault : CompactError → Type 0
IsReadFault e = e ≡ compact.File file.Read

-- damage of a file
abbrev pub damaged_by : Damage → CompactError
damaged_by d = compact.File (file.Damaged d)

-- Why no file was written, by the bench's count of faults and the readers' counts before and now, and by which damage may be told: Draft only where the bench's count rose, Read only where a reader's did, and just such damage. With any other end the counts stay. Want of memory may come at any time.
pub record HasCauses {T : Type 0} (draft_before draft_now : ℕ) (read_before read_now : List ℕ) (IsTold : Damage → Type 0) (answer : Result T CompactError) : Type 0 where
  pub drafts : HasFaultCause IsDraftFault draft_before draft_now answer
  pub reads : HaveFaultCause IsReadFault read_before read_now answer
  pub damaged : IfErr answer (λ e. (d : Damage) → e ≡ damaged_by d → IsTold d)
