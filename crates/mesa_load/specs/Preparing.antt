-- Preparing a batch.
use Rattle.std.specs.Prelude.{◌≡◌, ℕ, List, Result, Err, IsOk}
use Rattle.mesa_open_files.specs.mesa_io.Causes.{Rose}
use Rattle.mesa_batch.specs.Batch.{Placed}
use Rattle.mesa_batch.specs.declared.words.BatchError.{BatchError}
use Rattle.mesa_open_files.specs.declared.prepared.LoadError.{LoadError}
use Rattle.mesa_open_files.specs.declared.prepared.LoadError.TheVariants as load

-- Why a load has no files: its rows are refused just so; or they make a batch, and the bench's count of faults rose; or there is no memory, and no fault was met.
abbrev pub IsReason : Result (List Placed) BatchError → ℕ → ℕ → LoadError → Type 0
IsReason batch before now (load.Batch refusal) = (batch ≡ Err refusal) × (now ≡ before)
IsReason batch before now load.Draft = IsOk batch × Rose before now
IsReason batch before now load.Memory = now ≡ before
