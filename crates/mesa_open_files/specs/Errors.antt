-- Why files are not made or not read, told of what failed.
use Rattle.std.specs.Prelude.{◌≢◌, ⊤}
use Rattle.mesa_batch.specs.declared.words.BatchError.{BatchError}
use Rattle.mesa_batch.specs.declared.words.BatchError.TheVariants as batch
use Rattle.mesa_delta.specs.declared.error.FileError.{FileError}
use Rattle.mesa_delta.specs.declared.error.FileError.TheVariants as file
use Rattle.mesa_delta.specs.declared.error.WriteError.{WriteError}
use Rattle.mesa_delta.specs.declared.error.WriteError.TheVariants as write
use Rattle.mesa_file.specs.declared.damage.Damage.{Damage}
use Rattle.mesa_open_files.specs.declared.prepared.LoadError.{LoadError}
use Rattle.mesa_open_files.specs.declared.prepared.LoadError.TheVariants as load
use Rattle.mesa_open_files.specs.declared.merging.CompactError.{CompactError}
use Rattle.mesa_open_files.specs.declared.merging.CompactError.TheVariants as compact

-- a batch's refusal, or want of memory
abbrev pub load_error : BatchError → LoadError
load_error (batch.NoTable row) = load.Batch (batch.NoTable row)
load_error (batch.BadRow row column) = load.Batch (batch.BadRow row column)
load_error (batch.DuplicateKey first second) = load.Batch (batch.DuplicateKey first second)
load_error batch.Memory = load.Memory

-- a file of a batch is not written
abbrev pub load_failure : WriteError → LoadError
load_failure write.Draft = load.Draft
load_failure write.Memory = load.Memory

-- a merged range's file is not written
abbrev pub compact_failure : WriteError → CompactError
compact_failure write.Draft = compact.Draft
compact_failure write.Memory = compact.File file.Memory

-- what was found isn't what was wanted
abbrev pub Differs : Damage → Type 0
Differs d = d.want ≢ d.found

-- Where a file is damaged, what was found isn't what was wanted.
abbrev pub HasDiffered : FileError → Type 0
HasDiffered file.Read = ⊤
HasDiffered (file.Damaged d) = Differs d
HasDiffered file.Memory = ⊤
