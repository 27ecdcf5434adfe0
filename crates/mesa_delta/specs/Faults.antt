-- Whose fault it is that a file isn't written.
use Rattle.mesa_disk.specs.declared.failures.DraftError.{DraftError}
use Rattle.mesa_disk.specs.declared.failures.DraftError.TheVariants as draft
use Rattle.mesa_delta.specs.declared.error.WriteError.{WriteError}
use Rattle.mesa_delta.specs.declared.error.WriteError.TheVariants as write

-- a draft's error as the writer answers it
abbrev pub write_error : DraftError → WriteError
write_error draft.Failed = write.Draft
write_error draft.Memory = write.Memory
