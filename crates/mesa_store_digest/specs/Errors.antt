-- Errors of files, told of a look.
use Rattle.mesa_delta.specs.declared.error.FileError.{FileError}
use Rattle.mesa_delta.specs.declared.error.FileError.TheVariants as file_error
use Rattle.mesa_store_digest.specs.declared.error.LookError.{LookError}
use Rattle.mesa_store_digest.specs.declared.error.LookError.TheVariants as look_error

-- a relation isn't looked at, since its files are not read
abbrev pub look_failure : FileError → LookError
look_failure file_error.Read = look_error.File file_error.Read
look_failure (file_error.Damaged d) = look_error.File (file_error.Damaged d)
look_failure file_error.Memory = look_error.Memory
