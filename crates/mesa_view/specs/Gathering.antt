-- Why a file's rows aren't put into groups, by why one row isn't.
use Rattle.mesa_answer.specs.declared.error.GroupError.{GroupError}
use Rattle.mesa_answer.specs.declared.error.GroupError.TheVariants.{Memory, Sum}
use Rattle.mesa_delta.specs.declared.error.FileError.TheVariants as file_error
use Rattle.mesa_view.specs.declared.error.GatherError.{GatherError}
use Rattle.mesa_view.specs.declared.error.GatherError.TheVariants as gather

-- a sum's error stays one, and want of memory is the file's
abbrev pub gather_error : GroupError → GatherError
gather_error Sum = gather.Sum
gather_error Memory = gather.File file_error.Memory
