-- Drafts that failed and aren't answered yet.
use Rattle.std.specs.Prelude.{ℕ, Result, Ok, Err}
use Rattle.mesa_open_files.specs.declared.merging.CompactError.{CompactError}
use Rattle.mesa_open_files.specs.declared.merging.CompactError.TheVariants as compact
use Rattle.mesa_open_files.specs.declared.prepared.LoadError.{LoadError}
use Rattle.mesa_open_files.specs.declared.prepared.LoadError.TheVariants as load

-- how many faults are owed an answer where a load was prepared
abbrev pub owed_by_load : {T : Type 0} → Result T LoadError → ℕ
owed_by_load (Ok p) = 0
owed_by_load (Err (load.Batch refusal)) = 0
owed_by_load (Err load.Draft) = 1
owed_by_load (Err load.Memory) = 0

-- how many by why no files were made
abbrev pub owed_by_error : CompactError → ℕ
owed_by_error compact.Draft = 1
owed_by_error (compact.File e) = 0

-- how many where a task was merged, or a recast's ranges were rewritten
abbrev pub owed_by_work : {T : Type 0} → Result T CompactError → ℕ
owed_by_work (Ok delta) = 0
owed_by_work (Err e) = owed_by_error e
