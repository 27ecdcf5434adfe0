-- Why files weren't read.
use Rattle.std.specs.Prelude.{ℕ, List, ⊤}
use Rattle.mesa_open_files.specs.mesa_file.declared.damage.Damage.{Damage}
use Rattle.mesa_delta.specs.declared.error.FileError.{FileError}
use Rattle.mesa_delta.specs.declared.error.FileError.TheVariants as file
use Rattle.mesa_delta.specs.declared.input.Input.{Input}
use Rattle.mesa_open_files.specs.GivingBack.{SomeFailed}

-- Why these readers gave nothing: one has failed; there is damage, of which this holds; or there was no memory.
abbrev pub IsUnread : {R : Type 0} → (R → ℕ) → List (Input R) → (Damage → Type 0) → FileError → Type 0
IsUnread faults inputs IsMet file.Read = SomeFailed faults inputs
IsUnread faults inputs IsMet (file.Damaged d) = IsMet d
IsUnread faults inputs IsMet file.Memory = ⊤
