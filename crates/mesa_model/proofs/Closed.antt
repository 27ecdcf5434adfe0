-- A closed warehouse answers `closed`.
use Rattle.std.proofs.Common.{◌≡◌, ℕ, refl, Some, None}
use Rattle.mesa_model.specs.declared.commands.Command.{Command}
use Rattle.mesa_model.specs.declared.commands.Command.TheVariants as command
use Rattle.mesa_model.specs.declared.replies.Reply.TheVariants as reply
use Rattle.mesa_model.specs.declared.replies.Refusal.TheVariants as no
use Rattle.mesa_model.specs.Warehouse.{Warehouse}
use Rattle.mesa_model.specs.Step.{step}

pub step-closed : (w : Warehouse) (session : ℕ) (c : Command) (position : ℕ) → w.closed ≡ Some position → step w session c ≡ (w, reply.Refused (no.Closed position))
step-closed w session (command.Table words) position is = rw is refl
step-closed w session (command.View words) position is = rw is refl
step-closed w session (command.Alter words) position is = rw is refl
step-closed w session (command.Load rows) position is = rw is refl
step-closed w session (command.Query words) position is = rw is refl
step-closed w session (command.Explain words) position is = rw is refl
step-closed w session (command.Pin version) position is = rw is refl
step-closed w session (command.Release token) position is = rw is refl
step-closed w session (command.Expire None version) position is = rw is refl
step-closed w session (command.Expire (Some name) version) position is = rw is refl
step-closed w session (command.Work words) position is = rw is refl
step-closed w session (command.Recast words) position is = rw is refl
