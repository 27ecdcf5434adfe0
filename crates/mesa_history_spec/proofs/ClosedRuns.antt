-- A closed warehouse answers `closed` to everything but what was begun.
use Rattle.std.proofs.Common.{◌≡◌, ℕ, false, IsTrue, refl, ap, ◌∙◌, Some}
use Rattle.mesa_script.specs.mesa_model.declared.commands.Command.{Command}
use Rattle.mesa_script.specs.mesa_model.declared.commands.Command.TheVariants as command
use Rattle.mesa_script.specs.mesa_model.declared.commands.Script.{Script}
use Rattle.mesa_script.specs.mesa_model.declared.entries.Entry.{Entry}
use Rattle.mesa_script.specs.mesa_model.declared.entries.Kind.{Kind}
use Rattle.mesa_script.specs.mesa_model.declared.entries.Kind.TheVariants as kind
use Rattle.mesa_script.specs.mesa_model.declared.entries.Outcome.TheVariants as outcome
use Rattle.mesa_script.specs.mesa_model.declared.replies.Refusal.TheVariants as no
use Rattle.mesa_script.proofs.mesa_model.Closed.{step-closed}
use Rattle.mesa_history_spec.specs.Run.{State, Stage, First, Looked, Answered, Granted, Renewed, Finished, CutOff, Run, place_of}
use Rattle.mesa_history_spec.specs.Replay.{turned, turn_of, standing, decide, decided, grant, refuses}
use Rattle.mesa_history_spec.specs.Legal.{Fits, is_due_at, is_answered, same_kind}
use Rattle.mesa_history_spec.proofs.More.{turned_is}
use Rattle.mesa_history_spec.proofs.Due.{due_turn}

decide-closed : (position : ℕ) (s : State) (session : ℕ) (c : Command) (p : ℕ) → s.warehouse.closed ≡ Some p → decide position s session c ≡ refuses position s (no.Closed p)
decide-closed position s session (command.Table words) p is = ap (decided position s) (step-closed s.warehouse session (command.Table words) p is)
decide-closed position s session (command.View words) p is = ap (decided position s) (step-closed s.warehouse session (command.View words) p is)
decide-closed position s session (command.Alter words) p is = ap (decided position s) (step-closed s.warehouse session (command.Alter words) p is)
decide-closed position s session (command.Load rows) p is = ap (decided position s) (step-closed s.warehouse session (command.Load rows) p is)
decide-closed position s session (command.Query words) p is = rw is refl
decide-closed position s session (command.Explain words) p is = rw is refl
decide-closed position s session (command.Pin version) p is = ap (decided position s) (step-closed s.warehouse session (command.Pin version) p is)
decide-closed position s session (command.Release token) p is = ap (decided position s) (step-closed s.warehouse session (command.Release token) p is)
decide-closed position s session (command.Expire table version) p is = ap (decided position s) (step-closed s.warehouse session (command.Expire table version) p is)
decide-closed position s session (command.Work words) p is = ap (decided position s) (step-closed s.warehouse session (command.Work words) p is)
decide-closed position s session (command.Recast words) p is = rw is refl

-- a grant
grant-closed : (position : ℕ) (s : State) (c : Command) (p : ℕ) → s.warehouse.closed ≡ Some p → grant position s c ≡ refuses position s (no.Closed p)
grant-closed position s (command.Table words) p is = rw is refl
grant-closed position s (command.View words) p is = rw is refl
grant-closed position s (command.Alter words) p is = rw is refl
grant-closed position s (command.Load rows) p is = rw is refl
grant-closed position s (command.Query words) p is = rw is refl
grant-closed position s (command.Explain words) p is = rw is refl
grant-closed position s (command.Pin version) p is = rw is refl
grant-closed position s (command.Release token) p is = rw is refl
grant-closed position s (command.Expire table version) p is = rw is refl
grant-closed position s (command.Work words) p is = rw is refl
grant-closed position s (command.Recast words) p is = rw is refl

-- no command closes in its first turn
no_first_close : (c : Command) → IsTrue (is_due_at c First kind.Close) → ⊥
no_first_close (command.Table words) due = cc
no_first_close (command.View words) due = cc
no_first_close (command.Alter words) due = cc
no_first_close (command.Load rows) due = cc
no_first_close (command.Query words) due = cc
no_first_close (command.Explain words) due = cc
no_first_close (command.Pin version) due = cc
no_first_close (command.Release token) due = cc
no_first_close (command.Expire table version) due = cc
no_first_close (command.Work words) due = cc
no_first_close (command.Recast words) due = cc

-- no command is renewed in its first turn
no_first_renewal : (c : Command) → IsTrue (is_due_at c First kind.Renew) → ⊥
no_first_renewal (command.Table words) due = cc
no_first_renewal (command.View words) due = cc
no_first_renewal (command.Alter words) due = cc
no_first_renewal (command.Load rows) due = cc
no_first_renewal (command.Query words) due = cc
no_first_renewal (command.Explain words) due = cc
no_first_renewal (command.Pin version) due = cc
no_first_renewal (command.Release token) due = cc
no_first_renewal (command.Expire table version) due = cc
no_first_renewal (command.Work words) due = cc
no_first_renewal (command.Recast words) due = cc

module _ (position : ℕ) (s : State) (session : ℕ) (c : Command) (p : ℕ) (is : s.warehouse.closed ≡ Some p) where
  close-closed : (stage : Stage) → IsTrue (is_due_at c stage kind.Close) → is_answered stage ≡ false → standing position s session c kind.Close stage ≡ refuses position s (no.Closed p)
  close-closed First due begun = absurd (no_first_close c due)
  close-closed Looked due begun = absurd cc
  close-closed (Answered at answer) due begun = absurd cc
  close-closed (Granted claim) due begun = rw is refl
  close-closed (Renewed claim) due begun = rw is refl
  close-closed Finished due begun = absurd cc
  close-closed CutOff due begun = absurd cc

  renew-closed : (stage : Stage) → IsTrue (is_due_at c stage kind.Renew) → standing position s session c kind.Renew stage ≡ refuses position s (no.Closed p)
  renew-closed First due = absurd (no_first_renewal c due)
  renew-closed Looked due = absurd cc
  renew-closed (Answered at answer) due = absurd cc
  renew-closed (Granted claim) due = rw is refl
  renew-closed (Renewed claim) due = absurd cc
  renew-closed Finished due = absurd cc
  renew-closed CutOff due = absurd cc

  -- a turn that stands, but a look and the close of an answered query
  standing-closed : (k : Kind) (stage : Stage) → IsTrue (is_due_at c stage k) → same_kind kind.Look k ≡ false → is_answered stage ≡ false → standing position s session c k stage ≡ refuses position s (no.Closed p)
  standing-closed kind.Look stage due look begun = absurd cc
  standing-closed kind.Decide stage due look begun = decide-closed position s session c p is
  standing-closed kind.Close stage due look begun = close-closed stage due begun
  standing-closed kind.Grant stage due look begun = grant-closed position s c p is
  standing-closed kind.Renew stage due look begun = renew-closed stage due

-- An entry that stands in a closed warehouse, and is no look and no close of an answered query, tells where it closed and changes nothing.
pub turned-closed : (script : Script) (r : Run) (e : Entry) (p : ℕ) → r.state.warehouse.closed ≡ Some p → Fits script r e → e.outcome ≡ outcome.Stands
    → same_kind kind.Look e.kind ≡ false → is_answered (place_of r e.session).stage ≡ false → turned script r e ≡ refuses r.position r.state (no.Closed p)
turned-closed script r e p is fits stands look begun =
    let turn = due_turn script r e fits.due in
    turned_is script r e turn.command turn.known
    ∙ ap (turn_of r turn.command e (place_of r e.session).stage) stands
    ∙ standing-closed r.position r.state e.session turn.command p is e.kind (place_of r e.session).stage turn.due look begun
