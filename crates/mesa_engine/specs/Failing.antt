-- Turns that do nothing for their command.
use Rattle.std.specs.Prelude.{◌≡◌, ℕ, Bool, true, false, IsTrue}
use Rattle.mesa_model.specs.declared.commands.Command.{Command}
use Rattle.mesa_model.specs.declared.commands.Command.TheVariants as command
use Rattle.mesa_model.specs.declared.commands.Script.{Script}
use Rattle.mesa_model.specs.declared.entries.Kind.{Kind}
use Rattle.mesa_model.specs.declared.entries.Kind.TheVariants as kind
use Rattle.mesa_model.specs.Load.{load_batch}
use Rattle.mesa_model.specs.Tables.{alter_table, make_table, make_view}
use Rattle.mesa_model.specs.Pins.{make_pin, release_pin}
use Rattle.mesa_model.specs.Versions.{expire_to}
use Rattle.mesa_invariant_spec.specs.mesa_history_spec.Machine.{claim_of, recast_claim_of}
use Rattle.mesa_invariant_spec.specs.mesa_history_spec.Run.{Stage, First, Looked, Run}
use Rattle.mesa_invariant_spec.specs.mesa_history_spec.Legal.{is_due_at}
use Rattle.mesa_invariant_spec.specs.mesa_history_spec.Turns.{IsDue}
use Rattle.mesa_invariant_spec.specs.Books.{Books}
use Rattle.mesa_invariant_spec.specs.Causes.{Cause, Unread, Damaged, Unwritten}
use Rattle.mesa_invariant_spec.specs.Changes.{HasFailed, HasNoPlan}
use Rattle.mesa_invariant_spec.specs.Queries.{HasNoAnswer}
use Rattle.mesa_invariant_spec.specs.Works.{HasNoClaim}

-- A turn of this kind is due to a session's command.
pub record Comes (script : Script) (r : Run) (session number : ℕ) (k : Kind) : Type 0 where
  pub asked : Command
  pub stage : Stage
  pub due : IsDue script r session number asked stage
  pub comes : IsTrue (is_due_at asked stage k)

-- the stage at which a command is decided: a load has looked before
abbrev pub deciding_stage : Command → Stage
deciding_stage (command.Load rows) = Looked
deciding_stage c = First

-- the kind of the turn that decides it
abbrev pub deciding_kind : Command → Kind
deciding_kind (command.Work words) = kind.Grant
deciding_kind (command.Recast words) = kind.Grant
deciding_kind c = kind.Decide

-- Why the turn that decides a command does nothing for it: it is refused as the books say, or a fault or want of memory stands in its way.
abbrev pub HasNotDone : Books → ℕ → ℕ → Command → Cause → Type 0
HasNotDone books position session (command.Load rows) cause = HasFailed books (command.Load rows) (λ w. load_batch w rows) cause
HasNotDone books position session (command.Table words) cause = HasFailed books (command.Table words) (λ w. make_table w words) cause
HasNotDone books position session (command.View words) cause = HasFailed books (command.View words) (λ w. make_view w words) cause
HasNotDone books position session (command.Alter words) cause = HasFailed books (command.Alter words) (λ w. alter_table w words) cause
HasNotDone books position session (command.Pin asked) cause = HasFailed books (command.Pin asked) (λ w. make_pin w session asked) cause
HasNotDone books position session (command.Release token) cause = HasFailed books (command.Release token) (λ w. release_pin w session token) cause
HasNotDone books position session (command.Expire table version) cause = HasFailed books (command.Expire table version) (λ w. expire_to w table version) cause
HasNotDone books position session (command.Explain words) cause = HasNoPlan books words cause
HasNotDone books position session (command.Query words) cause = HasNoAnswer books session words cause
HasNotDone books position session (command.Work words) cause = HasNoClaim books (claim_of books.bare books.machine position words.table) cause
HasNotDone books position session (command.Recast words) cause = HasNoClaim books (recast_claim_of books.bare books.machine position words) cause

-- whether a device has to have failed for a cause, or a file to be damaged
abbrev pub is_of_device : Cause → Bool
is_of_device Unread = true
is_of_device (Damaged damage) = true
is_of_device Unwritten = true
is_of_device cause = false

-- The turn that decides a command does nothing for it, for a cause for which no device has to have failed, and no file to be damaged.
pub record Fails (script : Script) (r : Run) (books : Books) (position session number : ℕ) (k : Kind) (cause : Cause) : Type 0 where
  pub asked : Command
  pub due : IsDue script r session number asked (deciding_stage asked)
  pub decides : k ≡ deciding_kind asked
  pub why : HasNotDone books position session asked cause
  pub quiet : is_of_device cause ≡ false
