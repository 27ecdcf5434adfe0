-- What the rules decide of a command that brings no files.
use Rattle.std.specs.Prelude.{◌≡◌, ℕ, false, true, None, IfErr, IfOk, Result}
use Rattle.mesa_model.specs.declared.commands.Command.{Command}
use Rattle.mesa_model.specs.declared.commands.Script.{Script}
use Rattle.mesa_model.specs.declared.entries.Kind.TheVariants as kind
use Rattle.mesa_file_records.specs.mesa_history_spec.Run.{First, Run}
use Rattle.mesa_file_records.specs.mesa_history_spec.Turns.{IsDue}
use Rattle.mesa_record.specs.Rules.{keeps_rules}
use Rattle.mesa_engine.specs.mesa_store_spec.Fitting.{fits}
use Rattle.mesa_file_records.specs.mesa_history_spec.Rows.{no_rows}
use Rattle.mesa_engine.specs.EngineState.{EngineState, books_of}
use Rattle.mesa_engine.specs.Failure.{cause_in}
use Rattle.mesa_engine.specs.declared.failure.Failure.{Failure}
use Rattle.mesa_engine.specs.Memory.{Memory}
use Rattle.mesa_validate.specs.declared.ruled.Ruled.{Ruled}
use Rattle.mesa_engine.specs.Failing.{HasNotDone, deciding_kind, deciding_stage, is_of_device}
use Rattle.mesa_write_turns.specs.Writing.{HasRecord}

-- The rules let a command do what it asks: the vault is open, and a record that fits does it.
pub record IsAllowed (l : EngineState) (c : Command) (r : Ruled) : Type 0 where
  pub opened : l.closed ≡ None
  pub rules : keeps_rules r.writes ≡ true
  pub fit : fits l.catalogue r.writes ≡ true
  pub does : HasRecord l (λ rows. rows) c r.writes r.tells

-- They don't: the books refuse it, or there was no memory.
pub record IsRefused (l : EngineState) (c : Command) (why : Failure) : Type 0 where
  pub failed : (position session : ℕ) → HasNotDone (books_of no_rows l) position session c (cause_in why)
  pub quiet : is_of_device (cause_in why) ≡ false

-- A session's command is decided in its first turn by a rule: whatever the rule may say over a vault's memory, it allows what the command asks, or refuses it.
pub record IsRuledBy (script : Script) (r : Run) (session number : ℕ) (says : Memory → Result Ruled Failure → Type 0) : Type 0 where
  pub asked : Command
  pub due : IsDue script r session number asked (deciding_stage asked)
  pub simple : deciding_stage asked ≡ First
  pub decides : kind.Decide ≡ deciding_kind asked
  pub rules : (m : Memory) (ruled : Result Ruled Failure) → says m ruled → IfOk ruled (IsAllowed m.state asked) × IfErr ruled (IsRefused m.state asked)
