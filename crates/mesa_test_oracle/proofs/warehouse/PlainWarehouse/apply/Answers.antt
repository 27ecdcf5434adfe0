use Rattle.std.proofs.Common.{◌≡◌, ◌+◌, ℕ, Result, Ok, Err}
use Rattle.std.specs.Prelude.{IfOk, OnErr}
use Rattle.mesa_model.specs.declared.commands.Command.{Command}
use Rattle.mesa_model.specs.declared.replies.Reply.{Reply}
use Rattle.mesa_model.specs.Step.{step}
use Rattle.mesa_model.specs.Warehouse.{Warehouse}
use Rattle.mesa_test_oracle.specs.Plain.{GaveAtMost}
use Rattle.mesa_test_oracle.proofs.Tokens.{few_given, none_given}
use Rattle.mesa_test_oracle.proofs.warehouse.PlainWarehouse.apply.Goals as goal

given : {E : Type 0} (w after : Warehouse) (session : ℕ) (command : Command) (result : Result Reply E) → IfOk result (λ reply. step w session command ≡ (after, reply)) → OnErr result (after ≡ w)
    → (count : ℕ) → GaveAtMost count w → GaveAtMost (count + 1) after
given w after session command (Ok reply) done kept = few_given w after session command reply done
given w after session command (Err e) done kept = none_given w after kept

pub returns-clause-given : goal.returns-clause-given
returns-clause-given c = given c.args.self.now c.decide.new.self c.args.session c.args.command.now c.decide.result c.decide.ensures.step c.decide.ensures.kept
