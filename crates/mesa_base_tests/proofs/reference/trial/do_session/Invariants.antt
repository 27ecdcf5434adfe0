use Rattle.mesa_test_oracle.specs.Plain.{GaveAtMost}
use Rattle.mesa_base_tests.proofs.reference.trial.do_session.Given as goal

-- no session was given more tokens than there were commands
abbrev pub invariant-commands : goal.invariant-commands
invariant-commands g l = GaveAtMost l.done l.warehouse
