use Rattle.mesa_test_oracle.specs.Plain.{GaveAtMost}
use Rattle.mesa_base_tests.proofs.reference.trial.do_sessions.Given as goal

-- no session was given more tokens than there were commands
abbrev pub invariant-sessions : goal.invariant-sessions
invariant-sessions g l = GaveAtMost l.done l.warehouse
