use Rattle.std.proofs.Common.{◌≡◌, ◌+◌}
use Rattle.mesa_base_tests.proofs.turns.take_turns.Given as goal

abbrev pub invariant-loop-turn : goal.invariant-loop-turn
invariant-loop-turn g l = (l.pass.lock ≡ l.fn.pass.lock) × (l.pass.names ≡ l.fn.pass.names) × (l.pass.room + l.turn ≡ l.fn.pass.room)
