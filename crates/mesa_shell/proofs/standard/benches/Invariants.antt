use Rattle.std.proofs.Common.{◌≡◌, length}
use Rattle.mesa_shell.proofs.standard.benches.Given as goal

-- as many benches as were counted
abbrev pub invariant-sessions : goal.invariant-sessions
invariant-sessions g l = length l.all.items ≡ l.counter
