use Rattle.std.proofs.Common.{◌≡◌, ◌+◌, drop}
use Rattle.mesa_core.specs.Passes.{turns_of}
use Rattle.mesa_core.proofs.room.turns_for.Given as goal

-- those so far and those that are left are all
abbrev pub invariant-loop-commands : goal.invariant-loop-commands
invariant-loop-commands l = l.turns + turns_of (drop l.commands-index l.sessions) ≡ turns_of l.sessions
