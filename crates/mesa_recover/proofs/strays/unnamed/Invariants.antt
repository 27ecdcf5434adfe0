use Rattle.std.proofs.Common.{◌≡◌, take}
use Rattle.mesa_recover.specs.Strays.{unnamed_of}
use Rattle.mesa_recover.proofs.strays.unnamed.Given as goal

abbrev pub invariant-loop-id : goal.invariant-loop-id
invariant-loop-id l = l.strays.items ≡ unnamed_of l.named (take l.id-index l.ids)
