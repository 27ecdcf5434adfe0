use Rattle.std.proofs.Common.{◌≡◌, take}
use Rattle.mesa_list.proofs.copies.TryCopy.copy_all.Given as goal

abbrev pub invariant-loop-value : goal.invariant-loop-value
invariant-loop-value g l = l.others.items ≡ take l.value-index l.values
