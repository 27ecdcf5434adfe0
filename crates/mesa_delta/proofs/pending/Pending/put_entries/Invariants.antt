use Rattle.std.proofs.Common.{◌≡◌, ◌++◌, drop}
use Rattle.mesa_delta.specs.Pending.{entries_of}
use Rattle.mesa_delta.proofs.pending.Pending.put_entries.Given as goal

abbrev pub invariant-loop-block : goal.invariant-loop-block
invariant-loop-block l = l.out.items ++ entries_of (drop l.block-index l.block-items) ≡ l.fn.out.items ++ entries_of l.fn.self
