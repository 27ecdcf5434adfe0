use Rattle.std.proofs.Common.{◌≡◌, ◌++◌, drop}
use Rattle.mesa_disk.specs.Benches.{calls_of}
use Rattle.mesa_disk.proofs.memory.bench.MemBench.fails_of.Given as goal

abbrev pub invariant-loop-number : goal.invariant-loop-number
invariant-loop-number l = l.fails.items ++ calls_of l.draft (drop l.number-index l.self.fails.items) ≡ calls_of l.draft l.self.fails.items
