use Rattle.std.proofs.Common.{◌≡◌, ◌-◌, ◌++◌, map}
use Rattle.std.specs.List.{range_with_len}
use Rattle.mesa_span.proofs.plans.push_singletons.Given as goal

abbrev pub invariant-loop-version : goal.invariant-loop-version
invariant-loop-version l = l.spans.items ≡ l.fn.spans.items ++ map (λ k. (k, k)) (range_with_len l.from (l.version - l.from))
