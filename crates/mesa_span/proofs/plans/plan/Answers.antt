use Rattle.std.proofs.Common.{◌≡◌, List, rules, sym, subst}
use Rattle.mesa_span.specs.Ranges.{Span, start_of}
use Rattle.mesa_span.specs.Plan.{IsLeast, IsSpanning, longest, plan}
use Rattle.mesa_span.proofs.Least.{plan_spans, plan_is_least}
use Rattle.mesa_span.proofs.Longest.{longest_behind}
use Rattle.mesa_span.proofs.plans.plan.Goals as goal

pub push_behind_base-requires-clause-end : goal.push_behind_base-requires-clause-end
push_behind_base-requires-clause-end c =
    let found : c.longest_end-end.result ≡ longest c.args.version c.args.ranges.now.cumulatives = search rules in
    rw c.start.ensures.start (longest_behind (start_of c.args.ranges.now) c.args.version c.args.ranges.now.cumulatives c.longest_end-end.result c.requires.in_order found)

pub returns-clause-spanning : goal.returns-clause-spanning
returns-clause-spanning c =
    let same : c.push_behind_base.new.spans.items ≡ plan c.args.ranges.now c.args.version = search rules in
    let P : List Span → Type 0 = λ spans. IsSpanning c.args.ranges.now c.args.version spans in
    subst P (sym same) (plan_spans c.args.ranges.now c.args.version c.requires.in_order c.requires.base_within)

pub returns-clause-least : goal.returns-clause-least
returns-clause-least c =
    let same : c.push_behind_base.new.spans.items ≡ plan c.args.ranges.now c.args.version = search rules in
    let P : List Span → Type 0 = λ spans. IsLeast c.args.ranges.now c.args.version spans in
    subst P (sym same) (plan_is_least c.args.ranges.now c.args.version c.requires.in_order)
