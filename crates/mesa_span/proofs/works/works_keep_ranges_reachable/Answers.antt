use Rattle.mesa_span.proofs.Reachable.{reachable_in_order, works_keep}
use Rattle.mesa_span.proofs.works.works_keep_ranges_reachable.Goals as goal

pub returns-clause-in_order : goal.returns-clause-in_order
returns-clause-in_order c = reachable_in_order

pub returns-clause-kept : goal.returns-clause-kept
returns-clause-kept c = works_keep
