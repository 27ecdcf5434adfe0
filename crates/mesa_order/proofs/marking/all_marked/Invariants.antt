use Rattle.std.proofs.Common.{◌≡◌, ◌-◌, get_or, false}
use Rattle.std.specs.List.{list_all, range_with_len}
use Rattle.mesa_order.proofs.marking.all_marked.Given as goal

-- the places that are left decide
abbrev pub invariant-places : goal.invariant-places
invariant-places l = list_all (λ place. get_or l.marks place false) (range_with_len l.place (l.count - l.place)) ≡ list_all (λ place. get_or l.marks place false) (range_with_len 0 l.count)
