use Rattle.std.proofs.Common.{◌≡◌, sym, ◌∙◌, ap}
use Rattle.mesa_scan.specs.mesa_columns.declared.rows.Row.{Row}
use Rattle.mesa_scan.specs.mesa_columns.Lent.{lent}
use Rattle.mesa_merge.proofs.Hands.{hand_at}
use Rattle.mesa_merge.proofs.Orders.{ahead_all, ahead_none}
use Rattle.mesa_merge.proofs.Steps.{heads_same}
use Rattle.mesa_merge.proofs.gathering.same_key.Goals as goal

pub returns-then-is_same-clause-least : goal.returns-then-is_same-clause-least
returns-then-is_same-clause-least c =
    let least = c.in-Some.ensures.least in
    let hand = hand_at c.args.cursors.now c.in-Some.i c.index-cursors-i.result c.in-Some.ensures.within c.index-cursors-i.is in
    let row : least.row ≡ lent c.in-Some-head.row = heads_same _ _ _ _ (sym least.there ∙ hand ∙ c.in-Some-head.ensures.some.1) in
    record { least = least; is = ap (λ (r : Row). r.key) row ∙ c.if-is_same.ensures.yes }

pub returns-else-is_same-clause-none : goal.returns-else-is_same-clause-none
returns-else-is_same-clause-none c =
    let least = c.in-Some.ensures.least in
    let hand = hand_at c.args.cursors.now c.in-Some.i c.index-cursors-i.result c.in-Some.ensures.within c.index-cursors-i.is in
    let row : least.row ≡ lent c.in-Some-head.row = heads_same _ _ _ _ (sym least.there ∙ hand ∙ c.in-Some-head.ensures.some.1) in
    ahead_all c.args.key.now c.in-Some.i _ least (λ e. c.if-is_same.ensures.no (ap (λ (r : Row). r.key) (sym row) ∙ e))

pub returns-in_default-clause-none : goal.returns-in_default-clause-none
returns-in_default-clause-none c = λ from. ahead_none c.args.key.now _ c.in_default.ensures.none
