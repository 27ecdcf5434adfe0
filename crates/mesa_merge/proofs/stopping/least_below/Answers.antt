use Rattle.std.proofs.Common.{◌≡◌, [], get_or, false, sym, ◌∙◌, ap}
use Rattle.mesa_scan.specs.mesa_columns.declared.rows.Row.{Row}
use Rattle.mesa_scan.specs.mesa_columns.Lent.{lent}
use Rattle.mesa_scan.specs.Cut.{is_under}
use Rattle.mesa_merge.specs.Hands.{hands_of}
use Rattle.mesa_merge.proofs.Hands.{hand_at}
use Rattle.mesa_merge.proofs.Orders.{past_from}
use Rattle.mesa_merge.proofs.Steps.{heads_same}
use Rattle.mesa_merge.proofs.stopping.least_below.Goals as goal

pub returns-else-is_below-clause-none : goal.returns-else-is_below-clause-none
returns-else-is_below-clause-none c =
    let least = c.in-Some.ensures.least in
    let hand = hand_at c.args.cursors.now c.in-Some.i c.index-cursors-i.result c.in-Some.ensures.within c.index-cursors-i.is in
    let same : least.row ≡ lent c.in-Some-head.row = heads_same _ _ _ _ (sym least.there ∙ hand ∙ c.in-Some-head.ensures.some.1) in
    let past : is_under c.args.high.now least.row.key ≡ false = ap (λ (r : Row). is_under c.args.high.now r.key) same ∙ sym c.is_below.ensures ∙ c.if-is_below.false in
    λ j. past_from c.args.high.now least.row.key (get_or (hands_of c.args.cursors.now) j []) past (least.each j)
