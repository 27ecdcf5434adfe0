use Rattle.std.proofs.Common.{◌≡◌, ◌<◌, get_or, length, sym, ◌∙◌, ap, subst, arith}
use Rattle.std.proofs.lemmas.Grind.{common_steps}
use Rattle.mesa_scan.specs.mesa_columns.Lent.{lent}
use Rattle.mesa_merge.specs.Hands.{IsLeastAt, hands_of}
use Rattle.mesa_merge.proofs.Hands.{hand_at, hands_length}
use Rattle.mesa_merge.proofs.Trees.{winner_least, winner_none}
use Rattle.mesa_merge.proofs.matches.least.Goals as goal

pub returns-in-Some-clause-least : goal.returns-in-Some-clause-least
returns-in-Some-clause-least c =
    let cs = c.args.cursors.now in
    let won = c.requires.won in
    let first = get_or c.args.tree.now.winners.items 1 0 in
    let at : c.index-first.result.now ≡ first = grind (arith, common_steps) in
    let some : 0 < length cs = grind (arith, common_steps) in
    let count = hands_length cs in
    let within : first < length cs = subst (λ n. first < n) count (won.inputs.within 1 (omega arith) (omega (arith, count, some))) in
    let there = hand_at cs first c.index-cursors-first.result within (c.index-cursors-first.is ∙ ap (λ i. get_or cs i c.index-cursors-first.result) at) in
    subst (λ i. IsLeastAt i (hands_of cs)) (sym at) (winner_least (hands_of cs) c.args.tree.now.winners.items (lent c.in-Some.field-0) c.in-Some.ensures.some.0 won (there ∙ c.in-Some.ensures.some.1))

pub returns-in-None-clause-none : goal.returns-in-None-clause-none
returns-in-None-clause-none c =
    let cs = c.args.cursors.now in
    let won = c.requires.won in
    let first = get_or c.args.tree.now.winners.items 1 0 in
    let at : c.index-first.result.now ≡ first = grind (arith, common_steps) in
    let some : 0 < length cs = grind (arith, common_steps) in
    let count = hands_length cs in
    let within : first < length cs = subst (λ n. first < n) count (won.inputs.within 1 (omega arith) (omega (arith, count, some))) in
    let there = hand_at cs first c.index-cursors-first.result within (c.index-cursors-first.is ∙ ap (λ i. get_or cs i c.index-cursors-first.result) at) in
    winner_none (hands_of cs) c.args.tree.now.winners.items won (there ∙ c.in-None.ensures.none)
