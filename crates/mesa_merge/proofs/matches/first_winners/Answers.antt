use Rattle.std.proofs.Common.{◌≡◌, ◌+◌, ◌-◌, ◌*◌, ◌<◌, ◌≤◌, get_or, set, sym, ◌∙◌, subst, arith}
use Rattle.std.proofs.lemmas.Grind.{common_steps}
use Rattle.mesa_merge.proofs.Trees.{AreWinnersFrom, winners_leaf, winners_match}
use Rattle.mesa_merge.proofs.matches.first_winners.Goals as goal
use Rattle.mesa_merge.proofs.matches.first_winners.Goals.{then-place-count, else-place-count}

pub places-preserved : goal.places-preserved
places-preserved c =
    let n = c.args.count in
    let inv = c.places.invariant in
    let items = c.places.winners.items in
    let at = c.places.place - 1 in
    let back : c.places.place ≡ at + 1 = omega (arith, c.places-test.true) in
    let was : AreWinnersFrom (at + 1) n items = subst (λ k. AreWinnersFrom k n items) back inv.winners in
    let high : at < n + n = omega (arith, inv.at_most, inv.places, c.places-test.true) in
    let some : 1 ≤ at = omega (arith, c.places-test.true) in
    record {
      places = inv.places;
      at_most = omega (arith, inv.at_most);
      winners = elim c.if-place-count.branch [
        | then-place-count w ↦ subst (λ v. AreWinnersFrom at n (set items at v)) (sym w.t-25-is) (winners_leaf n at items was w.if-place-count.true high)
        | else-place-count w ↦
            let lt : at < n = omega (arith, w.if-place-count.false) in
            let value : _ ≡ get_or items (2 * at) 0 = w.t-25-is ∙ grind (arith, common_steps) in
            subst (λ v. AreWinnersFrom at n (set items at v)) (sym value) (winners_match n at items was some lt)
      ];
    }
