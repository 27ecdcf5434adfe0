use Rattle.std.proofs.Common.{◌≡◌, ◌-◌, ◌^◌, length, sym, ◌∙◌, ap, subst}
use Rattle.std.specs.Prelude.{replicate}
use Rattle.mesa_merge.specs.Hands.{hands_of}
use Rattle.mesa_merge.specs.Matches.{AreWinners}
use Rattle.mesa_merge.proofs.Fronts.{no_fronts}
use Rattle.mesa_merge.proofs.Hands.{hands_length}
use Rattle.mesa_merge.proofs.Trees.{nothing_won}
use Rattle.mesa_merge.proofs.making.parts_of.Goals as goal

pub returns-clause-tree : goal.returns-clause-tree
returns-clause-tree g c =
    let cs = c.in_ok-cursors.cursors.items in
    let t = c.in_ok-tree.tree in
    let count : c.len.result ≡ length (hands_of cs) = c.len.ensures ∙ c.in_ok-cursors.cursors.ok.0 ∙ sym (hands_length cs) in
    record {
      won = nothing_won (hands_of cs) t.winners.items (subst (λ n. AreWinners n t.winners.items) count c.in_ok-tree.ensures.winners) c.in_ok-cursors.ensures.none;
      fronts = no_fronts (hands_of cs) t.fronts.items (c.in_ok-tree.ensures.fronts ∙ ap (λ n. replicate n (2 ^ 128 - 1)) count) c.in_ok-cursors.ensures.none;
    }
