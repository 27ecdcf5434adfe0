use Rattle.std.proofs.Common.{◌≡◌, ◌<◌, ◌+◌, [], get_or, length, sym, subst, arith}
use Rattle.mesa_scan.specs.Cursors.{at_hand}
use Rattle.mesa_merge.specs.Hands.{hands_of}
use Rattle.mesa_merge.specs.Sums.{HasHead}
use Rattle.mesa_merge.proofs.Hands.{hand_at, hands_length}
use Rattle.mesa_merge.proofs.Newest.{IsNewestTo, newest_all, newest_first, newest_here, newest_there}
use Rattle.mesa_merge.proofs.sums.newest_with.Goals as goal
use Rattle.mesa_merge.proofs.sums.newest_with.Goals.{then-has_key, else-has_key}

pub inputs-init : goal.inputs-init
inputs-init c = newest_first c.args.key.now c.args.from (hands_of c.args.cursors.now) (omega (arith, hands_length c.args.cursors.now, c.requires))

pub inputs-preserved : goal.inputs-preserved
inputs-preserved c =
    let cs = c.args.cursors.now in
    let j = c.inputs.j in
    let key = c.args.key.now in
    let hand : get_or (hands_of cs) j [] ≡ at_hand c.index-cursors-j.result = hand_at cs j c.index-cursors-j.result c.inputs-test.true c.index-cursors-j.is in
    let lt : j < length (hands_of cs) = omega (arith, hands_length cs, c.inputs-test.true) in
    elim c.if-has_key.branch [
      | then-has_key w ↦ subst (λ n. IsNewestTo key c.args.from n (j + 1) (hands_of cs)) (sym w.newest-is) (newest_here key c.args.from c.inputs.newest j (hands_of cs) c.inputs.invariant lt (subst (HasHead key) (sym hand) (w.if-has_key.ensures.yes)))
      | else-has_key w ↦ subst (λ n. IsNewestTo key c.args.from n (j + 1) (hands_of cs)) (sym w.newest-is) (newest_there key c.args.from c.inputs.newest j (hands_of cs) c.inputs.invariant (λ head. w.if-has_key.ensures.no (subst (HasHead key) hand head)))
    ]

pub returns-clause-newest : goal.returns-clause-newest
returns-clause-newest c = newest_all c.args.key.now c.args.from c.inputs.newest c.inputs.j (hands_of c.args.cursors.now) c.inputs.invariant (omega (arith, hands_length c.args.cursors.now, c.inputs-test.false))

pub returns-clause-within : goal.returns-clause-within
returns-clause-within c = omega (arith, hands_length c.args.cursors.now, c.inputs.invariant.within)
