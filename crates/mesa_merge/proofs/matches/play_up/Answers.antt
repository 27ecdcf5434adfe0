use Rattle.mesa_merge.specs.Hands.{hands_of}
use Rattle.mesa_merge.proofs.Trees.{won_all, won_more}
use Rattle.mesa_merge.proofs.matches.play_up.Goals as goal

pub levels-preserved : goal.levels-preserved
levels-preserved c = won_more (hands_of c.args.cursors.now) c.levels.place c.first_of.result c.levels.winners c.levels.invariant c.levels-test.true c.first_of.ensures.one c.first_of.ensures.before_a c.first_of.ensures.before_b

pub returns : goal.returns
returns c = won_all (hands_of c.args.cursors.now) c.levels.place c.levels.winners c.levels.invariant c.levels-test.false
