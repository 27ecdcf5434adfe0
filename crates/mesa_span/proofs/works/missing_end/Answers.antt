use Rattle.std.proofs.Common.{arith, ◌≡◌, ◌+◌, [], drop}
use Rattle.std.proofs.lemmas.Grind.{common_steps}
use Rattle.std.proofs.lemmas.Bool.Decides.{nat_tests}
use Rattle.mesa_span.proofs.Missing.{walked, walked_to}
use Rattle.mesa_span.proofs.works.missing_end.Goals as goal

pub returns-then-end-newest-clause-missing : goal.returns-then-end-newest-clause-missing
returns-then-end-newest-clause-missing c =
    let all : drop c.loop-there.there-index c.args.ends.now ≡ [] = grind (arith, common_steps) in
    let end : c.loop-there.end ≡ walked (c.args.start + 9) c.args.ends.now = grind (arith, common_steps, c.loop-there.invariant.walked) in
    grind (arith, nat_tests, walked_to c.args.start c.args.newest c.loop-there.end c.args.ends.now c.requires.rise end)

pub returns-else-end-newest-clause-missing : goal.returns-else-end-newest-clause-missing
returns-else-end-newest-clause-missing c =
    let all : drop c.loop-there.there-index c.args.ends.now ≡ [] = grind (arith, common_steps) in
    let end : c.loop-there.end ≡ walked (c.args.start + 9) c.args.ends.now = grind (arith, common_steps, c.loop-there.invariant.walked) in
    grind (arith, nat_tests, walked_to c.args.start c.args.newest c.loop-there.end c.args.ends.now c.requires.rise end)
