use Rattle.std.proofs.Common.{◌++◌, codes, decimal}
use Rattle.mesa_print.proofs.Texts.{puts_three}
use Rattle.mesa_print.proofs.line.Line.put_lost.Goals as goal

pub returns-in-None-clause-puts : goal.returns-in-None-clause-puts
returns-in-None-clause-puts c = rw c.in-None.is (puts_three _ _ _ (codes "lost lease=" ++ decimal c.args.lease) (codes " holder=") (codes "none") c.put_labelled.ensures.puts c.put.ensures.puts)

pub returns-in-Some-clause-puts : goal.returns-in-Some-clause-puts
returns-in-Some-clause-puts c = rw c.in-Some.is c.put_pair.ensures.puts
