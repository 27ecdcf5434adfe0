use Rattle.std.proofs.Common.{◌++◌, codes}
use Rattle.mesa_print.proofs.Texts.{puts_three}
use Rattle.mesa_print.proofs.line.Line.put_refusal.Goals as goal

pub returns-in-DuplicateKey-clause-puts : goal.returns-in-DuplicateKey-clause-puts
returns-in-DuplicateKey-clause-puts c = rw c.in-DuplicateKey.is c.put_pair-in-DuplicateKey.ensures.puts

pub returns-in-SumBound-clause-puts : goal.returns-in-SumBound-clause-puts
returns-in-SumBound-clause-puts c = rw c.in-SumBound.is (puts_three _ _ _ (codes "sum_bound table=" ++ c.in-SumBound.table) (codes " column=") c.in-SumBound.column c.put_named.ensures.puts c.put_named-in-SumBound.ensures.puts)

pub returns-in-Stale-clause-puts : goal.returns-in-Stale-clause-puts
returns-in-Stale-clause-puts c = rw c.in-Stale.is c.put_pair-in-Stale.ensures.puts

pub returns-in-ReplaceGroup-clause-puts : goal.returns-in-ReplaceGroup-clause-puts
returns-in-ReplaceGroup-clause-puts c = rw c.in-ReplaceGroup.is c.put_named-in-ReplaceGroup.ensures.puts

pub returns-in-BadDefault-clause-puts : goal.returns-in-BadDefault-clause-puts
returns-in-BadDefault-clause-puts c = rw c.in-BadDefault.is c.put_named-in-BadDefault.ensures.puts

pub returns-in-NoPin-clause-puts : goal.returns-in-NoPin-clause-puts
returns-in-NoPin-clause-puts c = rw c.in-NoPin.is c.put_labelled-in-NoPin.ensures.puts

pub returns-in-VersionsFull-clause-puts : goal.returns-in-VersionsFull-clause-puts
returns-in-VersionsFull-clause-puts c = rw c.in-VersionsFull.is c.put_limit-in-VersionsFull.ensures.puts

pub returns-in-Closed-clause-puts : goal.returns-in-Closed-clause-puts
returns-in-Closed-clause-puts c = rw c.in-Closed.is c.put_labelled-in-Closed.ensures.puts

pub returns-in-BadFilter-clause-puts : goal.returns-in-BadFilter-clause-puts
returns-in-BadFilter-clause-puts c = rw c.in-BadFilter.is c.put_labelled.ensures.puts
