use Rattle.mesa_print.proofs.Texts.{puts_newest}
use Rattle.mesa_print.proofs.line.Line.put_future.Goals as goal

pub returns-in-Latest-clause-puts : goal.returns-in-Latest-clause-puts
returns-in-Latest-clause-puts c = rw c.in-Latest.is (puts_newest _ _ _ _ _ c.put.ensures.puts c.put_newest.ensures.puts)

pub returns-in-At-clause-puts : goal.returns-in-At-clause-puts
returns-in-At-clause-puts c = rw c.in-At.is (puts_newest _ _ _ _ _ c.put_labelled.ensures.puts c.put_newest-in-At.ensures.puts)

pub returns-in-Pin-clause-puts : goal.returns-in-Pin-clause-puts
returns-in-Pin-clause-puts c = rw c.in-Pin.is (puts_newest _ _ _ _ _ c.put_labelled-in-Pin.ensures.puts c.put_newest-in-Pin.ensures.puts)
