use Rattle.mesa_print.proofs.line.Line.put_reply.Goals as goal

pub returns-in-Released-clause-puts : goal.returns-in-Released-clause-puts
returns-in-Released-clause-puts c = rw c.in-Released.is c.put_labelled-in-Released.ensures.puts

pub returns-in-Busy-clause-puts : goal.returns-in-Busy-clause-puts
returns-in-Busy-clause-puts c = rw c.in-Busy.is c.put_labelled-in-Busy.ensures.puts
