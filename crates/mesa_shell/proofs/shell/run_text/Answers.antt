use Rattle.std.proofs.Common.{inl, inr}
use Rattle.mesa_shell.proofs.shell.run_text.Goals as goal

pub returns-in-Ok : goal.returns-in-Ok
returns-in-Ok g c = inr (inl (c.in-Ok.script, c.in-Ok.ensures.read, c.run_script.ensures))

pub returns-in-Err-Memory : goal.returns-in-Err-Memory
returns-in-Err-Memory g c = inr (inr (c.lacks_memory.ensures.disk, c.lacks_memory.ensures.ended))
