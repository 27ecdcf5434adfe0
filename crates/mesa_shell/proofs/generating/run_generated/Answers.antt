use Rattle.std.proofs.Common.{inl, inr, sym, ap, ◌∙◌}
use Rattle.mesa_script.specs.Script.{script_of}
use Rattle.mesa_shell.proofs.generating.run_generated.Goals as goal

pub run_in_memory-requires-clause-read : goal.run_in_memory-requires-clause-read
run_in_memory-requires-clause-read g c lives bounds = ap script_of (sym c.in-Ok.ensures) ∙ c.in-Ok-parse.ensures.read

pub returns-in-Err : goal.returns-in-Err
returns-in-Err g c = inr (c.lacks_memory.ensures.disk, c.lacks_memory.ensures.ended)

pub returns-in-Ok-parse : goal.returns-in-Ok-parse
returns-in-Ok-parse g c = inl (c.in-Ok-parse.script, ap script_of (sym c.in-Ok.ensures) ∙ c.in-Ok-parse.ensures.read, c.run_in_memory.ensures)

pub returns-in-Err-parse : goal.returns-in-Err-parse
returns-in-Err-parse g c = inr (c.lacks_memory-in-Err-parse.ensures.disk, c.lacks_memory-in-Err-parse.ensures.ended)
