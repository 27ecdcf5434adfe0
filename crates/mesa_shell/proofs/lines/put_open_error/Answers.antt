use Rattle.mesa_shell.proofs.lines.put_open_error.Goals as goal

pub returns-in-File : goal.returns-in-File
returns-in-File g c = rw c.in-File.is c.put_damage.ensures
