-- What a script asks of a vault.
use denote.Bor.{Bor}
use Rattle.std.specs.Prelude.{Option, Some, None}
use Rattle.mesa_model.specs.declared.commands.Command.{Command}

abbrev pub lent_command : Option (Bor Command) → Option Command
lent_command None = None
lent_command (Some c) = Some c.now
