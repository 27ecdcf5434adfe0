use Rattle.std.proofs.Common.{◌∙◌}
use Rattle.mesa_journal.specs.Read.{bodies_of}
use Rattle.mesa_journal.proofs.Scanning.{number_scanned, only_memory}
use Rattle.mesa_journal.proofs.both.live_in.Goals as goal

pub returns-in-Ok-clause-number : goal.returns-in-Ok-clause-number
returns-in-Ok-clause-number c = c.unwrap_or.ensures ∙ number_scanned c.args.bytes.now c.args.first (bodies_of c.in-Ok.read.bodies) c.in-Ok.read.end c.requires c.in-Ok.ensures.found.0

pub returns-in-Err-clause-memory : goal.returns-in-Err-clause-memory
returns-in-Err-clause-memory c = only_memory c.requires.bodies c.requires.end c.in-Err.error (c.in-Err.ensures.whole c.requires.bodies c.requires.end c.requires.whole) c.in-Err.ensures.no_fault
