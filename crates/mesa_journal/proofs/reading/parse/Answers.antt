use Rattle.mesa_journal.proofs.Unique.{agrees, agrees_on_damage}
use Rattle.mesa_journal.proofs.reading.parse.Goals as goal

pub returns-clause-whole : goal.returns-clause-whole
returns-clause-whole c bodies end is = agrees c.args.area.now bodies end _ is c.parse_records.ensures.found

pub returns-clause-damaged : goal.returns-clause-damaged
returns-clause-damaged c at want is = agrees_on_damage c.args.area.now at want _ is c.parse_records.ensures.found
