use Rattle.mesa_file.proofs.Drafts.{others_differ, own_differ}
use Rattle.mesa_file.proofs.serials.draws_differ.Goals as goal

pub returns-clause-own : goal.returns-clause-own
returns-clause-own c = own_differ

pub returns-clause-others : goal.returns-clause-others
returns-clause-others c = others_differ
