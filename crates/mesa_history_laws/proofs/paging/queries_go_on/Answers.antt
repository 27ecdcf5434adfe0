use Rattle.mesa_history_laws.proofs.LaterPages.{pages_later}
use Rattle.mesa_history_laws.proofs.QueryPages.{whole_there}
use Rattle.mesa_history_laws.proofs.ReachedPages.{pages_reached}
use Rattle.mesa_history_laws.proofs.paging.queries_go_on.Goals as goal

pub returns : goal.returns
returns c = record { whole = whole_there; state = pages_reached; moments = pages_later }
