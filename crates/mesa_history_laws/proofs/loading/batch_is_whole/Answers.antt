use Rattle.mesa_history_laws.proofs.Counting.{versions_counted}
use Rattle.mesa_history_laws.proofs.Refusing.{refused_stays}
use Rattle.mesa_history_laws.proofs.Wholes.{view_is, whole_or_none}
use Rattle.mesa_history_laws.proofs.loading.batch_is_whole.Goals as goal

pub returns : goal.returns
returns c = record { load = whole_or_none; versions = versions_counted; refused = refused_stays; view = view_is }
