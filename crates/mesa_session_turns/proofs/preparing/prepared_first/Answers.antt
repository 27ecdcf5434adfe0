use Rattle.mesa_core.specs.mesa_history_spec.Rows.{no_rows}
use Rattle.mesa_core.specs.Sight.{sight_after}
use Rattle.mesa_session_turns.proofs.Prepared.{first_stays}
use Rattle.mesa_session_turns.proofs.preparing.prepared_first.Goals as goal

pub returns-clause-stays : goal.returns-clause-stays
returns-clause-stays g c =
    first_stays g.M.Made.bytes g.M.Made.id_of (sight_after g.N.Naming.script (g.N.Naming.start no_rows) (g.N.Naming.origin no_rows).generation) (c.sights_last.ensures g.N.Naming.script (g.N.Naming.start no_rows) (g.N.Naming.origin no_rows).generation)
    c.args.looked c.generation_seen-generation.result c.args.rows.now c.prepared_by.result c.prepared_by.ensures.seen c.prepared_by.ensures.unseen c.generation_seen-generation.ensures
