use Rattle.std.proofs.Common.{sym, subst}
use Rattle.std.specs.Prelude.{IfOk}
use Rattle.mesa_batch.specs.Glance.{Sight}
use Rattle.mesa_open_files.specs.Batches.{HasPrepared}
use Rattle.mesa_session_turns.proofs.Prepared.{prepared_is, prepared_owes}
use Rattle.mesa_session_turns.proofs.preparing.prepared_by.Goals as goal

pub returns-in-Ok-clause-seen : goal.returns-in-Ok-clause-seen
returns-in-Ok-clause-seen g c =
    subst (λ o. IfOk o (λ (sight : Sight). HasPrepared g.M.Made.bytes g.M.Made.id_of sight c.args.rows.now c.prepare.result)) (sym c.in-Ok.is)
    (prepared_is g.M.Made.bytes g.M.Made.id_of c.in-Ok.glance c.args.rows.now c.prepare.result _ _ c.prepare.ensures.batch c.prepare.ensures.prepared c.prepare.ensures.refused)

pub returns-in-Ok-clause-owes : goal.returns-in-Ok-clause-owes
returns-in-Ok-clause-owes g c = prepared_owes _ _ _ c.prepare.result c.prepare.ensures.refused c.prepare.ensures.quiet
