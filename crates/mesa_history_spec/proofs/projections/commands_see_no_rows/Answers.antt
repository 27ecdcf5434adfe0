use Rattle.mesa_history_spec.proofs.BareSteps.{step-bare, query-bare, explain-bare, claim-bare, recast_claim-bare}
use Rattle.mesa_history_spec.proofs.projections.commands_see_no_rows.Goals as goal

pub returns : goal.returns
returns c = record { step = step-bare; query = query-bare; explain = explain-bare; work = claim-bare; recast = recast_claim-bare }
