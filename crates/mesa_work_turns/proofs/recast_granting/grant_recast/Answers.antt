use Rattle.std.proofs.Common.{◌≤◌, length, false}
use Rattle.mesa_write_turns.specs.mesa_history_spec.Rows.{no_rows}
use Rattle.mesa_work_turns.proofs.recast_granting.grant_recast.Goals as goal

pub claim_recast-requires : goal.claim_recast-requires
claim_recast-requires g c = let few : length c.engine.inside.metadata.state.catalogue.tables ≤ 32 = (c.engine.invariant.vault no_rows false (λ is. absurd cc)).shaped.few in few

pub returns-in-Err-clause-disk : goal.returns-in-Err-clause-disk
returns-in-Err-clause-disk g c = λ low e grew is. absurd (c.fail.ensures.disk low e grew is)
