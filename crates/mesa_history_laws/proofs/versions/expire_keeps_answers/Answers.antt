use Rattle.mesa_history_laws.proofs.Expiry.{expire_keeps, expire_leaves}
use Rattle.mesa_history_laws.proofs.versions.expire_keeps_answers.Goals as goal

pub returns : goal.returns
returns c = record { stays = expire_keeps; others = expire_leaves }
