use Rattle.std.proofs.Common.{◌∙◌, ap, length}
use Rattle.mesa_key.proofs.Cuts.{cut_back}
use Rattle.mesa_key.proofs.encoding.encode.Goals as goal

pub returns-in-Err-clause-err : goal.returns-in-Err-clause-err
returns-in-Err-clause-err c =
    c.truncate.ensures.items ∙ cut_back _ _ _ _ _ c.loop-value.invariant.start (ap length c.loop-value.invariant.spelled) (c.push_value.ensures.kept ∙ c.loop-value.invariant.spelled)
