use Rattle.std.proofs.Common.{◌∙◌}
use Rattle.mesa_oracle_tables.proofs.Bounds.{sums-far}
use Rattle.mesa_oracle_tables.proofs.growing.sums.Goals as goal

pub returns : goal.returns
returns c = c.from_vec.ensures ∙ c.in_ok-after.ensures ∙ sums-far c.args.totals.now c.args.more.now c.requires
