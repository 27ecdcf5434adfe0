use Rattle.std.proofs.Common.{List, sym, subst}
use Rattle.mesa_merge.specs.Inputs.{Known}
use Rattle.mesa_answer.specs.Gathering.{Wanted}
use Rattle.mesa_group_blocks.specs.declared.jobs.Job.{Job}
use Rattle.mesa_group_blocks.specs.Jobs.{CanGroup}
use Rattle.mesa_group_blocks.proofs.beside.group_all.Goals as goal

pub for_each_mut-requires-clause-accepts : goal.for_each_mut-requires-clause-accepts
for_each_mut-requires-clause-accepts g c = λ κs within i p lt is.
    subst (λ (job : Job). (files : List Known) × (w : Wanted) × CanGroup files w c.args.filter.now c.args.decodings.now job) (sym is) (c.requires i p.now lt)
