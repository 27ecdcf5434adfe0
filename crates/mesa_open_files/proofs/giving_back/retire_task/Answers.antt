use Rattle.std.proofs.Common.{flat_map}
use Rattle.mesa_open_files.specs.GivingBack.{spare_inputs}
use Rattle.mesa_open_files.proofs.Counts.{unmoved_more}
use Rattle.mesa_open_files.proofs.Retired.{given_both}
use Rattle.mesa_open_files.proofs.giving_back.retire_task.Goals as goal

pub returns-clause-unmoved : goal.returns-clause-unmoved
returns-clause-unmoved g c = unmoved_more _ _ _ c.retire_all.ensures.unmoved c.retire_spares.ensures.unmoved

pub returns-clause-given : goal.returns-clause-given
returns-clause-given g c = given_both g.D.Reader.FileReader.faults c.args.task.inputs.items (flat_map spare_inputs c.args.task.spare.items) _ _ _ c.retire_all.ensures.given c.retire_spares.ensures.given
