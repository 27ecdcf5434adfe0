use Rattle.mesa_store_spec.proofs.Plans.{due_work_fits}
use Rattle.mesa_store_spec.proofs.works.due_works_fit.Goals as goal

pub returns : goal.returns
returns g c t oldest next work due later more = due_work_fits c t oldest next work due later more
