use Rattle.mesa_history_laws.proofs.WellFormed.{empty_well, go_well, runs_well, step_well}
use Rattle.mesa_history_laws.proofs.laws.keeps_well_formed.Goals as goal

pub returns : goal.returns
returns c = record { empty = empty_well; command = step_well; turn = go_well; history = runs_well }
