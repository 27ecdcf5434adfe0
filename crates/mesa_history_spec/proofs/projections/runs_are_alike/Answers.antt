use Rattle.std.proofs.Common.{ap}
use Rattle.mesa_history_spec.specs.Run.{begins}
use Rattle.mesa_history_spec.proofs.BareTurns.{turned-bare}
use Rattle.mesa_history_spec.proofs.Alike.{runs_alike, legal_alike, refused_alike}
use Rattle.mesa_history_spec.proofs.projections.runs_are_alike.Goals as goal

pub returns : goal.returns
returns c = record {
  turn = turned-bare;
  run = runs_alike;
  legal = legal_alike;
  refused = λ a b script h same. refused_alike script (begins a) (begins b) h (ap begins same);
}
