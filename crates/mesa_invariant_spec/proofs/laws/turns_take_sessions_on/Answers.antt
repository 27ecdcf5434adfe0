use Rattle.std.proofs.Common.{true}
use Rattle.mesa_invariant_spec.proofs.Going.{look_takes, publish_takes, simple_takes, close_takes, complete_takes, unmerged_takes}
use Rattle.mesa_invariant_spec.proofs.laws.turns_take_sessions_on.Goals as goal

pub returns : goal.returns
returns c = record { look = look_takes; publish = publish_takes; simple = simple_takes; close = close_takes; complete = complete_takes; unmerged = λ script start old new session number c claim due. unmerged_takes script start old new session number c true claim due }
