use Rattle.std.proofs.Common.{◌∙◌}
use Rattle.mesa_session_turns.proofs.Pinned.{known_along}
use Rattle.mesa_session_turns.proofs.outside.answered.Goals as goal

pub answered_warm-requires-after_bounds : goal.answered_warm-requires-after_bounds
answered_warm-requires-after_bounds g c = λ κs below. (c.requires.0, c.in-Ok.ensures.same.pinned c.requires.0 c.requires.1)

pub answered_as_is-requires-after_bounds : goal.answered_as_is-requires-after_bounds
answered_as_is-requires-after_bounds g c = λ κs below. (c.requires.0, c.in-Err.ensures.given_back.pinned c.requires.0 c.requires.1)

pub returns-in-Ok-clause-known : goal.returns-in-Ok-clause-known
returns-in-Ok-clause-known g c = c.answered_warm.ensures.known ∙ known_along g.R.FileReader.bytes c.args.pinned c.in-Ok.warm c.in-Ok.ensures.same

pub returns-in-Err-clause-known : goal.returns-in-Err-clause-known
returns-in-Err-clause-known g c = c.answered_as_is.ensures.known ∙ known_along g.R.FileReader.bytes c.args.pinned c.in-Err.pinned c.in-Err.ensures.given_back
