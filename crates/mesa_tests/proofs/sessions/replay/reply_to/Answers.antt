use Rattle.mesa_tests.proofs.sessions.replay.reply_to.Goals as goal

pub returns : goal.returns
returns g c = c.apply.ensures.given c.args.done c.requires.few
