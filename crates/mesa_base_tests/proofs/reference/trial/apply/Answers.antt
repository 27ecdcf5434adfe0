use Rattle.mesa_base_tests.proofs.reference.trial.apply.Goals as goal

pub returns : goal.returns
returns g c = c.apply.ensures.given c.args.done c.requires.few
