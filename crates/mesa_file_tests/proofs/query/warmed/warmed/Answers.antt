use Rattle.mesa_file_tests.proofs.query.warmed.warmed.Goals as goal

pub new-requires-clause-pinned : goal.new-requires-clause-pinned
new-requires-clause-pinned g c κs within = c.requires

pub returns : goal.returns
returns g c = (c.requires.0, c.in-Ok.ensures.same.pinned c.requires.0 c.requires.1)
