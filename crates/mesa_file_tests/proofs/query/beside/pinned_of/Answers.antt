use Rattle.mesa_file_tests.proofs.query.beside.pinned_of.Goals as goal

pub returns : goal.returns
returns g c = (_, record { query = c.query_of.ensures; inputs = c.inputs_of.ensures })
