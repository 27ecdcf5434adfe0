use Rattle.mesa_test_oracle.proofs.warehouse.PlainWarehouse.version_asked.Goals as goal

pub returns-in-Latest-clause-asked : goal.returns-in-Latest-clause-asked
returns-in-Latest-clause-asked c = rw c.in-Latest.is (c.newest_version.ensures.asked c.args.oldest)
