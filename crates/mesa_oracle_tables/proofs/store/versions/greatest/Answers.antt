use Rattle.std.proofs.Common.{◌<◌, length}
use Rattle.mesa_oracle_tables.specs.Kept.{greatest_of}
use Rattle.mesa_oracle_tables.proofs.Raising.{greatest_step}
use Rattle.mesa_oracle_tables.proofs.store.versions.greatest.Goals as goal

pub oldests-preserved : goal.oldests-preserved
oldests-preserved c =
    let lt : c.oldests.oldest-index < length c.args.oldests.now = c.oldests-test.true in
    rw c.max-found.ensures (greatest_step c.oldests.found c.args.oldests.now c.oldests.oldest-index (greatest_of c.args.floor c.args.oldests.now) lt c.oldests.invariant)
