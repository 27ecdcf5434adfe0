use Rattle.mesa_batch.specs.Batch.{batch_of}
use Rattle.mesa_batch.specs.Glance.{tables_of}
use Rattle.mesa_load.proofs.Prepared.{batched, read_rows}
use Rattle.mesa_load.proofs.preparing.prepare.Goals as goal

pub build_parts-requires-after_bounds : goal.build_parts-requires-after_bounds
build_parts-requires-after_bounds g c κs within = read_rows (batch_of (tables_of c.args.glance.now) c.args.rows.now) c.args.glance.now c.in_ok-batch.batch c.in_ok-batch.ensures.read

pub returns-clause-prepared : goal.returns-clause-prepared
returns-clause-prepared g c =
    λ batch is.
    let sight = c.args.glance.now in
    let read = batched (batch_of (tables_of sight) c.args.rows.now) sight batch c.in_ok-batch.batch is c.in_ok-batch.ensures.read in
    record { generation = c.generation.ensures; parts = c.in_ok-parts.ensures.parts batch read }

pub returns-clause-undrawn : goal.returns-clause-undrawn
returns-clause-undrawn g c =
    λ batch is passes.
    let sight = c.args.glance.now in
    c.build_parts.ensures.undrawn batch (batched (batch_of (tables_of sight) c.args.rows.now) sight batch c.in_ok-batch.batch is c.in_ok-batch.ensures.read) passes
