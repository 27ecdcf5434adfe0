use Rattle.std.proofs.Common.{◌∙◌, ◌+◌, ap, arith}
use Rattle.mesa_engine.specs.mesa_store_spec.Catalog.{Catalog, meta_at}
use Rattle.mesa_model.specs.declared.replies.Reply.TheVariants as reply
use Rattle.mesa_work_turns.proofs.mesa_schema.LineageRecasts.{recast_allowed}
use Rattle.mesa_open_files.specs.Recasts.{recast_in, recast_table}
use Rattle.mesa_recast_turns.proofs.Regroups.{told_is}
use Rattle.mesa_recast_turns.proofs.readying.prepare.Goals as goal

-- the rules leave room for one epoch more
pub overflow_add-epoch : goal.overflow_add-epoch
overflow_add-epoch g c =
    let t = c.args.task.now in
    let room = (recast_allowed (recast_table t) (recast_in t) c.requires.task.allowed).room in
    let epoch = c.requires.task.epoch in
    omega (arith, room, epoch)

pub returns-clause-reply : goal.returns-clause-reply
returns-clause-reply g c =
    let t = c.args.task.now in
    let name = c.in_ok-table.ensures ∙ c.name.ensures ∙ ap (λ (k : Catalog). (meta_at k t.table).name) c.catalog.ensures in
    ap (λ n. reply.Recast n (t.epoch + 1)) name ∙ told_is c.args.metadata.now.state t c.requires.same c.requires.task.epoch
