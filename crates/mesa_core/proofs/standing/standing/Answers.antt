use Rattle.std.proofs.Common.{not, subst}
use Rattle.mesa_engine.specs.Engine.{Standing, starts_of}
use Rattle.mesa_engine.specs.Vault.{Starts}
use Rattle.mesa_engine.proofs.BeforeTurns.{vault_at_seen}
use Rattle.mesa_recast_turns.specs.mesa_history_spec.Rows.{no_rows}
use Rattle.mesa_recast_turns.specs.mesa_invariant_spec.Turns.{IsSeen}
use Rattle.mesa_core.proofs.standing.standing.Goals as goal

pub returns : goal.returns
returns g c =
    let N = g.N.Naming in
    let n : Starts = starts_of N.script N.start N.sound N.origin N.since N.counted N.at_start in
    let i = c.engine.inside in
    let story = g.D.Disk.story i.disk in
    subst (λ (s : Standing). IsSeen N.script (N.start no_rows) s.shown) c.engine.view_is
    (vault_at_seen n i.metadata.state story (g.K.Sink.held i.log.printer.sink) i.log.history.items (not i.log.printer.broken) i.log.refused story.moment c.engine.invariant.vault)
