use Rattle.std.proofs.Common.{not, sym, ◌∙◌, subst}
use Rattle.mesa_engine.specs.Engine.{Standing, starts_of}
use Rattle.mesa_engine.specs.Vault.{Starts}
use Rattle.mesa_recast_turns.specs.mesa_history_spec.Rows.{no_rows}
use Rattle.mesa_core.specs.Standing.{IsCatalogAfter}
use Rattle.mesa_core.proofs.Catalogue.{catalogue_is}
use Rattle.mesa_core.proofs.standing.catalogue.Goals as goal

pub returns : goal.returns
returns g c =
    let N = g.N.Naming in
    let n : Starts = starts_of N.script N.start N.sound N.origin N.since N.counted N.at_start in
    let i = c.engine.inside in
    subst (λ (s : Standing). IsCatalogAfter N.script N.start (N.origin no_rows).generation s.shown.history s.state.catalogue) c.engine.view_is
    (catalogue_is n i.metadata.state (g.D.Disk.story i.disk) (g.K.Sink.held i.log.printer.sink) i.log.history.items (not i.log.printer.broken) i.log.refused c.engine.invariant.vault (sym c.generation.ensures.catalogue ∙ c.generation.ensures.state))
