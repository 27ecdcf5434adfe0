use Rattle.std.proofs.Common.{◌≡◌, false, ◌∙◌, ap}
use Rattle.mesa_batch.specs.Glance.{Sight, tables_of}
use Rattle.mesa_catalog.specs.Lookups.{sight_of}
use Rattle.mesa_engine.specs.Vault.{Starts, outset_of}
use Rattle.mesa_invariant_spec.specs.mesa_history_spec.Rows.{no_rows}
use Rattle.mesa_invariant_spec.specs.Sight.{tables_seen}
use Rattle.mesa_invariant_spec.specs.Invariant.{run_at}
use Rattle.mesa_engine.specs.Engine.{Standing, starts_of}
use Rattle.mesa_engine.proofs.Seeing.{ok_also, tables_are_seen}
use Rattle.mesa_engine.proofs.engine.Engine.glance.Goals as goal

pub returns-clause-tables : goal.returns-clause-tables
returns-clause-tables g c =
    let N = g.N.Naming in
    let n : Starts = starts_of N.script N.start N.sound N.origin N.since N.counted N.at_start in
    let i = c.self.inside in
    let l = i.metadata.state in
    let h = i.log.history.items in
    let seen : tables_of (sight_of l.catalogue) ≡ tables_seen (run_at N.script (N.start no_rows) h) =
    tables_are_seen (outset_of n no_rows) (n.origin no_rows) false l (g.D.Disk.story i.disk) (g.K.Sink.held i.log.printer.sink) h _ i.log.refused (c.self.invariant.vault no_rows false (λ is. absurd cc)) in
    ok_also c.glance.result (λ x. x ≡ sight_of c.catalog.result.now.catalogue) (λ x. tables_of x ≡ tables_seen (run_at N.script (N.start no_rows) c.args.self.now.shown.history))
    (λ (x : Sight) is. (let same : tables_of x ≡ tables_of (sight_of l.catalogue) = ap tables_of (is ∙ ap sight_of c.catalog.ensures) in
    same ∙ seen ∙ ap (λ (s : Standing). tables_seen (run_at N.script (N.start no_rows) s.shown.history)) c.self.view_is)) c.glance.ensures
