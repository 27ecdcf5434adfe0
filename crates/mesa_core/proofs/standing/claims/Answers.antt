use Rattle.std.proofs.Common.{◌≡◌, not, sym, ap, subst, false}
use Rattle.mesa_engine.specs.Engine.{Standing, starts_of}
use Rattle.mesa_recast_turns.specs.mesa_history_spec.Claims.{HasClaimAt}
use Rattle.mesa_recast_turns.specs.mesa_history_spec.Machine.{Machine}
use Rattle.mesa_recast_turns.specs.mesa_history_spec.Run.{place_of}
use Rattle.mesa_engine.proofs.BeforeTurns.{vault_claims}
use Rattle.mesa_engine.specs.Vault.{Starts, outset_of}
use Rattle.mesa_recast_turns.specs.mesa_history_spec.Rows.{no_rows}
use Rattle.mesa_recast_turns.specs.mesa_invariant_spec.Invariant.{run_at}
use Rattle.mesa_core.proofs.standing.claims.Goals as goal

pub returns-clause-leases : goal.returns-clause-leases
returns-clause-leases g c =
    let N = g.N.Naming in
    subst (λ (s : Standing). s.state.leases ≡ (run_at N.script (N.start no_rows) s.shown.history).state.machine.leases) c.engine.view_is
    (sym (ap (λ (m : Machine). m.leases) (c.engine.invariant.vault no_rows false (λ is. absurd cc)).invariant.state.machine))

pub returns-clause-claims : goal.returns-clause-claims
returns-clause-claims g c = λ session.
    let N = g.N.Naming in
    let n : Starts = starts_of N.script N.start N.sound N.origin N.since N.counted N.at_start in
    let i = c.engine.inside in
    subst (λ (s : Standing). HasClaimAt (run_at N.script (N.start no_rows) s.shown.history).state (place_of (run_at N.script (N.start no_rows) s.shown.history) session).stage) c.engine.view_is
    (vault_claims (outset_of n no_rows) (N.origin no_rows) false i.metadata.state (g.D.Disk.story i.disk) (g.K.Sink.held i.log.printer.sink) i.log.history.items (not i.log.printer.broken) i.log.refused (c.engine.invariant.vault no_rows false (λ is. absurd cc)) session)

pub returns-clause-ranges : goal.returns-clause-ranges
returns-clause-ranges g c = (c.engine.invariant.vault no_rows false (λ is. absurd cc)).ranges
