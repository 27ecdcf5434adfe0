use Rattle.std.proofs.Common.{◌≡◌, true, false, not, refl, subst, IsTrue}
use Rattle.mesa_io.specs.Causes.{Rose}
use Rattle.mesa_invariant_spec.specs.mesa_history_spec.Legal.{fits_sink}
use Rattle.mesa_invariant_spec.specs.mesa_history_spec.Run.{begins}
use Rattle.mesa_invariant_spec.specs.Printing.{IsPrinted, IsPrintedButRows}
use Rattle.mesa_invariant_spec.specs.Invariant.{run_at}
use Rattle.mesa_invariant_spec.specs.mesa_history_spec.Rows.{no_rows}
use Rattle.mesa_engine.specs.Vault.{Starts}
use Rattle.mesa_engine.specs.Engine.{Standing, starts_of}
use Rattle.mesa_engine.proofs.DiskState.{reads_state}
use Rattle.mesa_engine.proofs.engine.Engine.stop.Goals as goal

pub returns-clause-legal : goal.returns-clause-legal
returns-clause-legal g c w = (c.self.invariant.vault w false (λ is. absurd cc)).invariant.legal

pub returns-clause-sink : goal.returns-clause-sink
returns-clause-sink g c w =
    subst (λ (s : Standing). IsTrue (fits_sink (run_at g.N.Naming.script (g.N.Naming.start w) c.self.inside.log.history.items).last (not s.shown.running))) c.self.view_is (c.self.invariant.vault w false (λ is. absurd cc)).invariant.sink

pub returns-clause-since : goal.returns-clause-since
returns-clause-since g c = c.self.invariant.begun

pub returns-clause-until : goal.returns-clause-until
returns-clause-until g c = (c.self.invariant.vault no_rows false (λ is. absurd cc)).invariant.by

pub returns-clause-later : goal.returns-clause-later
returns-clause-later g c = (c.self.invariant.vault no_rows false (λ is. absurd cc)).invariant.begun

pub returns-clause-counts : goal.returns-clause-counts
returns-clause-counts g c w = (c.self.invariant.vault w false (λ is. absurd cc)).invariant.counts

pub returns-clause-failed : goal.returns-clause-failed
returns-clause-failed g c =
    subst (λ (s : Standing). s.shown.running ≡ false → Rose g.N.Naming.sink_faults (g.K.Sink.faults c.self.inside.log.printer.sink)) c.self.view_is (λ is. c.self.invariant.failed (not_false c.self.inside.log.printer.broken is))
  where
    not_false : (b : _) → not b ≡ false → b ≡ true
    not_false true is = refl
    not_false false is = cc

pub returns-clause-whole : goal.returns-clause-whole
returns-clause-whole g c =
    subst (λ (s : Standing). s.shown.running ≡ true → g.K.Sink.faults c.self.inside.log.printer.sink ≡ g.N.Naming.sink_faults) c.self.view_is (λ is. c.self.invariant.whole (not_true c.self.inside.log.printer.broken is))
  where
    not_true : (b : _) → not b ≡ true → b ≡ false
    not_true true is = cc
    not_true false is = refl

pub returns-clause-first : goal.returns-clause-first
returns-clause-first g c = c.self.invariant.first

pub returns-clause-undamaged : goal.returns-clause-undamaged
returns-clause-undamaged g c = c.self.invariant.undamaged

pub returns-clause-blocks : goal.returns-clause-blocks
returns-clause-blocks g c w =
    subst (λ (s : Standing). IsPrintedButRows g.N.Naming.script (begins (g.N.Naming.start w)) c.self.inside.log.history.items s.shown.running g.N.Naming.at_start (g.K.Sink.held c.self.inside.log.printer.sink)) c.self.view_is (c.self.invariant.vault w false (λ is. absurd cc)).invariant.shown

pub returns-clause-printed : goal.returns-clause-printed
returns-clause-printed g c w is low =
    subst (λ (s : Standing). IsPrinted g.N.Naming.script (begins (g.N.Naming.start w)) c.self.inside.log.history.items s.shown.running g.N.Naming.at_start (g.K.Sink.held c.self.inside.log.printer.sink)) c.self.view_is ((c.self.invariant.vault w true (λ ok. is)).invariant.printed refl low)

pub returns-clause-found : goal.returns-clause-found
returns-clause-found g c w is = (c.self.invariant.vault w true (λ ok. is)).invariant.found refl

pub returns-clause-reads : goal.returns-clause-reads
returns-clause-reads g c w is =
    let N = g.N.Naming in
    let n : Starts = starts_of N.script N.start N.sound N.origin N.since N.counted N.at_start in
    let i = c.self.inside in
    reads_state n w i.metadata.state (g.D.Disk.story i.disk) (g.K.Sink.held i.log.printer.sink) i.log.history.items (not i.log.printer.broken) i.log.refused (c.self.invariant.vault w true (λ ok. is))
