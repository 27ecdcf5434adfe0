use Rattle.std.proofs.Common.{arith, subst}
use Rattle.mesa_engine.specs.Vault.{Starts}
use Rattle.mesa_engine.specs.mesa_invariant_spec.Turns.{NoneFell, faults_of}
use Rattle.mesa_engine.specs.Engine.{Standing, starts_of}
use Rattle.mesa_engine.proofs.Turning.{unmoved_engine}
use Rattle.mesa_read_turns.proofs.giving_back.give_back_query.Goals as goal

pub invariant_of-engine : goal.invariant_of-engine
invariant_of-engine g c =
    let N = g.N.Naming in
    let n : Starts = starts_of N.script N.start N.sound N.origin N.since N.counted N.at_start in
    let i = c.engine.inside in
    unmoved_engine g.K.Sink.held g.K.Sink.faults n N.room N.sink_faults i.metadata (g.D.Disk.story i.disk) (g.D.Disk.story c.retire_pinned.new.disk) i.log c.retire_pinned.ensures.unmoved
    (record { faults = omega (arith, c.retire_pinned.ensures.given.calls); reads = c.retire_pinned.ensures.given.later; rose = λ low is. absurd cc }) c.engine.invariant

pub returns-clause-faults : goal.returns-clause-faults
returns-clause-faults g c =
    let given = c.retire_pinned.ensures.given in
    subst (λ (x : Standing). NoneFell x.faults (faults_of (g.D.Disk.story c.retire_pinned.new.disk))) c.engine.view_is (record { calls = omega (arith, given.calls); reads = given.later })
