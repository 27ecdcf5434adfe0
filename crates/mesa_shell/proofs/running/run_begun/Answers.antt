use Rattle.mesa_shell.specs.Ports.{ports}
use Rattle.mesa_shell.proofs.Beginning.{begun_is, few_turns}
use Rattle.mesa_shell.proofs.Leaving.{has_not_run, ran_from}
use Rattle.mesa_shell.proofs.running.run_begun.Goals as goal

pub run_named-requires-clause-begun : goal.run_named-requires-clause-begun
run_named-requires-clause-begun g c lives bounds w b is = begun_is g.D.Disk.story c.args.begun c.requires.ready c.args.script.now _ (g.K.Sink.held c.args.out) g.M.Made.bytes w b is

pub run_named-requires-clause-few : goal.run_named-requires-clause-few
run_named-requires-clause-few g c lives bounds = few_turns c.args.script.now c.requires.small

pub returns-clause-memory : goal.returns-clause-memory
returns-clause-memory g c =
    let e = c.run_named.ensures in
    has_not_run (ports g.K.Sink.held g.K.Sink.faults g.D.Disk.story g.M.Made.bytes g.B.Bench.faults) c.args.script.now c.args.begun c.args.out c.args.benches.items c.run_named.result e.memory e.kept e.read

pub returns-clause-ran : goal.returns-clause-ran
returns-clause-ran g c =
    let e = c.run_named.ensures in
    ran_from (ports g.K.Sink.held g.K.Sink.faults g.D.Disk.story g.M.Made.bytes g.B.Bench.faults) c.args.script.now c.args.begun c.args.out c.args.benches.items c.run_named.result e.anyhow e.returned e.benches e.refused e.failed e.whole e.soundly
