-- What a run under its name leaves, put together.
use Rattle.std.proofs.Common.{◌≡◌, ◌+◌, ◌<◌, List, [], length, true, false}
use Rattle.std.specs.Prelude.{Result, Ok, Err, IfOk, IfErr}
use Rattle.mesa_io.specs.Causes.{last, Rose}
use Rattle.mesa_model.specs.declared.commands.Script.{Script}
use Rattle.mesa_session.specs.mesa_history_spec.Refused.{some_refused}
use Rattle.mesa_session.specs.mesa_history_spec.Run.{begins}
use Rattle.mesa_session.specs.mesa_history_spec.Rows.{Rows}
use Rattle.mesa_engine.specs.mesa_catalog.declared.begun.Begun.{Begun}
use Rattle.mesa_session.specs.mesa_invariant_spec.Invariant.{AllFound}
use Rattle.mesa_engine.specs.Vault.{IsRead}
use Rattle.mesa_shell.specs.Counting.{HasBenchCounts}
use Rattle.mesa_shell.specs.Ports.{Ports}
use Rattle.mesa_shell.specs.Run.{RanAnyhow, RanSoundly, outset_from}
use Rattle.mesa_shell.specs.StoreStart.{start_of}
use Rattle.mesa_shell.specs.declared.done.Devices.{Devices}
use Rattle.mesa_shell.specs.Begun.{IsSoundBegun}
use Rattle.mesa_shell.specs.Ran.{HasNotRun, RanFrom}
use Rattle.mesa_shell.specs.declared.running.Left.{Left}

module _ {K D M B : Type 0} (ports : Ports K D M B) (script : Script) (b : Begun D) (out : K) (benches : List B) where
  pub has_not_run : (r : Result (Left K D B) (Devices K D B)) → IfErr r (λ d. (ports.held d.out ≡ ports.held out) × (ports.sink_faults d.out ≡ ports.sink_faults out) × (d.benches.items ≡ benches))
      → IfErr r (λ d. (w : Rows) → IsSoundBegun ports.bytes b.since (ports.story b.disk) b.area b.end b.catalog.catalogue w
      → AllFound (outset_from script (start_of script b.catalog.catalogue w) b.since ((ports.story b.disk).faults + (ports.story b.disk).read_faults) (ports.held out)) [] (ports.story d.disk))
      → IfErr r (λ d. (w : Rows) → IsSoundBegun ports.bytes b.since (ports.story b.disk) b.area b.end b.catalog.catalogue w → IsRead (ports.story d.disk))
      → IfErr r (HasNotRun ports script b out benches)
  has_not_run (Ok l) memory kept read = tt
  has_not_run (Err d) memory kept read = record { held = memory.0; faults = memory.1; same = memory.2; found = kept; read = read }

  pub ran_from : (r : Result (Left K D B) (Devices K D B))
      → IfOk r (λ l. (w : Rows) → RanAnyhow script (start_of script b.catalog.catalogue w) l.history.items l.failed b.since ((ports.story b.disk).faults + (ports.story b.disk).read_faults) (ports.story l.disk) (ports.held out) (ports.held l.out))
      → IfOk r (λ l. length l.benches.items ≡ length benches)
      → IfOk r (λ l. (w : Rows) → HasBenchCounts ports.bench_faults (ports.story l.disk) script (begins (start_of script b.catalog.catalogue w)) l.history.items benches l.benches.items)
      → IfOk r (λ l. (w : Rows) → l.refused ≡ some_refused script (begins (start_of script b.catalog.catalogue w)) l.history.items)
      → IfOk r (λ l. l.failed ≡ true → Rose (ports.sink_faults out) (ports.sink_faults l.out)) → IfOk r (λ l. l.failed ≡ false → ports.sink_faults l.out ≡ ports.sink_faults out)
      → IfOk r (λ l. (w : Rows) → IsSoundBegun ports.bytes b.since (ports.story b.disk) b.area b.end b.catalog.catalogue w → (ports.story l.disk).moment < last
      → RanSoundly script (start_of script b.catalog.catalogue w) l.history.items l.failed b.since ((ports.story b.disk).faults + (ports.story b.disk).read_faults) (ports.story l.disk) (ports.held out) (ports.held l.out))
      → IfOk r (RanFrom ports script b out benches)
  ran_from (Ok l) anyhow returned counted told broken whole soundly = record { anyhow = anyhow; returned = returned; counted = counted; told = told; soundly = soundly; broken = broken; whole = whole }
  ran_from (Err d) anyhow returned counted told broken whole soundly = tt
