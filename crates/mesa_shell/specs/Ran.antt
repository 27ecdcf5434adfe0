-- What a run leaves that was begun on a store.
use Rattle.std.specs.Prelude.{◌≡◌, ◌+◌, ◌<◌, List, [], length, true, false}
use Rattle.mesa_io.specs.Causes.{last, Rose}
use Rattle.mesa_model.specs.declared.commands.Script.{Script}
use Rattle.mesa_session.specs.mesa_history_spec.Refused.{some_refused}
use Rattle.mesa_session.specs.mesa_history_spec.Run.{begins}
use Rattle.mesa_session.specs.mesa_history_spec.Rows.{Rows}
use Rattle.mesa_engine.specs.mesa_catalog.declared.begun.Begun.{Begun}
use Rattle.mesa_shell.specs.Counting.{HasBenchCounts}
use Rattle.mesa_shell.specs.Ports.{Ports}
use Rattle.mesa_session.specs.mesa_invariant_spec.Invariant.{AllFound}
use Rattle.mesa_engine.specs.Vault.{IsRead}
use Rattle.mesa_shell.specs.Run.{RanAnyhow, RanSoundly, outset_from}
use Rattle.mesa_shell.specs.StoreStart.{start_of}
use Rattle.mesa_shell.specs.Begun.{IsSoundBegun}
use Rattle.mesa_shell.specs.declared.done.Devices.{Devices}
use Rattle.mesa_shell.specs.declared.running.Left.{Left}

-- A run of a script from the catalogue of a store that was begun: what holds on any store whatever rows its files have, what holds on a sound one, whether the sink failed, and that as many benches come back as were given.
pub record RanFrom {K D M B : Type 0} (ports : Ports K D M B) (script : Script) (b : Begun D) (out : K) (benches : List B) (l : Left K D B) : Type 0 where
  pub anyhow : (rows : Rows) → RanAnyhow script (start_of script b.catalog.catalogue rows) l.history.items l.failed b.since ((ports.story b.disk).faults + (ports.story b.disk).read_faults) (ports.story l.disk) (ports.held out) (ports.held l.out)
  pub returned : length l.benches.items ≡ length benches
  pub counted : (rows : Rows) → HasBenchCounts ports.bench_faults (ports.story l.disk) script (begins (start_of script b.catalog.catalogue rows)) l.history.items benches l.benches.items
  pub told : (rows : Rows) → l.refused ≡ some_refused script (begins (start_of script b.catalog.catalogue rows)) l.history.items
  pub soundly : (rows : Rows) → IsSoundBegun ports.bytes b.since (ports.story b.disk) b.area b.end b.catalog.catalogue rows → (ports.story l.disk).moment < last
      → RanSoundly script (start_of script b.catalog.catalogue rows) l.history.items l.failed b.since ((ports.story b.disk).faults + (ports.story b.disk).read_faults) (ports.story l.disk) (ports.held out) (ports.held l.out)
  pub broken : l.failed ≡ true → Rose (ports.sink_faults out) (ports.sink_faults l.out)
  pub whole : l.failed ≡ false → ports.sink_faults l.out ≡ ports.sink_faults out

-- No turn was taken: the sink was given nothing and hasn't failed, the benches are as they were, and where the store was sound, what a crash may have left is found and a read gives an image.
pub record HasNotRun {K D M B : Type 0} (ports : Ports K D M B) (script : Script) (b : Begun D) (out : K) (benches : List B) (d : Devices K D B) : Type 0 where
  pub held : ports.held d.out ≡ ports.held out
  pub faults : ports.sink_faults d.out ≡ ports.sink_faults out
  pub same : d.benches.items ≡ benches
  pub found : (rows : Rows) → IsSoundBegun ports.bytes b.since (ports.story b.disk) b.area b.end b.catalog.catalogue rows
      → AllFound (outset_from script (start_of script b.catalog.catalogue rows) b.since ((ports.story b.disk).faults + (ports.story b.disk).read_faults) (ports.held out)) [] (ports.story d.disk)
  pub read : (rows : Rows) → IsSoundBegun ports.bytes b.since (ports.story b.disk) b.area b.end b.catalog.catalogue rows → IsRead (ports.story d.disk)
