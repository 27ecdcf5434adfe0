use Rattle.std.specs.Prelude.{◌+◌}
use Rattle.mesa_session.specs.mesa_history_spec.Rows.{no_rows}
use Rattle.mesa_shell.specs.StoreStart.{start_of}
use Rattle.mesa_shell.proofs.Alike.{start_alike}
use Rattle.mesa_shell.specs.Begun.{IsSoundBegun}
use Rattle.mesa_session.specs.mesa_core.Passes.{turns_of}
use Rattle.mesa_shell.specs.Start.{origin_of}
use Rattle.mesa_shell.proofs.running.run_begun.Given as goal

-- the run of this script over this store, as its sink and its disk are
abbrev pub ghosts-run_named : goal.ghosts-run_named
ghosts-run_named g a = record {
  script = a.script.now;
  start = λ rows. start_of a.script.now a.begun.catalog.catalogue rows;
  alike = λ rows. start_alike a.script.now a.begun.catalog.catalogue no_rows rows;
  sound = λ rows. IsSoundBegun g.M.Made.bytes a.begun.since (g.D.Disk.story a.begun.disk) a.begun.area a.begun.end a.begun.catalog.catalogue rows;
  origin = λ rows. origin_of a.begun.catalog.catalogue rows;
  since = a.begun.since;
  counted = (g.D.Disk.story a.begun.disk).faults + (g.D.Disk.story a.begun.disk).read_faults;
  room = turns_of a.script.now.sessions;
  at_start = g.K.Sink.held a.out;
  sink_faults = g.K.Sink.faults a.out;
}
