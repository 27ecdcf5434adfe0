use Rattle.mesa_os.specs.Calls.{IsOpened}
use Rattle.mesa_dir.proofs.streams.open_behind_streams.Given as goal

abbrev pub invariant-streams : goal.invariant-streams
invariant-streams g l = IsOpened l.path (g.S.System.calls l.folder)
