use Rattle.mesa_dir.specs.Paths.{one_path_of, zero_path_of}
use Rattle.mesa_dir.proofs.Trusted.{cleared_trusted, locked_trusted, opened_trusted}
use Rattle.mesa_dir.proofs.folder.Folder.open.Goals as goal

pub settle-requires : goal.settle-requires
settle-requires g c = record {
  names = cleared_trusted c.args.path.now _ c.in_ok-files.ensures.names;
  zero = locked_trusted (zero_path_of c.args.path.now) _ c.in_ok-files.ensures.zero;
  one = opened_trusted (one_path_of c.args.path.now) _ c.in_ok-files.ensures.one;
}
