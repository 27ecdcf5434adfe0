use Rattle.std.proofs.Common.{ap, ◌∙◌}
use Rattle.mesa_os.specs.Calls.{is_named, is_trusted}
use Rattle.mesa_dir.proofs.Trusted.{settled_trusted, synced_named, synced_trusted}
use Rattle.mesa_dir.proofs.folder.Folder.settle.Goals as goal

pub invariant_of-folder : goal.invariant_of-folder
invariant_of-folder g c = record {
  named = λ has. ap is_named c.in_ok-sync.ensures ∙ synced_named (g.S.System.calls c.args.files.opened.folder);
  whole = λ kept. record {
    names = ap is_trusted c.in_ok-sync.ensures ∙ synced_trusted (g.S.System.calls c.args.files.opened.folder) c.requires.names;
    zero = settled_trusted (g.S.System.calls c.args.files.zero) c.in_ok-zero.zero_len (g.S.System.calls c.in_ok-zero.zero.file) c.in_ok-zero.ensures c.requires.zero;
    one = settled_trusted (g.S.System.calls c.args.files.one) c.in_ok-one.one_len (g.S.System.calls c.in_ok-one.one.file) c.in_ok-one.ensures c.requires.one;
  };
}
