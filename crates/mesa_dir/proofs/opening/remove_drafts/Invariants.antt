use Rattle.mesa_dir.specs.Opening.{DraftsRemoved}
use Rattle.mesa_dir.proofs.opening.remove_drafts.Given as goal

abbrev pub invariant-names : goal.invariant-names
invariant-names g l = DraftsRemoved l.path (g.S.System.calls l.initial.folder) (g.S.System.calls l.folder)
