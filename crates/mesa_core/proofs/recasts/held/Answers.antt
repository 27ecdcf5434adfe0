use Rattle.mesa_recast_turns.specs.mesa_history_spec.Rows.{no_rows}
use Rattle.std.proofs.Common.{inl, inr}
use Rattle.mesa_recast_turns.proofs.mesa_invariant_spec.Alike.{begun_alike}
use Rattle.mesa_core.proofs.RecastHeld.{held_since}
use Rattle.mesa_core.proofs.recasts.held.Goals as goal

pub returns : goal.returns
returns g c =
    let N = g.N.Naming in
    let t = c.args.task.now in
    elim c.requires.granted [
      | inl granted ↦ held_since g.D.Reader.FileReader.bytes N.script N.start N.origin N.sound c.args.engine.now.shown.history t granted c.requires.task c.tables_go_on.ensures.becomes c.tables_go_on.ensures.there c.tables_become.ensures.still
          c.recasts_go_on.ensures c.recasts_are_known.ensures.ranges (λ w past. begun_alike N.script (N.start no_rows) (N.start w) past t.table (N.alike w))
      | inr holds ↦ holds
    ]
