use Rattle.std.proofs.Common.{◌∙◌, ap, sym, Some}
use Rattle.std.specs.Prelude.{slice_get}
use Rattle.mesa_batch.specs.Gathered.{rows_at}
use Rattle.mesa_batch.proofs.Finished.{row_there}
use Rattle.mesa_batch.proofs.batch.Batch.row.Goals as goal

pub returns : goal.returns
returns c =
    let b = c.self.inside in
    let within = rw (← c.self.view_is) at c.requires in
    ap (λ batch. slice_get (rows_at c.args.table batch) c.args.place) (sym c.self.view_is)
    ∙ row_there b.rows b.tables c.args.table c.args.place c.places_of-places.result.now c.places_of-places.ensures within
    ∙ ap Some (sym c.row.ensures)
