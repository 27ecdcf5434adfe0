use Rattle.std.proofs.Common.{◌∙◌, ap, sym, length}
use Rattle.mesa_batch.proofs.Flats.{count_is}
use Rattle.mesa_batch.proofs.flat.FlatRows.len.Goals as goal

pub returns-clause-count : goal.returns-clause-count
returns-clause-count c =
    let r = c.self.inside in
    ap length c.as_slice.ensures.value ∙ sym (count_is r.tables.items r.keys r.values.items r.ends.items c.self.invariant) ∙ ap length c.self.view_is
