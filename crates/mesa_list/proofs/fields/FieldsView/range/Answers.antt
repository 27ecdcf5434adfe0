use Rattle.std.proofs.Common.{length, ap, arith}
use Rattle.mesa_list.proofs.Pieces.{count_of_pieces, pieces_between, rise_between}
use Rattle.mesa_list.proofs.fields.FieldsView.range.Goals as goal

pub begin_of-requires : goal.begin_of-requires
begin_of-requires c = omega (arith, ap length c.self.view_is, count_of_pieces c.self.inside.bytes.now c.self.inside.start c.self.inside.ends.now)

pub offset_bounds-self-inside-from : goal.offset_bounds-self-inside-from
offset_bounds-self-inside-from c = omega (arith, ap length c.self.view_is, count_of_pieces c.self.inside.bytes.now c.self.inside.start c.self.inside.ends.now)

pub slice_bounds-result-end : goal.slice_bounds-result-end
slice_bounds-result-end c = omega (arith, ap length c.self.view_is, count_of_pieces c.self.inside.bytes.now c.self.inside.start c.self.inside.ends.now)

pub invariant_of-result : goal.invariant_of-result
invariant_of-result c =
    let part = rise_between c.self.inside.start c.self.inside.ends.now c.args.from c.args.to c.self.invariant.0 in
    rw c.begin_of.ensures (part.0, omega (arith, part.1, c.self.invariant.1))

pub returns : goal.returns
returns c = rw (c.begin_of.ensures, ← c.self.view_is) (pieces_between c.self.inside.bytes.now c.self.inside.start c.self.inside.ends.now c.args.from c.args.to)
