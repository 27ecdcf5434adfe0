use Rattle.std.proofs.Common.{◌∷◌, ap, arith}
use Rattle.mesa_list.specs.Pieces.{Rise, last_end}
use Rattle.mesa_list.proofs.Pieces.{rise_to}
use Rattle.mesa_list.proofs.fields.FieldsView.take_next.Goals as goal

pub slice_bounds-field-end : goal.slice_bounds-field-end
slice_bounds-field-end c =
    let rises : Rise c.self.inside.start (c.in_ok-end.end.now ∷ c.in_ok-end.ends.now) = rw c.in_ok-end.ensures.cases.0 at c.self.invariant.0 in
    omega (arith, c.self.invariant.1, ap (last_end c.self.inside.start) c.in_ok-end.ensures.cases.0, rise_to c.in_ok-end.end.now c.in_ok-end.ends.now rises.1)
