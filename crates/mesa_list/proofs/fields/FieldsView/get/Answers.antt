use Rattle.std.proofs.Common.{◌∙◌, ap, arith, sym}
use Rattle.std.specs.Prelude.{slice_get}
use Rattle.mesa_list.proofs.Pieces.{no_piece_at, piece_at, place_rises}
use Rattle.mesa_list.proofs.fields.FieldsView.get.Goals as goal

pub returns-then-i-self : goal.returns-then-i-self
returns-then-i-self c =
    sym (no_piece_at c.self.inside.bytes.now c.self.inside.start c.self.inside.ends.now c.args.i (omega arith)) ∙ ap (λ fields. slice_get fields c.args.i) c.self.view_is

pub slice_bounds-result-count : goal.slice_bounds-result-count
slice_bounds-result-count c =
    omega (arith, c.begin_of-begin.ensures, place_rises c.self.inside.start c.self.inside.ends.now c.args.i c.self.invariant.0 (omega arith))

pub slice_bounds-result-start : goal.slice_bounds-result-start
slice_bounds-result-start c =
    omega (arith, c.begin_of-begin.ensures, place_rises c.self.inside.start c.self.inside.ends.now c.args.i c.self.invariant.0 (omega arith))

pub slice_bounds-result-end : goal.slice_bounds-result-end
slice_bounds-result-end c =
    omega (arith, c.self.invariant.1, place_rises c.self.inside.start c.self.inside.ends.now c.args.i c.self.invariant.0 (omega arith))

pub returns : goal.returns
returns c =
    rw c.begin_of-begin.ensures
    (piece_at c.self.inside.bytes.now c.self.inside.start c.self.inside.ends.now c.args.i (omega arith)
    ∙ ap (λ fields. slice_get fields c.args.i) c.self.view_is)
