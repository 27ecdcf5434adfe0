use Rattle.std.proofs.Common.{◌≡◌, ◌∙◌, ◌++◌, ◌∷◌, [], ℕ, ℤ, List, ap, length, subst, sym}
use Rattle.std.specs.Prelude.{Some, slice_get}
use Rattle.mesa_columns.specs.declared.rows.Row.{Row}
use Rattle.mesa_columns.specs.Lent.{lent}
use Rattle.mesa_block.proofs.Lifting.{lifted_more, values_count}
use Rattle.mesa_block.proofs.flat.lifted_rows.Goals as goal

pub loop-i-preserved : goal.loop-i-preserved
loop-i-preserved c =
    let b = c.rows.inside in
    let row : Row = lent c.row.result in
    let there : slice_get c.args.rows.now c.loop-i.i ≡ Some row = c.row.ensures in
    let size : length row.values ≡ b.count = values_count b.count b.keys b.values.items c.loop-i.i row c.rows.invariant (subst (λ (l : List Row). slice_get l c.loop-i.i ≡ Some row) (sym c.rows.view_is) there) in
    let now = c.put.new.lifted in
    lifted_more c.count-count.result c.args.lift.now c.args.rows.now c.loop-i.i c.loop-i.keys c.push.new.self c.loop-i.values.items c.extend_from_slice.new.self.items row now c.loop-i.invariant there (c.count-count.ensures row size) c.in_ok-put.ensures
    (c.in_ok-push.ensures.ok ∙ ap (λ (k : List ℕ). c.loop-i.keys ++ k ∷ []) c.as_slice.ensures) (c.in_ok-extend_from_slice.ensures.items ∙ ap (λ (l : List ℤ). c.loop-i.values.items ++ l) c.as_slice-in-loop-i.ensures)
