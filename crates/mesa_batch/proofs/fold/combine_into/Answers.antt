use Rattle.std.proofs.Common.{◌<◌, ◌∙◌, arith, get_or, length, pos, rules}
use mir.Val.{SFits}
use mir.Syntax.{w128}
use Rattle.std.proofs.lemmas.Int.{to_z-of_z}
use Rattle.mesa_batch.proofs.Columns.{AllCombine-next, combined-next, fits-next, length-set}
use Rattle.mesa_batch.proofs.fold.combine_into.Goals as goal

pub combine-value-requires : goal.combine-value-requires
combine-value-requires c =
    let inv = c.columns.invariant in
    let a : c.columns.i < length c.args.aggs.now = c.columns-test.true in
    let b : c.columns.i < length c.columns.old = omega (arith, inv.full) in
    let d : c.columns.i < length c.args.new.now = omega (arith, c.requires.new_full) in
    let old : SFits w128 (get_or c.as_slice.result.now c.columns.i (pos 0)) = search rules in
    let new : SFits w128 (get_or c.args.new.now c.columns.i (pos 0)) = search rules in
    simp to_z-of_z (rw c.as_slice.ensures (AllCombine-next c.args.aggs.now c.columns.old c.args.new.now c.columns.i a b d inv.fits).0)

pub columns-preserved : goal.columns-preserved
columns-preserved c =
    let inv = c.columns.invariant in
    let a : c.columns.i < length c.args.aggs.now = c.columns-test.true in
    let b : c.columns.i < length c.columns.old = omega (arith, inv.full) in
    let d : c.columns.i < length c.args.new.now = omega (arith, c.requires.new_full) in
    let old : SFits w128 (get_or c.as_slice.result.now c.columns.i (pos 0)) = search rules in
    let new : SFits w128 (get_or c.args.new.now c.columns.i (pos 0)) = search rules in
    let made : SFits w128 c.combine-value.result = search rules in
    let value = rw c.as_slice.ensures at (simp to_z-of_z at c.combine-value.ensures) in
    simp to_z-of_z (record {
      done = combined-next c.args.aggs.now c.columns.old c.args.new.now c.columns.i c.combine-value.result a b d value ∙ inv.done;
      fits = fits-next c.args.aggs.now c.columns.old c.args.new.now c.columns.i c.combine-value.result a b d inv.fits;
      full = length-set c.columns.old c.columns.i c.combine-value.result ∙ inv.full;
    })
