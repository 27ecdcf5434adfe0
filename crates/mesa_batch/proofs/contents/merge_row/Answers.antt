use Rattle.std.proofs.Common.{◌≡◌, suc, ◌++◌, ◌∷◌, get_or, take, drop, sym, subst, ◌∙◌, ap, add-one}
use Rattle.std.specs.declared.cmp.Ordering.TheVariants.{Equal}
use Rattle.mesa_schema.specs.mesa_key.Order.{byte_cmp}
use Rattle.mesa_schema.specs.mesa_columns.declared.rows.Row.{Row}
use Rattle.mesa_schema.specs.mesa_fold.Folded.{AllCombine, row_combined}
use Rattle.mesa_schema.specs.mesa_fold.Put.{put_rows}
use Rattle.mesa_batch.proofs.Place.{comparisons-rise}
use Rattle.mesa_batch.proofs.Sums.{AllCombine-at}
use Rattle.mesa_batch.proofs.Merged.{added_behind, merged-found, merged-missing}
use Rattle.mesa_batch.proofs.contents.merge_row.Goals as goal

pub combine_into-requires-clause-fits : goal.combine_into-requires-clause-fits
combine_into-requires-clause-fits c =
    let rest = c.args.rest.now in
    let old = c.index-rest-at.result in
    let fits = AllCombine-at c.args.aggs.now rest c.args.row.now c.in-Ok.at old c.in-Ok.ensures.within c.requires.bounded in
    rw (c.in_ok-old-in-Ok.ensures, c.as_slice-in-Ok.ensures) (subst (λ (o : Row). AllCombine c.args.aggs.now o.values c.args.row.now.values) (sym c.index-rest-at.is) fits)

pub returns-in_ok-push-in-Ok-clause-merged : goal.returns-in_ok-push-in-Ok-clause-merged
returns-in_ok-push-in-Ok-clause-merged c = λ rows rising.
    let rest = c.args.rest.now in
    let row = c.args.row.now in
    let aggs = c.args.aggs.now in
    let at = c.in-Ok.at in
    let old = c.index-rest-at.result in
    let equal : byte_cmp (get_or rest at old).key row.key ≡ Equal = rw c.as_slice.ensures at (c.in-Ok.ensures.place old) in
    let found = merged-found aggs row rest rows at old c.requires.rising rising c.in-Ok.ensures.within equal in
    let whole = subst (λ (o : Row). put_rows aggs rest (row ∷ rows) ≡ take at rest ++ record o { values = row_combined aggs o.values row.values } ∷ put_rows aggs (drop (suc at) rest) rows) (sym c.index-rest-at.is) found in
    rw (c.in_ok-push-in-Ok.ensures.ok, c.in_ok-copy_rows-in-Ok.ensures, c.combine_into.ensures, c.as_slice-in-Ok.ensures, c.in_ok-old-in-Ok.ensures, add-one)
    (added_behind c.args.merged.now (take at rest) (put_rows aggs (drop (suc at) rest) rows) (record old { values = row_combined aggs old.values row.values }) ∙ ap (λ ys. c.args.merged.now ++ ys) (sym whole))

pub returns-in_ok-push-in-Err-clause-merged : goal.returns-in_ok-push-in-Err-clause-merged
returns-in_ok-push-in-Err-clause-merged c = λ rows rising.
    let rest = c.args.rest.now in
    let row = c.args.row.now in
    let aggs = c.args.aggs.now in
    let at = c.in-Err.at in
    let parted = rw c.as_slice.ensures at c.in-Err.ensures.place in
    let place = parted (comparisons-rise rest row.key c.requires.rising) in
    let missing = merged-missing aggs row rest rows at rising c.in-Err.ensures.within place.0 place.1 in
    rw (c.in_ok-push-in-Err.ensures.ok, c.in_ok-copy_rows-in-Err.ensures, c.in_ok-copy-in-Err.ensures)
    (added_behind c.args.merged.now (take at rest) (put_rows aggs (drop at rest) rows) row ∙ ap (λ ys. c.args.merged.now ++ ys) (sym missing))
