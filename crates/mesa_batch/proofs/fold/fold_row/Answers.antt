use Rattle.std.proofs.Common.{◌≡◌, ◌<◌, ◌≤◌, ◌∙◌, get_or, length, refl, sym, rules}
use Rattle.std.specs.Prelude.{is_ok, true}
use Rattle.std.specs.declared.cmp.Ordering.TheVariants.{Equal}
use Rattle.mesa_schema.specs.mesa_key.Order.{byte_cmp}
use Rattle.mesa_schema.specs.mesa_fold.Folded.{row_combined}
use Rattle.mesa_batch.proofs.Kept.{rising-IsFold}
use Rattle.mesa_batch.proofs.Place.{comparisons-rise, put_row-found, put_row-missing}
use Rattle.mesa_batch.proofs.Sums.{AllCombine-at}
use Rattle.mesa_batch.proofs.fold.fold_row.Goals as goal

pub combine_into-requires-clause-fits : goal.combine_into-requires-clause-fits
combine_into-requires-clause-fits c =
    let rows = c.args.content.now.items in
    let old = c.index_mut-old.result.now in
    let within : c.in-Ok.at < length rows = rw c.deref.ensures.value at c.in-Ok.ensures.within in
    rw (c.as_slice-in-Ok.ensures, c.index_mut-old.ensures.value) (AllCombine-at c.args.aggs.now rows c.args.row c.in-Ok.at old within c.requires.bounded)

pub returns-in-Ok-clause-put : goal.returns-in-Ok-clause-put
returns-in-Ok-clause-put c =
    let rows = c.args.content.now.items in
    let aggs = c.args.aggs.now in
    let old = c.index_mut-old.result.now in
    let within : c.in-Ok.at < length rows = rw c.deref.ensures.value at c.in-Ok.ensures.within in
    let equal : byte_cmp (get_or rows c.in-Ok.at old).key c.args.row.key ≡ Equal = rw (c.deref.ensures.value, c.as_slice.ensures) at (c.in-Ok.ensures.place old) in
    let values : c.combine_into.new.old ≡ row_combined aggs old.values c.args.row.values = rw c.as_slice-in-Ok.ensures at c.combine_into.ensures in
    let put = put_row-found aggs c.args.row rows c.in-Ok.at old (rising-IsFold aggs rows c.requires.fold) within equal in
    rw (values, put, ← c.index_mut-old.ensures.value) refl

pub returns-in-Err-clause-put : goal.returns-in-Err-clause-put
returns-in-Err-clause-put c =
    let rows = c.args.content.now.items in
    let aggs = c.args.aggs.now in
    let rising = rising-IsFold aggs rows c.requires.fold in
    let within : c.in-Err.at ≤ length rows = rw c.deref.ensures.value at c.in-Err.ensures.within in
    let parted = rw (c.deref.ensures.value, c.as_slice.ensures) at c.in-Err.ensures.place in
    let place = parted (comparisons-rise rows c.args.row.key rising) in
    let good : is_ok c.insert.result ≡ true = search rules in
    rw good at c.insert.ensures.items ∙ sym (put_row-missing aggs c.args.row rows c.in-Err.at within place.0 place.1)
