use Rattle.std.proofs.Common.{◌≡◌, ◌∙◌, [], arith, length, sym, ap}
use Rattle.std.specs.Vec.Iter.{into_iter_items}
use Rattle.std.proofs.lemmas.List.{nil_from_length}
use Rattle.mesa_batch.proofs.Kept.{IsFold-put_row, put_rows-fold}
use Rattle.mesa_batch.proofs.Sums.{AreFull-put_row, abs_total-next, abs_total-put_row}
use Rattle.mesa_batch.proofs.fold.fold_in.Goals as goal

pub rows-preserved : goal.rows-preserved
rows-preserved c =
    let inv = c.rows.invariant in
    let aggs = c.args.aggs.now in
    let row = c.in-Some.row in
    let rest = into_iter_items c.next.new.self in
    let (items, len) = c.in-Some.ensures.steps in
    let full = rw items at inv.rest_full in
    record {
      next = tt;
      ends = tt;
      counted = omega (arith, len, inv.counted, ap length items);
      put = rw c.fold_row.ensures.put (rw items at inv.put);
      fold = rw c.fold_row.ensures.put (IsFold-put_row aggs row c.rows.content.items inv.fold);
      full = rw c.fold_row.ensures.put (AreFull-put_row aggs row c.rows.content.items full.0 inv.full);
      rest_full = full.1;
      room = omega (arith, len, inv.room, c.fold_row.ensures.more, c.fold_row.ensures.capacity);
      adds = λ n p. rw c.fold_row.ensures.put (omega (arith, rw items at (inv.adds n p), abs_total-next n row rest, abs_total-put_row aggs row c.rows.content.items n p full.0 inv.full));
    }

pub returns-clause-ok : goal.returns-clause-ok
returns-clause-ok c =
    let inv = c.rows.invariant in
    let aggs = c.args.aggs.now in
    let none : into_iter_items c.rows.row-iterator ≡ [] = nil_from_length _ (sym inv.counted ∙ c.in-None.ensures.steps.0) in
    (rw none at inv.put) ∙ put_rows-fold aggs c.args.content.now.items c.args.batch.items c.requires.fold
