use Rattle.std.proofs.Common.{◌≡◌, ◌≤◌, ◌∙◌, List, length, subst, sym, take}
use Rattle.mesa_model.specs.mesa_columns.declared.rows.Row.{Row}
use Rattle.mesa_model.specs.mesa_fold.Laws.{AreFull}
use Rattle.mesa_model.specs.mesa_fold.Put.{put_row}
use Rattle.mesa_batch.proofs.Sums.{full-at}
use Rattle.mesa_answer.proofs.Joined.{put_full, put_next, put_short}
use Rattle.mesa_answer.proofs.held.Held.put_all.Goals as goal

pub each_row-preserved : goal.each_row-preserved
each_row-preserved c =
    let inv = c.each_row.invariant in
    let most = c.args.most in
    let aggs = c.args.aggs.now in
    let rows : List Row = c.args.rows.now in
    let i = c.each_row.row-index in
    let row : Row = c.row-item.result in
    let held : List Row = c.each_row.self in
    let new : c.put.new.self ≡ take most (put_row aggs row held) = c.in_ok-put.ensures.put ∙ (λ k. take most (put_row aggs (record { key = c.as_slice.ensures k; values = c.as_slice-in-each_row.ensures k }) held)) in
    let own : length row.values ≡ length aggs = subst (λ (r : Row). length r.values ≡ length aggs) (sym c.row-item.is) (full-at aggs rows i row c.each_row-test.true c.requires.rows_full) in
    record {
      put = new ∙ put_next most aggs c.args.self.now held rows i row inv.put c.each_row-test.true c.row-item.is;
      short = subst (λ (xs : List Row). length xs ≤ most) (sym new) (put_short most (put_row aggs row held));
      full = subst (AreFull aggs) (sym new) (put_full most aggs row held inv.full own);
    }
