use Rattle.std.proofs.Common.{◌≡◌, ◌++◌, List, ℕ, subst}
use Rattle.std.specs.Prelude.{OnOk}
use Rattle.mesa_batch.proofs.KeptTotals.{kept_at}
use Rattle.mesa_batch.proofs.recasting.push_kept.Goals as goal

pub returns : goal.returns
returns c =
    let kept = kept_at c.args.columns.now c.args.totals.now c.args.place c.sums_among.result c.total_at-total.result c.index-columns-place.result c.requires c.sums_among.ensures.sums c.total_at-total.ensures in
    subst (λ (l : List ℕ). OnOk c.push_if_sum.result (c.push_if_sum.new.after ≡ c.args.after.now ++ l)) kept c.push_if_sum.ensures
