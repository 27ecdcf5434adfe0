use Rattle.std.proofs.Common.{◌∷◌, [], length, ap, sym, arith}
use Rattle.mesa_open_files.specs.mesa_batch.Totals.{abs_total, abs_totals}
use Rattle.mesa_examine.specs.Sums.{counted}
use Rattle.mesa_examine.proofs.SumColumns.{sums_next}
use Rattle.mesa_examine.proofs.totals.sum_totals.Goals as goal

pub columns-preserved : goal.columns-preserved
columns-preserved c = λ rows h.
    sums_next (λ column. abs_total column rows) c.args.schema.now.values c.values-column-items.result.now c.columns.sums c.push_sum.new.sums (counted (abs_totals c.args.schema.now rows)) c.columns.place _ c.column-item.result
    c.values-column-items.ensures.same c.columns-test.true c.column-item.is (ap (λ n. n ∷ []) (sym (h.each c.columns.place (omega (arith, c.columns-test.true, ap length c.values-column-items.ensures.same))))) c.in_ok-push_sum.ensures (c.columns.invariant rows h)
