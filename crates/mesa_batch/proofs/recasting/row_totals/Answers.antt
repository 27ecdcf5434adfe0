use Rattle.mesa_batch.specs.Totals.{abs_total, abs_totals, capped}
use Rattle.mesa_batch.proofs.SumColumns.{totals_next}
use Rattle.mesa_batch.proofs.recasting.row_totals.Goals as goal

pub columns-preserved : goal.columns-preserved
columns-preserved c = totals_next (λ column. abs_total column c.args.rows.now) c.args.schema.now.values c.values-column-items.result.now c.columns.totals c.push_total.new.totals (capped (abs_totals c.args.schema.now c.args.rows.now)) c.columns.place c.column-item.result
    c.values-column-items.ensures.same c.columns-test.true c.column-item.is c.in_ok-push_total.ensures c.columns.invariant
