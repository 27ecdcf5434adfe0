use Rattle.std.proofs.Common.{◌≡◌, ◌∙◌, ◌<◌, ◌^◌, ◌≤◌, ◌+◌, ◌*◌, ◌++◌, ◌∷◌, [], List, sym, ap, subst, arith}
use Rattle.mesa_open_files.specs.mesa_columns.declared.rows.Row.{Row}
use Rattle.mesa_open_files.specs.mesa_columns.Rows.{AreRowsOf}
use Rattle.mesa_batch.specs.Totals.{abs_total}
use Rattle.mesa_bench.specs.Made.{row_at}
use Rattle.mesa_bench.proofs.Sums.{all_more, total_more}
use Rattle.mesa_bench.proofs.rows.make_rows.Goals as goal

pub loop-number-preserved : goal.loop-number-preserved
loop-number-preserved c =
    let n = c.loop-number.number in
    let small : n < 2 ^ 32 = omega (arith, c.loop-number-test.true, c.ranges.rows.fits) in
    let made : c.push.new.self.items ≡ c.loop-number.made.items ++ row_at n ∷ [] = ◌∙◌ {A = List Row} c.in_ok-push.ensures.items (ap (λ (r : Row). c.loop-number.made.items ++ r ∷ []) c.in_ok-row.ensures) in
    record {
      form = λ s has. subst (AreRowsOf s) (sym made) (all_more s c.loop-number.made.items (row_at n) (c.loop-number.invariant.form s has) (c.rows_have_form.ensures s n has small));
      few = subst (λ (rows : List Row). abs_total 0 rows ≤ (n + 1) * 999) (sym made) (total_more c.loop-number.made.items n n c.loop-number.invariant.few);
    }
