use Rattle.std.proofs.Common.{◌≡◌, ◌+◌, ◌++◌, ◌∙◌, ap, sym, length, map, take, drop, arith}
use Rattle.std.specs.Prelude.{min}
use Rattle.std.proofs.lemmas.List.{drop_min, take-map, take_min, take_rest}
use Rattle.mesa_schema.specs.mesa_value.declared.Agg.{Agg}
use Rattle.mesa_schema.specs.mesa_columns.declared.columns.ValueColumn.{ValueColumn}
use Rattle.mesa_batch.specs.Totals.{sums_in, totals_without}
use Rattle.mesa_batch.proofs.changing.without_column.Goals as goal

pub returns : goal.returns
returns c =
    let totals = c.as_slice-totals.result.now in
    let columns = c.args.columns.now in
    let place = c.args.place in
    let agg : ValueColumn → Agg = λ column. column.agg in
    let before = c.sums_among.ensures.sums ∙ ap sums_in (sym (take-map agg place columns)) in
    let least : c.min.result ≡ min (place + 1) (length columns) = omega arith in
    let through =
    c.sums_among-2.ensures.sums ∙ ap (λ n. sums_in (map agg (take n columns))) least
    ∙ ap (λ cs. sums_in (map agg cs)) (take_min (place + 1) columns) ∙ ap sums_in (sym (take-map agg (place + 1) columns)) in
    let first = c.in_ok-after.ensures.items ∙ ap (λ n. take n totals) c.min-before.ensures ∙ take_min c.sums_among.result totals ∙ ap (λ n. take n totals) before in
    let last = take_rest totals c.min-through.result ∙ ap (λ n. drop n totals) c.min-through.ensures ∙ drop_min c.sums_among-2.result totals ∙ ap (λ n. drop n totals) through in
    c.from_vec.ensures ∙ c.in_ok-extend_from_slice.ensures.items ∙ (λ i. first i ++ last i) ∙ ap (totals_without (map agg columns) place) c.as_slice-totals.ensures
