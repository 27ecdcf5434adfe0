use Rattle.std.proofs.Common.{◌≡◌, ◌∙◌, ◌+◌, ◌++◌, ◌∷◌, [], suc, ap, sym, drop, length, replicate, add-one}
use Rattle.std.proofs.Math.Seq.{drop-cons}
use Rattle.std.proofs.lemmas.List.{append-nil, drop_all}
use Rattle.mesa_answer.specs.mesa_columns.declared.columns.ValueColumn.{ValueColumn}
use Rattle.mesa_oracle_tables.proofs.Adding.{zero_more}
use Rattle.mesa_batch.proofs.SumNames.{length-sum_names, sum_names}
use Rattle.mesa_oracle_tables.proofs.growing.zeros.Goals as goal

pub columns-init : goal.columns-init
columns-init c = (λ j. c.new-totals.ensures j ++ replicate (length-sum_names 0 c.args.schema.now.values j) 0)

pub columns-preserved : goal.columns-preserved
columns-preserved c =
    let i = c.columns.column-index in
    let columns = c.args.schema.now.values in
    let column = c.column-item.result in
    let shown = c.values-column-items.result.now in
    let next : drop i columns ≡ column ∷ drop (i + 1) columns = ap (drop i) (sym c.values-column-items.ensures.same) ∙ (rw add-one (drop-cons shown i column c.columns-test.true ∙ ap (λ (v : ValueColumn). v ∷ drop (suc i) shown) (sym c.column-item.is))) ∙ ap (λ vs. column ∷ drop (i + 1) vs) c.values-column-items.ensures.same in
    ap (λ ts. ts ++ replicate (length (sum_names (drop (i + 1) columns))) 0) c.in_ok-push_zero.ensures
    ∙ zero_more column.agg column.name c.columns.totals (sum_names (drop (i + 1) columns))
    ∙ ap (λ vs. c.columns.totals ++ replicate (length (sum_names vs)) 0) (sym next)
    ∙ c.columns.invariant

pub returns : goal.returns
returns c =
    let columns = c.args.schema.now.values in
    let none : drop c.columns.column-index columns ≡ [] = ap (drop c.columns.column-index) (sym c.values-column-items.ensures.same) ∙ drop_all c.columns.column-index c.values-column-items.result.now c.columns-test.false in
    sym (append-nil c.columns.totals) ∙ ap (λ vs. c.columns.totals ++ replicate (length (sum_names vs)) 0) (sym none) ∙ c.columns.invariant
