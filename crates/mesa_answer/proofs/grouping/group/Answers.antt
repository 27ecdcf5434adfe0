use Rattle.std.proofs.Common.{◌^◌, ◌-◌, arith, sym, subst}
use Rattle.mesa_model.specs.mesa_columns.Rows.{AreRowsOf}
use Rattle.mesa_model.proofs.mesa_fold.GroupKeys.{groups_form}
use Rattle.mesa_answer.specs.Answering.{KeepsSums, grouped_columns}
use Rattle.mesa_answer.specs.Gathered.{wanted_of}
use Rattle.mesa_answer.proofs.Bounds.{sums_grouped}
use Rattle.mesa_answer.proofs.Results.{if_both}
use Rattle.mesa_answer.proofs.Steps.{all_groups}
use Rattle.mesa_answer.proofs.grouping.group.Goals as goal

pub returns-clause-grouped : goal.returns-clause-grouped
returns-clause-grouped c =
    let g = c.in_ok-groups.groups in
    if_both c.into_rows.result _ _ _ (λ found first few. all_groups c.args.schema.now c.args.columns.now c.args.values.now (2 ^ 64 - 1) (wanted_of g) c.args.rows.now found c.in_ok-groups.ensures.wanted (first c.args.rows.now c.in_ok-groups.ensures.put) (omega (arith, few))) c.into_rows.ensures.rows c.into_rows.ensures.few

pub returns-clause-form : goal.returns-clause-form
returns-clause-form c =
    let g = c.in_ok-groups.groups in
    let form = groups_form c.args.schema.now c.args.columns.now c.args.values.now c.args.rows.now c.requires.of_schema in
    if_both c.into_rows.result _ _ _ (λ found first few.
    let all = all_groups c.args.schema.now c.args.columns.now c.args.values.now (2 ^ 64 - 1) (wanted_of g) c.args.rows.now found c.in_ok-groups.ensures.wanted (first c.args.rows.now c.in_ok-groups.ensures.put) (omega (arith, few)) in
    subst (AreRowsOf (grouped_columns c.args.schema.now c.args.columns.now c.args.values.now)) (sym all) form) c.into_rows.ensures.rows c.into_rows.ensures.few

pub returns-clause-bounded : goal.returns-clause-bounded
returns-clause-bounded c =
    let g = c.in_ok-groups.groups in
    let keeps = sums_grouped c.args.schema.now c.args.columns.now c.args.values.now c.args.rows.now c.requires.values_there c.requires.of_schema c.requires.bounded in
    if_both c.into_rows.result _ _ _ (λ found first few.
    let all = all_groups c.args.schema.now c.args.columns.now c.args.values.now (2 ^ 64 - 1) (wanted_of g) c.args.rows.now found c.in_ok-groups.ensures.wanted (first c.args.rows.now c.in_ok-groups.ensures.put) (omega (arith, few)) in
    subst (KeepsSums (grouped_columns c.args.schema.now c.args.columns.now c.args.values.now)) (sym all) keeps) c.into_rows.ensures.rows c.into_rows.ensures.few
