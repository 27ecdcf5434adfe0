use Rattle.std.proofs.Common.{◌≡◌, ◌∙◌, ◌-◌, ◌^◌, List, ap, subst, sym, arith, inl, inr}
use Rattle.std.proofs.lemmas.Result.{err_from_is_err_and}
use Rattle.std.specs.Prelude.{map}
use Rattle.mesa_scan.specs.mesa_schema.Changes.{columns_of}
use Rattle.mesa_scan.specs.mesa_fold.Folded.{grouped}
use Rattle.mesa_columns.specs.Rows.{AreRowsOf}
use Rattle.mesa_answer.proofs.mesa_fold.GroupKeys.{groups_form}
use Rattle.mesa_filter.specs.declared.terms.Term.{Term}
use Rattle.mesa_filter.specs.Filter.{filtered}
use Rattle.mesa_scan.specs.Cursors.{lift_by}
use Rattle.mesa_answer.specs.Answering.{KeepsSums, grouped_columns}
use Rattle.mesa_answer.specs.Gathered.{wanted_of}
use Rattle.mesa_answer.specs.Gathering.{Wanted}
use Rattle.mesa_answer.proofs.Steps.{all_groups}
use Rattle.mesa_view.specs.SumDamage.{IsFileSum}
use Rattle.mesa_view.proofs.Blocks.{every_passes}
use Rattle.mesa_view.proofs.derived.group_file.Goals as goal

pub returns-in_err-gather_alone-clause-never : goal.returns-in_err-gather_alone-clause-never
returns-in_err-gather_alone-clause-never g c =
    let p = err_from_is_err_and c.from_residual-in_err-gather_alone.result c.from_residual-in_err-gather_alone.ensures.1 in
    let s = columns_of c.args.input.now.evolving.value in
    rw (p.1, p.2) (λ d e b all told indexed keeps.
    let rows = map (lift_by c.args.input.now) all in
    let every : filtered s c.in_ok-filter.filter.terms rows ≡ rows = ap (λ (terms : List Term). filtered s terms rows) c.in_ok-filter.ensures.terms ∙ every_passes s rows in
    c.in_err-gather_alone.ensures.never d e b all told indexed (subst (KeepsSums s) (sym every) keeps))

pub returns-in_err-gather_alone-clause-damaged : goal.returns-in_err-gather_alone-clause-damaged
returns-in_err-gather_alone-clause-damaged g c =
    let p = err_from_is_err_and c.from_residual-in_err-gather_alone.result c.from_residual-in_err-gather_alone.ensures.1 in
    rw (p.1, p.2) (λ d e. elim (c.in_err-gather_alone.ensures.damaged d e) [
      | inl damaged ↦ inl damaged
      | inr sum ↦ inr (subst (λ (w : Wanted). IsFileSum g.R.FileReader.bytes w c.args.input.now d) c.in_ok-groups.ensures.wanted sum)
    ])

pub into_rows-requires : goal.into_rows-requires
into_rows-requires g c =
    let put = c.in_ok-gather_alone.ensures.put in
    record { gathering = (put.0, put.1) }

pub returns-clause-rows : goal.returns-clause-rows
returns-clause-rows g c = λ b all told indexed.
    let s = columns_of c.args.input.now.evolving.value in
    let rows = map (lift_by c.args.input.now) all in
    let put = c.in_ok-gather_alone.ensures.put in
    let every : put.0 ≡ rows = put.2 b all told indexed ∙ ap (λ (terms : List Term). filtered s terms rows) c.in_ok-filter.ensures.terms ∙ every_passes s rows in
    all_groups c.args.table.now c.args.columns.now c.args.values.now (2 ^ 64 - 1) (wanted_of c.gather_alone.new.groups) put.0 c.in_ok-into_rows.field-0 (c.in_ok-gather_alone.ensures.wanted ∙ c.in_ok-groups.ensures.wanted)
    (c.in_ok-into_rows.ensures.rows put.0 put.1) (omega (arith, c.in_ok-into_rows.ensures.few))
    ∙ ap (grouped c.args.table.now c.args.columns.now c.args.values.now) every

pub returns-clause-form : goal.returns-clause-form
returns-clause-form g c =
    let put = c.in_ok-gather_alone.ensures.put in
    let wanted = c.in_ok-gather_alone.ensures.wanted ∙ c.in_ok-groups.ensures.wanted in
    let all = all_groups c.args.table.now c.args.columns.now c.args.values.now (2 ^ 64 - 1) (wanted_of c.gather_alone.new.groups) put.0 c.in_ok-into_rows.field-0 wanted (c.in_ok-into_rows.ensures.rows put.0 put.1) (omega (arith, c.in_ok-into_rows.ensures.few)) in
    let form : AreRowsOf c.args.table.now put.0 = subst (λ (w : Wanted). AreRowsOf w.schema put.0) wanted put.1.form in
    subst (AreRowsOf (grouped_columns c.args.table.now c.args.columns.now c.args.values.now)) (sym all) (groups_form c.args.table.now c.args.columns.now c.args.values.now put.0 form)
