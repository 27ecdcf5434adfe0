use Rattle.std.proofs.Common.{◌≡◌, ◌∙◌, ◌++◌, ℕ, [], ap, sym, subst, true, take}
use Rattle.std.specs.Prelude.{flat_map, is_some, IfSome, Option, Vec}
use Rattle.std.specs.declared.alloc.Global.{Global}
use Rattle.std.proofs.lemmas.List.{take_all}
use Rattle.mesa_batch.specs.Totals.{abs_totals}
use Rattle.mesa_store_spec.specs.Contents.{present}
use Rattle.mesa_schema.specs.Changes.{columns_of}
use Rattle.mesa_pick_files.specs.mesa_columns.Columns.{Columns}
use Rattle.mesa_compare.specs.mesa_examine.Sums.{counted}
use Rattle.mesa_check.specs.Found.{rows_found}
use Rattle.mesa_check.specs.Faults.{is_found, keep_bound}
use Rattle.mesa_check.specs.Counted.{is_single, rows_where}
use Rattle.mesa_check.specs.Held.{delta_of}
use Rattle.mesa_check.specs.Shown.{tested_range}
use Rattle.mesa_check.specs.Tested.{IsRead}
use Rattle.mesa_check.specs.declared.testing.Test.{Test}
use Rattle.mesa_check.proofs.Unasked.{AllKeep, always_asked, asked_up_to, next_found, next_keeps, none_keeps}
use Rattle.mesa_check.proofs.Lists.{all_item, all_more, flat_more}
use Rattle.mesa_check.proofs.asked.asked_below.Goals as goal

pub singles-init : goal.singles-init
singles-init c = λ i found read.
    let l = c.args.table.now.evolving.value in
    (c.in_ok-sums.ensures ∙ ap (λ (s : Columns). counted (abs_totals s [])) (c.present.ensures.columns ∙ ap columns_of c.deref.ensures), record { each = tt; bound = none_keeps (columns_of l) })

pub singles-preserved : goal.singles-preserved
singles-preserved c = λ i found read.
    let l = c.args.table.now.evolving.value in
    let tests = c.args.tests.now in
    let x = c.one-item.result in
    let n = c.singles.one-index in
    let h = c.singles-test.true in
    let is = c.one-item.is in
    let inv = c.singles.invariant i found read in
    let tested = (all_item (IsRead i found l) tests n x h is read).tested in
    let rows = λ (y : Test). rows_where found l is_single (tested_range y) in
    let before = flat_map rows (take n tests) in
    let own = present (rows_found found) l (delta_of x.range) in
    let so = sym (c.in_ok-more.ensures.some found l before inv.0 tested) ∙ ap is_some c.in-Some.is in
    let sums = subst (λ (o : Option (Vec ℕ Global)). IfSome o (λ all. all.items ≡ counted (abs_totals (columns_of l) (before ++ rows x)))) c.in-Some.is (c.in_ok-more.ensures.sums found l before inv.0 tested) in
    let more = flat_more rows tests n x h is in (
      sums ∙ ap (λ rs. counted (abs_totals (columns_of l) rs)) more,
      record {
        each = all_more (λ y. is_single (tested_range y) ≡ true → is_found found l (delta_of y.range) ≡ true) tests n x h is inv.1.each (λ single. next_found (is_single (tested_range x)) (is_found found l (delta_of x.range)) (keep_bound (columns_of l) (before ++ own)) so single);
        bound = ap (keep_bound (columns_of l)) (sym more) ∙ next_keeps (is_single (tested_range x)) (is_found found l (delta_of x.range)) (columns_of l) before own so inv.1.bound;
      },
    )

pub returns-in_default : goal.returns-in_default
returns-in_default c = λ next i found held read.
    let l = c.args.table.now.evolving.value in
    let tests = c.args.tests.now in
    let x = c.one-item.result in
    let n = c.singles.one-index in
    let h = c.singles-test.true in
    let is = c.one-item.is in
    let inv = c.singles.invariant i found read in
    let tested = (all_item (IsRead i found l) tests n x h is read).tested in
    let before = flat_map (λ (y : Test). rows_where found l is_single (tested_range y)) (take n tests) in
    asked_up_to i found next c.args.table.now tests c.requires held.table read n x h is inv.1 (sym (c.in_ok-more.ensures.some found l before inv.0 tested) ∙ ap is_some c.in_default.is)

pub returns : goal.returns
returns c = λ next i found held read.
    let tests = c.args.tests.now in
    let inv = c.singles.invariant i found read in
    always_asked i found next c.args.table.now tests c.requires held.table read (subst (AllKeep found c.args.table.now.evolving.value) (take_all c.singles.one-index tests c.singles-test.false) inv.1)
