use Rattle.std.proofs.Common.{◌≡◌, ◌∙◌, ap, sym, subst, true, not, ◌&&◌}
use Rattle.std.specs.Prelude.{flat_map}
use Rattle.std.specs.List.{AllByRecursion}
use Rattle.mesa_batch.specs.Totals.{abs_totals}
use Rattle.mesa_store_spec.specs.Sound.{all_parts}
use Rattle.mesa_schema.specs.Changes.{columns_of}
use Rattle.mesa_pick_files.specs.mesa_columns.Columns.{Columns}
use Rattle.mesa_schema.specs.mesa_fold.Folded.{rows_of}
use Rattle.mesa_catalog_table.specs.Meaning.{meta_of}
use Rattle.mesa_compare.specs.mesa_examine.Sums.{counted}
use Rattle.mesa_check.specs.Found.{rows_found}
use Rattle.mesa_check.specs.Faults.{are_at_most}
use Rattle.mesa_check.specs.Counted.{is_counted, rows_where}
use Rattle.mesa_check.specs.Shown.{tested_range}
use Rattle.mesa_check.specs.declared.testing.Test.{Test}
use Rattle.mesa_check.proofs.Told.{rows_sure, sure_sums, sure_tested}
use Rattle.mesa_check.proofs.faults.exceeds_totals.Goals as goal

pub returns-then-not-are_true : goal.returns-then-not-are_true
returns-then-not-are_true c = λ next i found held read.
    let t = c.args.table.now in
    let tests = c.args.tests.now in
    let e = sym c.if-not-are_true.true ∙ c.are_true.ensures ∙ sure_tested i found next t tests c.requires.tests read in
    λ k. e k && not (are_at_most (abs_totals (columns_of t.evolving.value) (rows_of (all_parts (rows_found found) (meta_of next t)))) t.totals)

pub returns : goal.returns
returns c = λ next i found held read.
    let t = c.args.table.now in
    let l = t.evolving.value in
    let tests = c.args.tests.now in
    let so = sym c.are_true.ensures ∙ c.if-not-are_true.false in
    let e = sym so ∙ sure_tested i found next t tests c.requires.tests read in
    let rows = flat_map (λ (x : Test). rows_where found l is_counted (tested_range x)) tests in
    let columns = c.present.ensures.columns ∙ ap columns_of c.deref.ensures in
    let sums = c.in_ok-sums.ensures found l columns
    (subst (λ (s : Columns). AllByRecursion (λ (x : Test). is_counted (tested_range x) ≡ true → x.present ≡ counted (abs_totals s (rows_where found l is_counted (tested_range x)))) tests) (sym columns) (sure_sums i found next t tests c.requires.tests read so)) in
    let most = c.are_at_most.ensures (abs_totals (columns_of l) rows) (c.deref-2.ensures.value ∙ sums ∙ ap (λ (s : Columns). counted (abs_totals s rows)) columns)
    ∙ (λ j. are_at_most (abs_totals (columns_of l) (rows_sure i found next t tests c.requires.tests read j)) (c.as_slice.ensures j)) in
    λ k. e k && not (most k)
