use Rattle.std.proofs.Common.{◌≡◌, ◌<◌, ◌∙◌, ◌++◌, ◌∷◌, [], List, arith, get_or, length, map, subst, sym, take}
use Rattle.std.specs.Prelude.{IsTrue}
use Rattle.std.proofs.lemmas.List.Elements.{All-from_recursion}
use Rattle.std.proofs.lemmas.Option.{get_or_from_slice_get}
use Rattle.std.proofs.lemmas.Result.{err_from_is_err_and}
use Rattle.mesa_view.specs.mesa_key.Spelling.{is_spelling}
use Rattle.mesa_open_files.specs.mesa_columns.declared.rows.Row.{Row}
use Rattle.mesa_open_files.specs.mesa_columns.Lent.{lent}
use Rattle.mesa_open_files.specs.mesa_columns.Rows.{IsRowOf}
use Rattle.mesa_answer.specs.Answering.{KeepsSums}
use Rattle.mesa_answer.specs.Gathered.{HasPut, key_at_hand, wanted_of}
use Rattle.mesa_answer.specs.Gathering.{Wanted}
use Rattle.mesa_answer.specs.Regrouping.{row_under}
use Rattle.mesa_answer.specs.Sums.{SumLeavesAmong}
use Rattle.mesa_scan.specs.MatchingRows.{matching_rows}
use Rattle.mesa_group_blocks.proofs.Blocks.{form_at, keeps_front, leaves_front, put_next}
use Rattle.mesa_group_blocks.proofs.regrouped.put_regrouped.Goals as goal

pub take-requires : goal.take-requires
take-requires c =
    let p = c.args.regrouping.now in
    let f = c.args.filter.now in
    let row : Row = lent c.row.result in
    let lt : c.block.i < length c.args.block.now = omega arith in
    let Spells = λ (row : Row). IsTrue (is_spelling p.kinds row.key) × IsTrue (is_spelling f.kinds (row_under p row).key) in
    (subst Spells (get_or_from_slice_get c.args.block.now c.block.i row row c.row.ensures) (All-from_recursion Spells c.args.block.now c.requires.spelled c.block.i row lt)).0

pub put_matching-requires-clause-gathering : goal.put_matching-requires-clause-gathering
put_matching-requires-clause-gathering c =
    let start = c.requires.gathering in
    (start.0 ++ matching_rows c.args.filter.now (map (row_under c.args.regrouping.now) (take c.block.i c.args.block.now)), c.block.invariant.put start.0 start.1)

pub put_matching-requires-clause-spelled : goal.put_matching-requires-clause-spelled
put_matching-requires-clause-spelled c =
    let p = c.args.regrouping.now in
    let f = c.args.filter.now in
    let row : Row = lent c.row.result in
    let lt : c.block.i < length c.args.block.now = omega arith in
    let under : lent c.row-in-block.result ≡ row_under p row = c.row-in-block.ensures ∙ c.in_ok-take.ensures.regrouped in
    let Spells = λ (row : Row). IsTrue (is_spelling p.kinds row.key) × IsTrue (is_spelling f.kinds (row_under p row).key) in
    subst (λ (r : Row). IsTrue (is_spelling f.kinds r.key)) (sym under)
    (subst Spells (get_or_from_slice_get c.args.block.now c.block.i row row c.row.ensures) (All-from_recursion Spells c.args.block.now c.requires.spelled c.block.i row lt)).1

pub put_matching-requires-clause-form : goal.put_matching-requires-clause-form
put_matching-requires-clause-form c =
    let p = c.args.regrouping.now in
    let row : Row = lent c.row.result in
    let lt : c.block.i < length c.args.block.now = omega arith in
    let under : lent c.row-in-block.result ≡ row_under p row = c.row-in-block.ensures ∙ c.in_ok-take.ensures.regrouped in
    let at : row ≡ get_or c.args.block.now c.block.i row = sym (get_or_from_slice_get c.args.block.now c.block.i row row c.row.ensures) in
    subst (IsRowOf (wanted_of c.block.groups).schema) (sym under)
    (subst (λ (w : Wanted). IsRowOf w.schema (row_under p row)) (sym c.block.invariant.wanted) (form_at (wanted_of c.args.groups.now).schema p c.args.block.now c.block.i row lt at c.requires.form))

pub block-preserved : goal.block-preserved
block-preserved c =
    let inv = c.block.invariant in
    let p = c.args.regrouping.now in
    let f = c.args.filter.now in
    let rows : List Row = c.args.block.now in
    let i = c.block.i in
    let row : Row = lent c.row.result in
    let lt : c.block.i < length c.args.block.now = omega arith in
    let at : row ≡ get_or rows i row = sym (get_or_from_slice_get rows i row row c.row.ensures) in
    let under : lent c.row-in-block.result ≡ row_under p row = c.row-in-block.ensures ∙ c.in_ok-take.ensures.regrouped in
    record {
      put = λ given h. put_next c.put_matching.new.groups f p given rows i row lt at
          (subst (λ (r : Row). HasPut c.put_matching.new.groups ((given ++ matching_rows f (map (row_under p) (take i rows))) ++ matching_rows f (r ∷ []))) under
          (c.in_ok-put_matching.ensures.put (given ++ matching_rows f (map (row_under p) (take i rows))) (inv.put given h)));
      wanted = c.in_ok-put_matching.ensures.wanted ∙ inv.wanted;
    }

pub returns-in_err-put_matching-clause-never : goal.returns-in_err-put_matching-clause-never
returns-in_err-put_matching-clause-never c =
    let r = err_from_is_err_and c.from_residual-in_err-put_matching.result c.from_residual-in_err-put_matching.ensures.1 in
    let inv = c.block.invariant in
    let p = c.args.regrouping.now in
    let f = c.args.filter.now in
    let rows : List Row = c.args.block.now in
    let i = c.block.i in
    let row : Row = lent c.row.result in
    let lt : c.block.i < length c.args.block.now = omega arith in
    let at : row ≡ get_or rows i row = sym (get_or_from_slice_get rows i row row c.row.ensures) in
    let under : lent c.row-in-block.result ≡ row_under p row = c.row-in-block.ensures ∙ c.in_ok-take.ensures.regrouped in
    rw (r.1, r.2) (λ e given h keeps.
    let front : List Row = given ++ matching_rows f (map (row_under p) (take i rows)) in
    let whole = subst (λ (w : Wanted). KeepsSums w.schema (given ++ matching_rows f (map (row_under p) rows))) (sym inv.wanted) keeps in
    let next = keeps_front (wanted_of c.block.groups).schema f p given rows i row lt at whole in
    c.in_err-put_matching.ensures.never e front (inv.put given h)
    (subst (λ (r : Row). KeepsSums (wanted_of c.block.groups).schema (front ++ matching_rows f (r ∷ []))) (sym under) next))

pub returns-in_err-take-clause-sum : goal.returns-in_err-take-clause-sum
returns-in_err-take-clause-sum c =
    let r = err_from_is_err_and c.from_residual.result c.from_residual.ensures.1 in
    rw (r.1, r.2) (λ e. cc e)

pub returns-in_err-take-clause-never : goal.returns-in_err-take-clause-never
returns-in_err-take-clause-never c =
    let r = err_from_is_err_and c.from_residual.result c.from_residual.ensures.1 in
    rw (r.1, r.2) (λ e. cc e)

pub returns-in_err-put_matching-clause-sum : goal.returns-in_err-put_matching-clause-sum
returns-in_err-put_matching-clause-sum c =
    let r = err_from_is_err_and c.from_residual-in_err-put_matching.result c.from_residual-in_err-put_matching.ensures.1 in
    let inv = c.block.invariant in
    let p = c.args.regrouping.now in
    let f = c.args.filter.now in
    let rows : List Row = c.args.block.now in
    let i = c.block.i in
    let row : Row = lent c.row.result in
    let lt : c.block.i < length c.args.block.now = omega arith in
    let at : row ≡ get_or rows i row = sym (get_or_from_slice_get rows i row row c.row.ensures) in
    let under : lent c.row-in-block.result ≡ row_under p row = c.row-in-block.ensures ∙ c.in_ok-take.ensures.regrouped in
    let key = key_at_hand c.put_matching.new.groups in
    rw (r.1, r.2) (λ e given h.
    let front : List Row = given ++ matching_rows f (map (row_under p) (take i rows)) in
    let here = subst (λ (r : Row). SumLeavesAmong (wanted_of c.block.groups) front (matching_rows f (r ∷ [])) key) under (c.in_err-put_matching.ensures.sum e front (inv.put given h)) in
    leaves_front (wanted_of c.args.groups.now) f p given rows i row key lt at (subst (λ (w : Wanted). SumLeavesAmong w front (matching_rows f (row_under p row ∷ [])) key) inv.wanted here))
