use Rattle.std.proofs.Common.{◌≡◌, ◌<◌, ◌∙◌, ◌++◌, List, arith, get_or, length, subst, sym, take}
use Rattle.std.proofs.lemmas.Option.{get_or_from_slice_get}
use Rattle.mesa_open_files.specs.mesa_columns.declared.rows.Row.{Row}
use Rattle.mesa_open_files.specs.mesa_columns.Lent.{lent}
use Rattle.mesa_open_files.specs.mesa_columns.Rows.{IsRowOf}
use Rattle.mesa_answer.specs.Gathered.{HasPut, wanted_of}
use Rattle.mesa_answer.specs.Gathering.{Wanted}
use Rattle.mesa_scan.specs.MatchingRows.{matching_rows}
use Rattle.mesa_group_blocks.proofs.Moved.{all_at}
use Rattle.mesa_group_blocks.proofs.JobSteps.{row_tried, rows_next}
use Rattle.mesa_group_blocks.proofs.jobs.put_block.Goals as goal

pub put_matching-requires-clause-gathering : goal.put_matching-requires-clause-gathering
put_matching-requires-clause-gathering c =
    let start = c.requires.gathering in
    (start.0 ++ matching_rows c.args.filter.now (take c.block.i c.args.block.now), c.block.invariant.put start.0 start.1)

pub put_matching-requires-clause-spelled : goal.put_matching-requires-clause-spelled
put_matching-requires-clause-spelled c =
    let rows : List Row = c.args.block.now in
    let row : Row = lent c.row.result in
    let lt : c.block.i < length c.args.block.now = omega arith in
    row_tried (wanted_of c.args.groups.now).schema c.args.filter.now rows c.block.i row c.requires.filter c.requires.form lt (sym (get_or_from_slice_get rows c.block.i row row c.row.ensures))

pub put_matching-requires-clause-form : goal.put_matching-requires-clause-form
put_matching-requires-clause-form c =
    let rows : List Row = c.args.block.now in
    let row : Row = lent c.row.result in
    let s = (wanted_of c.args.groups.now).schema in
    let lt : c.block.i < length c.args.block.now = omega arith in
    subst (λ (w : Wanted). IsRowOf w.schema row) (sym c.block.invariant.wanted) (all_at (IsRowOf s) rows c.block.i row c.requires.form lt (sym (get_or_from_slice_get rows c.block.i row row c.row.ensures)))

pub block-preserved : goal.block-preserved
block-preserved c =
    let inv = c.block.invariant in
    let f = c.args.filter.now in
    let rows : List Row = c.args.block.now in
    let i = c.block.i in
    let row : Row = lent c.row.result in
    let lt : c.block.i < length c.args.block.now = omega arith in
    let at : row ≡ get_or rows i row = sym (get_or_from_slice_get rows i row row c.row.ensures) in
    record {
      put = λ given h. subst (HasPut c.put_matching.new.groups) (rows_next f given rows i row lt at) (c.in_ok-put_matching.ensures.put (given ++ matching_rows f (take i rows)) (inv.put given h));
      wanted = c.in_ok-put_matching.ensures.wanted ∙ inv.wanted;
    }
