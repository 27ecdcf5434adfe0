use Rattle.std.proofs.Common.{◌≡◌, ◌<◌, ◌∙◌, get_or, length, subst, sym, take}
use Rattle.std.proofs.lemmas.List.Elements.{All-from_recursion}
use Rattle.std.proofs.lemmas.Option.{get_or_from_slice_get}
use Rattle.mesa_open_files.specs.mesa_columns.declared.rows.Row.{Row}
use Rattle.mesa_open_files.specs.mesa_columns.Lent.{lent}
use Rattle.mesa_open_files.specs.mesa_columns.Rows.{IsRowOf}
use Rattle.mesa_batch.specs.Gathered.{rows_at}
use Rattle.mesa_answer.specs.Answering.{KeepsSums}
use Rattle.mesa_answer.specs.Gathered.{HasPut, wanted_of}
use Rattle.mesa_answer.specs.Gathering.{Wanted}
use Rattle.mesa_answer.proofs.Bounds.{sums_taken}
use Rattle.mesa_answer.proofs.Passing.{one_more_row}
use Rattle.mesa_load.proofs.viewing.put_rows.Goals as goal

pub put_row-requires-clause-gathering : goal.put_row-requires-clause-gathering
put_row-requires-clause-gathering c =
    let rows = rows_at c.args.table c.args.batch.now in
    let i = c.rows.place in
    let row : Row = lent c.row.result in
    let lt : i < length rows = subst (λ n. i < n) c.count-place-end.ensures c.rows-test.true in
    let at : row ≡ get_or rows i row = sym (get_or_from_slice_get rows i row row c.row.ensures) in
    let keeps = subst (λ (w : Wanted). KeepsSums w.schema rows) (sym c.rows.invariant.wanted) c.requires.bounded in
    (take i rows, c.rows.invariant.put, sums_taken (wanted_of c.rows.groups).schema i rows row lt at keeps)

pub put_row-requires-clause-form : goal.put_row-requires-clause-form
put_row-requires-clause-form c =
    let rows = rows_at c.args.table c.args.batch.now in
    let i = c.rows.place in
    let row : Row = lent c.row.result in
    let lt : i < length rows = subst (λ n. i < n) c.count-place-end.ensures c.rows-test.true in
    let Fits = λ (r : Row). IsRowOf (wanted_of c.args.groups.now).schema r in
    let form : Fits row = subst Fits (get_or_from_slice_get rows i row row c.row.ensures) (All-from_recursion Fits rows c.requires.form i row lt) in
    subst (λ (w : Wanted). IsRowOf w.schema row) (sym c.rows.invariant.wanted) form

pub rows-preserved : goal.rows-preserved
rows-preserved c =
    let rows = rows_at c.args.table c.args.batch.now in
    let i = c.rows.place in
    let row : Row = lent c.row.result in
    let lt : i < length rows = subst (λ n. i < n) c.count-place-end.ensures c.rows-test.true in
    let at : row ≡ get_or rows i row = sym (get_or_from_slice_get rows i row row c.row.ensures) in
    record {
      put = subst (HasPut c.put_row.new.groups) (sym (one_more_row i rows row lt at)) (c.in_ok-put_row.ensures.put (take i rows) c.rows.invariant.put);
      wanted = c.in_ok-put_row.ensures.wanted ∙ c.rows.invariant.wanted;
    }
