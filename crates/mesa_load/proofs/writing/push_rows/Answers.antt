use Rattle.std.proofs.Common.{◌≡◌, ◌<◌, ◌+◌, ◌++◌, ◌∷◌, [], ◌∙◌, ap, length, rules, take, subst, sym, add-one}
use Rattle.std.proofs.Math.Seq.{take-suc}
use Rattle.std.proofs.lemmas.Option.{get_or_from_slice_get}
use Rattle.mesa_open_files.specs.mesa_columns.Lent.{lent}
use Rattle.mesa_delta.specs.Writing.{HasTaken, columns_of}
use Rattle.mesa_load.specs.Filing.{file_rows}
use Rattle.mesa_load.proofs.Follows.{next_row}
use Rattle.mesa_load.proofs.writing.push_rows.Goals as goal

pub rows-preserved : goal.rows-preserved
rows-preserved g c =
    let rows = file_rows c.args.rows in
    let row = lent c.row.result in
    let within : c.rows.place < length rows = subst (λ n. c.rows.place < n) c.len-place-end.ensures c.rows-test.true in
    let at = get_or_from_slice_get rows c.rows.place row row c.row.ensures in
    let next : take c.rows.place rows ++ row ∷ [] ≡ take (c.rows.place + 1) rows = ap (λ r. take c.rows.place rows ++ r ∷ []) (sym at) ∙ sym (take-suc rows c.rows.place row within) ∙ ap (λ n. take n rows) (sym (add-one c.rows.place)) in
    record {
      taken = subst (HasTaken g.T.Draft.bytes c.push.new.self) next (c.in_ok-push.ensures.taken (take c.rows.place rows) c.rows.invariant.taken);
      columns = c.push.ensures.columns ∙ c.rows.invariant.columns;
      id = c.push.ensures.id ∙ c.rows.invariant.id;
      draft = c.push.ensures.draft ∙ c.rows.invariant.draft;
      faults = search rules;
    }

pub push-requires-after_bounds : goal.push-requires-after_bounds
push-requires-after_bounds g c κs within =
    let rows = file_rows c.args.rows in
    let row = lent c.row.result in (
      take c.rows.place rows,
      c.rows.invariant.taken,
      next_row (columns_of c.args.writer.now) (columns_of c.rows.writer) rows c.rows.place row c.rows.invariant.columns (subst (λ n. c.rows.place < n) c.len-place-end.ensures c.rows-test.true) (sym (get_or_from_slice_get rows c.rows.place row row c.row.ensures)) c.requires.rows,
    )
