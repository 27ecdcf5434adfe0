use Rattle.std.proofs.Common.{◌≡◌, ◌<◌, ◌∙◌, ◌++◌, ◌∷◌, [], List, append_assoc, ap, arith, get_or, length, subst, sym, take}
use Rattle.std.proofs.lemmas.List.Elements.{All-from_recursion}
use Rattle.std.proofs.lemmas.Option.{get_or_from_slice_get}
use Rattle.std.proofs.lemmas.Result.{err_from_is_err_and}
use Rattle.mesa_columns.specs.declared.rows.Row.{Row}
use Rattle.mesa_columns.specs.Lent.{lent}
use Rattle.mesa_columns.specs.Rows.{IsRowOf}
use Rattle.mesa_answer.specs.Answering.{KeepsSums}
use Rattle.mesa_answer.specs.Gathered.{HasPut, key_at_hand, wanted_of}
use Rattle.mesa_answer.specs.Gathering.{Wanted}
use Rattle.mesa_answer.specs.Sums.{SumLeavesAmong}
use Rattle.mesa_answer.proofs.Leaving.{leaves_at, leaves_with}
use Rattle.mesa_answer.proofs.Passing.{one_more_row}
use Rattle.mesa_view.proofs.Sums.{sums_so_far}
use Rattle.mesa_view.proofs.putting.put_rows.Goals as goal

pub put-requires-clause-gathering : goal.put-requires-clause-gathering
put-requires-clause-gathering c =
    let start = c.requires.gathering in
    (start.0 ++ take c.loop-i.i c.args.rows.now, c.loop-i.invariant.put start.0 start.1)

pub put-requires-clause-form : goal.put-requires-clause-form
put-requires-clause-form c =
    let rows = c.args.rows.now in
    let i = c.loop-i.i in
    let row : Row = lent c.row.result in
    let lt : i < length rows = omega arith in
    let Fits = IsRowOf (wanted_of c.args.groups.now).schema in
    subst (λ (w : Wanted). IsRowOf w.schema row) (sym c.loop-i.invariant.wanted) (subst Fits (get_or_from_slice_get rows i row row c.row.ensures) (All-from_recursion Fits rows c.requires.form i row lt))

pub returns-in_err-put-clause-never : goal.returns-in_err-put-clause-never
returns-in_err-put-clause-never c =
    let p = err_from_is_err_and c.from_residual.result c.from_residual.ensures.1 in
    let inv = c.loop-i.invariant in
    let rows = c.args.rows.now in
    let i = c.loop-i.i in
    let row : Row = lent c.row.result in
    let lt : i < length rows = omega arith in
    let at : row ≡ get_or rows i row = sym (get_or_from_slice_get rows i row row c.row.ensures) in
    let front = take i rows in
    rw (p.1, p.2) (λ e given h keeps.
    let whole = subst (λ (w : Wanted). KeepsSums w.schema (given ++ rows)) (sym inv.wanted) keeps in
    c.in_err-put.ensures.cause e (given ++ front) (inv.put given h) (sums_so_far (wanted_of c.loop-i.groups).schema given rows i row lt at whole))

pub loop-i-preserved : goal.loop-i-preserved
loop-i-preserved c =
    let inv = c.loop-i.invariant in
    let rows = c.args.rows.now in
    let i = c.loop-i.i in
    let row : Row = lent c.row.result in
    let lt : i < length rows = omega arith in
    let at : row ≡ get_or rows i row = sym (get_or_from_slice_get rows i row row c.row.ensures) in
    record {
      put = λ given h. subst (HasPut c.put.new.self) (append_assoc given (take i rows) (row ∷ []) ∙ ap (λ (front : List Row). given ++ front) (sym (one_more_row i rows row lt at)))
          (c.in_ok-put.ensures.put (given ++ take i rows) (inv.put given h));
      wanted = c.in_ok-put.ensures.wanted ∙ inv.wanted;
    }

pub returns-in_err-put-clause-sum : goal.returns-in_err-put-clause-sum
returns-in_err-put-clause-sum c =
    let p = err_from_is_err_and c.from_residual.result c.from_residual.ensures.1 in
    let inv = c.loop-i.invariant in
    let rows = c.args.rows.now in
    let i = c.loop-i.i in
    let row : Row = lent c.row.result in
    let lt : i < length rows = omega arith in
    let at : row ≡ get_or rows i row = sym (get_or_from_slice_get rows i row row c.row.ensures) in
    let w = wanted_of c.loop-i.groups in
    let key = key_at_hand c.put.new.self in
    rw (p.1, p.2) (λ e given h.
    let here = leaves_with w (given ++ take i rows) row key (c.in_err-put.ensures.sum e (given ++ take i rows) (inv.put given h)) in
    subst (λ (v : Wanted). SumLeavesAmong v given rows key) inv.wanted (leaves_at w given rows i row key lt at here))
