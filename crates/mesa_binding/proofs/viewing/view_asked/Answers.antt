use Rattle.std.proofs.Common.{◌≡◌, length, true, false, arith}
use Rattle.std.specs.Prelude.{nat_le}
use Rattle.std.proofs.lemmas.Bool.{le-leb}
use Rattle.std.proofs.lemmas.Result.{err_from_is_err_and}
use Rattle.mesa_schema.specs.Views.{max_views}
use Rattle.mesa_binding.proofs.Viewings.{choice_due, view_room, views_by}
use Rattle.mesa_binding.proofs.viewing.view_asked.Goals as goal

pub returns-in_err-view-clause-refused : goal.returns-in_err-view-clause-refused
returns-in_err-view-clause-refused c =
    let p = err_from_is_err_and c.from_residual.result c.from_residual.ensures.1 in
    rw (p.1, p.2) (choice_due c.args.evolving.now c.args.words.now c.in_err-view.field-0.0 c.in_err-view.ensures.refused)

pub returns-then-views-ge-MAX_VIEWS-clause-refused : goal.returns-then-views-ge-MAX_VIEWS-clause-refused
returns-then-views-ge-MAX_VIEWS-clause-refused c =
    let l = c.args.evolving.now in
    let full : nat_le max_views (length l.views) ≡ true = le-leb max_views (length l.views) (omega (arith, c.views-views.ensures, c.if-views-ge-MAX_VIEWS.true)) in
    views_by l c.args.words.now true c.in_ok-view.ensures.checked full

pub returns-clause-checked : goal.returns-clause-checked
returns-clause-checked c =
    let l = c.args.evolving.now in
    let room : nat_le max_views (length l.views) ≡ false = view_room (length l.views) (omega (arith, c.views-views.ensures, c.if-views-ge-MAX_VIEWS.false)) in
    views_by l c.args.words.now false c.in_ok-view.ensures.checked room
