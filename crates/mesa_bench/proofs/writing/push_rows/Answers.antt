use Rattle.std.proofs.Common.{◌≡◌, ℕ, refl, sym, subst, ◌∙◌, arith}
use Rattle.mesa_open_files.specs.mesa_columns.Lent.{lent}
use Rattle.mesa_delta.specs.Writing.{HasTaken, IsNext}
use Rattle.mesa_bench.specs.Made.{HasColumns, rows_below}
use Rattle.mesa_bench.proofs.Following.{next_row, with_row}
use Rattle.mesa_bench.proofs.writing.push_rows.Goals as goal

pub loop-number-init : goal.loop-number-init
unfolding rows_below
loop-number-init g c = (c.requires.none, refl)

pub push-requires-after_bounds : goal.push-requires-after_bounds
push-requires-after_bounds g c κs within =
    let h = c.loop-number.invariant in
    subst (IsNext g.T.Draft.bytes c.loop-number.writer) (sym (c.lend.ensures ∙ c.in_ok-row.ensures)) (next_row g.T.Draft.bytes c.loop-number.writer c.loop-number.number c.rows_follow.ensures h.0 (subst HasColumns (sym h.1) c.requires.columns) (omega arith))

pub loop-number-preserved : goal.loop-number-preserved
loop-number-preserved g c =
    let h = c.loop-number.invariant in
    let after = c.in_ok-push.ensures in (
      with_row g.T.Draft.bytes c.push.new.self c.loop-number.number (lent c.lend.result) (c.lend.ensures ∙ c.in_ok-row.ensures) (after.taken (rows_below c.loop-number.number) h.0),
      after.columns ∙ h.1,
    )

pub returns : goal.returns
returns g c =
    let last : c.loop-number.number ≡ c.args.rows = omega arith in
    subst (λ (n : ℕ). HasTaken g.T.Draft.bytes c.loop-number.writer (rows_below n)) last c.loop-number.invariant.0
