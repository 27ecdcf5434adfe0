use Rattle.std.proofs.Common.{◌≡◌, ◌≤◌, ◌+◌, suc, ◌++◌, [], ◌∷◌, length, drop, refl, sym, ◌∙◌, ap, add-one, arith, length-drop}
use Rattle.std.proofs.Math.Seq.{drop-cons}
use Rattle.std.proofs.lemmas.List.{drop-drop, drop_all}
use Rattle.mesa_schema.specs.mesa_columns.declared.rows.Row.{Row}
use Rattle.mesa_schema.specs.mesa_fold.Put.{put_rows}
use Rattle.mesa_schema.proofs.mesa_fold.Folds.{both_false}
use Rattle.mesa_batch.proofs.Kept.{put_rows-fold, rising-IsFold}
use Rattle.mesa_batch.proofs.Sums.{abs_total-next}
use Rattle.mesa_batch.proofs.Merged.{AreFull-put_rows, IsFold-put_rows, abs_total-drop, abs_total-put_rows, drop-whole, full-drop, rising-drop}
use Rattle.mesa_batch.proofs.contents.merge.Goals as goal

pub rows-init : goal.rows-init
rows-init c =
    let none = c.from_vec-merged.ensures ∙ c.in_ok-with_capacity.ensures.items in
    let aggs = c.args.aggs.now in
    record {
      within = omega arith;
      done = rw none refl;
      rising = rising-IsFold aggs c.args.content.now c.requires.content_fold;
      rows_rising = rising-IsFold aggs c.args.batch.now c.requires.batch_fold;
      full = c.requires.content_full;
      rows_full = c.requires.batch_full;
      bounded = c.requires.bounded;
    }

-- a row more and what is left behind it
pub rows-preserved : goal.rows-preserved
rows-preserved c =
    let inv = c.rows.invariant in
    let aggs = c.args.aggs.now in
    let row = c.row-item.result in
    let n = c.in_ok-used.field-0 in
    let content = c.args.content.now in
    let rest = drop c.rows.used content in
    let more = drop (c.rows.row-index + 1) c.args.batch.now in
    let whole = drop-whole c.rows.used content in
    let next : drop c.rows.row-index c.args.batch.now ≡ row ∷ more = rw add-one (drop-cons c.args.batch.now c.rows.row-index row c.rows-test.true ∙ ap (λ (r : Row). r ∷ drop (suc c.rows.row-index) c.args.batch.now) (sym c.row-item.is)) in
    let left : drop n rest ≡ drop (c.rows.used + n) content = drop-drop n c.rows.used content in
    let rising = rw next at inv.rows_rising in
    let full = rw next at inv.rows_full in
    let within : n ≤ length rest = rw whole at c.in_ok-used.ensures.within in
    let put = (rw whole at c.in_ok-used.ensures.merged) more rising in
    record {
      within = omega (arith, length-drop c.rows.used content, inv.within);
      done = rw (← left) (put ∙ (rw next at inv.done));
      rising = rw (← left) (rising-drop n rest inv.rising);
      rows_rising = (both_false _ _ rising).1;
      full = rw (← left) (full-drop aggs n rest inv.full);
      rows_full = full.1;
      bounded = λ k p. rw (← left) (omega (arith, rw next at (inv.bounded k p), abs_total-drop k n rest, abs_total-next k row more));
    }

-- what is merged is what the batch's rows come to among the content's
abbrev all_put : goal.In_ok-copy_rows → Type 0
all_put c = c.copy_rows.new.to ≡ put_rows c.args.aggs.now c.args.content.now c.args.batch.now

put_all : (c : goal.In_ok-copy_rows) → all_put c
put_all c =
    let inv = c.rows.invariant in
    let none : drop c.rows.row-index c.args.batch.now ≡ [] = drop_all c.rows.row-index c.args.batch.now c.rows-test.false in
    c.in_ok-copy_rows.ensures ∙ ap (λ ys. c.rows.merged ++ ys) (drop-whole c.rows.used c.args.content.now) ∙ (rw none at inv.done)

pub returns-clause-merged : goal.returns-clause-merged
returns-clause-merged c = put_all c ∙ put_rows-fold c.args.aggs.now c.args.content.now c.args.batch.now c.requires.content_fold

pub returns-clause-fold : goal.returns-clause-fold
returns-clause-fold c = rw (put_all c) (IsFold-put_rows c.args.aggs.now c.args.content.now c.args.batch.now c.requires.content_fold)

pub returns-clause-full : goal.returns-clause-full
returns-clause-full c = rw (put_all c) (AreFull-put_rows c.args.aggs.now c.args.content.now c.args.batch.now c.requires.content_full c.requires.batch_full)

pub returns-clause-bounded : goal.returns-clause-bounded
returns-clause-bounded c = λ k p. rw (put_all c) (abs_total-put_rows c.args.aggs.now c.args.content.now c.args.batch.now k p c.requires.content_full c.requires.batch_full)
