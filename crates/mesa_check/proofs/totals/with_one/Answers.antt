use Rattle.std.proofs.Common.{◌≡◌, ◌∙◌, ◌++◌, ap, sym, [], ℕ, ◌+◌, map, true, false}
use Rattle.std.specs.Prelude.{cond, min, zip}
use Rattle.std.proofs.lemmas.List.{append-nil}
use Rattle.std.proofs.lemmas.Result.{IfOk-weaker}
use Rattle.mesa_batch.specs.Totals.{abs_totals, sum_places}
use Rattle.mesa_store_spec.specs.Contents.{present}
use Rattle.mesa_pick_files.specs.mesa_columns.Columns.{aggs_of}
use Rattle.mesa_compare.specs.mesa_examine.Sums.{counted, most}
use Rattle.mesa_check.specs.Found.{rows_found}
use Rattle.mesa_check.specs.Counted.{is_counted, rows_where}
use Rattle.mesa_check.specs.Held.{delta_of, range_in}
use Rattle.mesa_check.proofs.Sums.{counted_both}
use Rattle.mesa_check.proofs.totals.with_one.Goals as goal

pub returns-then-not-counts : goal.returns-then-not-counts
returns-then-not-counts c = λ found l s before was one.
    let out : is_counted (range_in c.args.one.now.range) ≡ false = sym c.counts.ensures ∙ c.if-not-counts.true in
    was ∙ ap (λ rows. counted (abs_totals s rows)) (sym (append-nil before) ∙ ap (λ b. before ++ cond b (present (rows_found found) l (delta_of c.args.one.now.range)) []) (sym out))

pub returns : goal.returns
returns c =
    let counts : is_counted (range_in c.args.one.now.range) ≡ true = sym c.counts.ensures ∙ c.if-not-counts.false in
    IfOk-weaker c.added.result _ _
    (λ all is found l s before was one. is ∙ (λ k. map (λ (p : ℕ × ℕ). min most (p.0 + p.1)) (zip ((c.deref.ensures.value ∙ was) k) ((c.as_slice.ensures ∙ one counts) k)))
    ∙ counted_both (sum_places 0 (aggs_of s)) before (rows_where found l is_counted (range_in c.args.one.now.range)))
    c.added.ensures
