use Rattle.std.proofs.Common.{◌≡◌, ◌∙◌, ◌++◌, ap, sym, [], ℕ, ◌+◌, map, true, false, not, cond, ◌&&◌}
use Rattle.std.specs.Prelude.{◌||◌, min, zip}
use Rattle.std.proofs.lemmas.List.{append-nil}
use Rattle.mesa_batch.specs.Totals.{abs_totals, sum_places}
use Rattle.mesa_store_spec.specs.Contents.{present}
use Rattle.mesa_schema.specs.Changes.{columns_of}
use Rattle.mesa_pick_files.specs.mesa_columns.Columns.{aggs_of}
use Rattle.mesa_compare.specs.mesa_examine.Sums.{counted, most}
use Rattle.mesa_check.specs.Found.{rows_found}
use Rattle.mesa_check.specs.Faults.{is_found, keep_bound}
use Rattle.mesa_check.specs.Counted.{is_single}
use Rattle.mesa_check.specs.Held.{delta_of, range_in}
use Rattle.mesa_check.proofs.Sums.{counted_both}
use Rattle.mesa_check.proofs.asked.with_single.Goals as goal

pub returns-then-not-is_single-clause-some : goal.returns-then-not-is_single-clause-some
returns-then-not-is_single-clause-some c = λ found l before was tested.
    let d = delta_of c.args.one.now.range in
    let out : is_single (range_in c.args.one.now.range) ≡ false = sym c.is_single.ensures ∙ c.if-not-is_single.true in
    sym (ap (λ b. not b || (is_found found l d && keep_bound (columns_of l) (before ++ present (rows_found found) l d))) out)

pub returns-then-not-is_single-clause-sums : goal.returns-then-not-is_single-clause-sums
returns-then-not-is_single-clause-sums c = λ found l before was tested.
    let out : is_single (range_in c.args.one.now.range) ≡ false = sym c.is_single.ensures ∙ c.if-not-is_single.true in
    was ∙ ap (λ rows. counted (abs_totals (columns_of l) rows)) (sym (append-nil before) ∙ ap (λ b. before ++ cond b (present (rows_found found) l (delta_of c.args.one.now.range)) []) (sym out))

pub returns-then-not-one-clause-some : goal.returns-then-not-one-clause-some
returns-then-not-one-clause-some c = λ found l before was tested.
    let d = delta_of c.args.one.now.range in
    let single : is_single (range_in c.args.one.now.range) ≡ true = sym c.is_single.ensures ∙ c.if-not-is_single.false in
    let lost : is_found found l d ≡ false = sym tested.found ∙ c.if-not-one.true in
    sym (λ k. not (single k) || (lost k && keep_bound (columns_of l) (before ++ present (rows_found found) l d)))

pub returns-then-not-keep_bound-clause-some : goal.returns-then-not-keep_bound-clause-some
returns-then-not-keep_bound-clause-some c = λ found l before was tested.
    let d = delta_of c.args.one.now.range in
    let single : is_single (range_in c.args.one.now.range) ≡ true = sym c.is_single.ensures ∙ c.if-not-is_single.false in
    let there = sym tested.found ∙ c.if-not-one.false in
    let items = c.in_ok-all.ensures ∙ (λ k. map (λ (p : ℕ × ℕ). min most (p.0 + p.1)) (zip ((c.deref.ensures.value ∙ was) k) ((c.as_slice.ensures ∙ tested.present c.if-not-one.false) k)))
    ∙ counted_both (sum_places 0 (aggs_of (columns_of l))) before (present (rows_found found) l d) in
    let over = sym (c.keep_bound.ensures (abs_totals (columns_of l) (before ++ present (rows_found found) l d)) (c.deref-2.ensures.value ∙ items)) ∙ c.if-not-keep_bound.true in
    sym (λ k. not (single k) || (there k && over k))

pub returns-clause-some : goal.returns-clause-some
returns-clause-some c = λ found l before was tested.
    let d = delta_of c.args.one.now.range in
    let single : is_single (range_in c.args.one.now.range) ≡ true = sym c.is_single.ensures ∙ c.if-not-is_single.false in
    let there = sym tested.found ∙ c.if-not-one.false in
    let items = c.in_ok-all.ensures ∙ (λ k. map (λ (p : ℕ × ℕ). min most (p.0 + p.1)) (zip ((c.deref.ensures.value ∙ was) k) ((c.as_slice.ensures ∙ tested.present c.if-not-one.false) k)))
    ∙ counted_both (sum_places 0 (aggs_of (columns_of l))) before (present (rows_found found) l d) in
    let within = sym (c.keep_bound.ensures (abs_totals (columns_of l) (before ++ present (rows_found found) l d)) (c.deref-2.ensures.value ∙ items)) ∙ c.if-not-keep_bound.false in
    sym (λ k. not (single k) || (there k && within k))

pub returns-clause-sums : goal.returns-clause-sums
returns-clause-sums c = λ found l before was tested.
    let d = delta_of c.args.one.now.range in
    let single : is_single (range_in c.args.one.now.range) ≡ true = sym c.is_single.ensures ∙ c.if-not-is_single.false in
    c.in_ok-all.ensures ∙ (λ k. map (λ (p : ℕ × ℕ). min most (p.0 + p.1)) (zip ((c.deref.ensures.value ∙ was) k) ((c.as_slice.ensures ∙ tested.present c.if-not-one.false) k)))
    ∙ counted_both (sum_places 0 (aggs_of (columns_of l))) before (present (rows_found found) l d)
    ∙ ap (λ b. counted (abs_totals (columns_of l) (before ++ cond b (present (rows_found found) l d) []))) (sym single)
