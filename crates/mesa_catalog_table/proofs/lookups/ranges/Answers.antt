use Rattle.std.proofs.Common.{◌≡◌, ◌∙◌, sym, arith, length}
use Rattle.std.proofs.lemmas.Grind.{common_steps}
use Rattle.std.proofs.lemmas.List.FromFn.{map-range_with_len_more}
use Rattle.mesa_span.specs.Ranges.{end_of, ends_of_tens}
use Rattle.mesa_catalog_table.proofs.Tens.{base_ends, tens_end, tens_in_order}
use Rattle.mesa_catalog_table.proofs.lookups.ranges.Goals as goal

pub loop-ten-preserved : goal.loop-ten-preserved
loop-ten-preserved c =
    let more = map-range_with_len_more (end_of c.start-start.result) 0 c.loop-ten.ten c.loop-ten.ten (omega arith) in
    grind (arith, common_steps)

pub returns-clause-ranges : goal.returns-clause-ranges
returns-clause-ranges c = λ next.
    let count : c.loop-ten.ten ≡ length c.args.table.now.cumulatives.items = omega arith in
    let ends = c.from_vec.ensures ∙ c.loop-ten.invariant ∙ (λ i. ends_of_tens (c.start-start.ensures.start i) (count i)) ∙ sym (tens_end _ c.args.table.now.cumulatives.items) in
    let to = c.base_to.ensures ∙ sym (base_ends c.args.table.now.base) in
    λ i. record { base_to = to i; cumulatives = ends i }

pub returns-clause-in_order : goal.returns-clause-in_order
returns-clause-in_order c =
    let count : c.loop-ten.ten ≡ length c.args.table.now.cumulatives.items = omega arith in
    let ends = c.from_vec.ensures ∙ c.loop-ten.invariant ∙ (λ i. ends_of_tens (c.start-start.ensures.start i) (count i)) in
    tens_in_order c.args.table.now.base (length c.args.table.now.cumulatives.items) _ _ c.base_to.ensures ends
