use Rattle.std.proofs.Common.{◌≡◌, ◌∙◌, ap, sym, length, arith, false}
use Rattle.std.specs.Prelude.{◌==◌}
use Rattle.std.proofs.lemmas.Bool.Decides.{nat_tests}
use Rattle.mesa_check.specs.Faults.{are_at_most}
use Rattle.mesa_check.proofs.Sums.{most_counted, not_most, zip_most}
use Rattle.mesa_check.proofs.totals.are_at_most.Goals as goal

pub returns-then-sums-totals : goal.returns-then-sums-totals
returns-then-sums-totals c = λ xs is.
    let sums = c.args.sums.now in
    let totals = c.args.totals.now in
    let len : length sums ≡ length totals = omega arith in
    c.is_each_at_most.ensures ∙ zip_most sums totals len ∙ ap (λ s. are_at_most s totals) is ∙ most_counted xs totals c.requires

pub returns-else-sums-totals : goal.returns-else-sums-totals
returns-else-sums-totals c = λ xs is.
    let sums = c.args.sums.now in
    let totals = c.args.totals.now in
    let out : (length sums == length totals) ≡ false = grind (arith, nat_tests) in
    out ∙ sym (sym (most_counted xs totals c.requires) ∙ ap (λ s. are_at_most s totals) (sym is) ∙ not_most sums totals (λ e. omega (arith, e)))
