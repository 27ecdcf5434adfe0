use lib.Pointwise.{pointwise}
use Rattle.std.proofs.Common.{◌≡◌, ◌∙◌, ap, sym, length, arith, nat_eq, false}
use Rattle.std.specs.Prelude.{◌==◌}
use Rattle.std.proofs.lemmas.Bool.Decides.{nat_tests}
use Rattle.mesa_check.proofs.Sums.{not_same, same_counted, zip_same}
use Rattle.mesa_check.proofs.totals.are_same.Goals as goal

pub returns-then-recorded-sums : goal.returns-then-recorded-sums
returns-then-recorded-sums c = λ xs is.
    let sums = c.args.sums.now in
    let recorded = c.args.recorded.now in
    let len : length recorded ≡ length sums = omega arith in
    c.is_each_same.ensures ∙ zip_same recorded sums len ∙ ap (pointwise nat_eq recorded) is ∙ same_counted recorded xs c.requires

pub returns-else-recorded-sums : goal.returns-else-recorded-sums
returns-else-recorded-sums c = λ xs is.
    let sums = c.args.sums.now in
    let recorded = c.args.recorded.now in
    let out : (length recorded == length sums) ≡ false = grind (arith, nat_tests) in
    out ∙ sym (sym (same_counted recorded xs c.requires) ∙ ap (pointwise nat_eq recorded) (sym is) ∙ not_same recorded sums (λ e. omega (arith, e)))
