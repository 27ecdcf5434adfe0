use Rattle.std.proofs.Common.{[], sym, subst, ℕ}
use Rattle.mesa_examine.specs.Sums.{AreTotals}
use Rattle.mesa_examine.proofs.Tallying.{no_ends}
use Rattle.mesa_examine.proofs.tally.Tally.new.Goals as goal

pub returns : goal.returns
returns c = λ s lift same. record {
  ends = no_ends s c.new.result c.new.ensures.rows c.new.ensures.first c.new.ensures.last c.new.ensures.aggregates;
  own = subst (λ (n : ℕ). AreTotals n c.in_ok-own.own.items []) (sym same) c.in_ok-own.ensures;
  present = c.in_ok-present.ensures;
}
