use Rattle.std.proofs.Common.{◌≡◌, ◌<◌, length, pos, get_or, arith, refl, sym, rules, ◌∙◌, true}
use Rattle.std.proofs.lemmas.Bool.{false≢true}
use Rattle.mesa_block.specs.mesa_value.Agg.{Combines}
use Rattle.mesa_delta_format.proofs.Adding.{sums_at, sums_end, sums_onto}
use Rattle.mesa_delta_format.proofs.tally.all_combine.Goals as goal

pub returns-then-not-combines : goal.returns-then-not-combines
returns-then-not-combines c =
    let l = c.loop-i in
    let x = c.args.columns.now in
    let a = c.args.totals.now in
    let b = c.args.values.now in
    let told : Combines (get_or x l.i c.index-columns-i.result).agg (get_or a l.i (pos 0)) (get_or b l.i (pos 0)) → c.combines.result ≡ true = search rules in
    let below : (l.i < length x) × (l.i < length a) × (l.i < length b) = (omega (arith, c.min.ensures, c.min-count.ensures), omega (arith, c.min.ensures, c.min-count.ensures), omega (arith, c.min.ensures, c.min-count.ensures)) in
    (λ t. absurd (false≢true t), λ h. absurd (false≢true (sym c.if-not-combines.true ∙ told (sums_at x a b l.i c.index-columns-i.result below.0 below.1 below.2 (l.invariant.from h)).0)))

pub loop-i-preserved : goal.loop-i-preserved
loop-i-preserved c =
    let l = c.loop-i in
    let x = c.args.columns.now in
    let a = c.args.totals.now in
    let b = c.args.values.now in
    let one : Combines (get_or x l.i c.index-columns-i.result).agg (get_or a l.i (pos 0)) (get_or b l.i (pos 0)) = search rules in
    let below : (l.i < length x) × (l.i < length a) × (l.i < length b) = (omega (arith, c.min.ensures, c.min-count.ensures), omega (arith, c.min.ensures, c.min-count.ensures), omega (arith, c.min.ensures, c.min-count.ensures)) in
    record {
      onto = λ h. l.invariant.onto (sums_onto x a b l.i c.index-columns-i.result below.0 below.1 below.2 one h);
      from = λ h. (sums_at x a b l.i c.index-columns-i.result below.0 below.1 below.2 (l.invariant.from h)).1;
    }

pub returns : goal.returns
returns c = (λ t. c.loop-i.invariant.onto (sums_end c.args.columns.now c.args.totals.now c.args.values.now c.loop-i.i (omega (arith, c.min.ensures, c.min-count.ensures))), λ h. refl)
