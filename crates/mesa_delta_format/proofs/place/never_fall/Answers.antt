use Rattle.std.proofs.Common.{sym, ◌∙◌, rules, []}
use Rattle.mesa_delta_format.proofs.Entering.{fall_onto, fall_from, fall_end}
use Rattle.mesa_delta_format.proofs.place.never_fall.Goals as goal

pub loop-i-preserved : goal.loop-i-preserved
loop-i-preserved c =
    let l = c.loop-i in
    let le = sym c.is_at_most.ensures ∙ c.if-not-is_at_most.false in
    record {
      onto = λ h. l.invariant.onto (fall_onto c.args.entries.now l.i _ l.auto.i c.loop-i-test.true le h);
      from = λ h. (fall_from c.args.entries.now l.i record { short = []; offset = 0; len = 0; digest = [] } l.auto.i c.loop-i-test.true (l.invariant.from h)).0;
    }

pub returns : goal.returns
returns c =
    let l = c.loop-i in
    (λ t. l.invariant.onto (fall_end c.args.entries.now l.i l.auto.i c.loop-i-test.false), λ h. search rules)
