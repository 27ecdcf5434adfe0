use Rattle.std.proofs.Common.{arith, rules, ◌∙◌, ap, ◌≡◌, take, drop, ◌*◌, ◌+◌, ◌-◌}
use Rattle.mesa_delta_format.specs.Places.{spelled}
use Rattle.mesa_delta_format.proofs.Entering.{spelled_more}
use Rattle.mesa_delta_format.proofs.Spreading.{each_more}
use Rattle.mesa_delta_format.proofs.place.read_entries.Goals as goal

pub loop-i-preserved : goal.loop-i-preserved
loop-i-preserved c =
    let l = c.loop-i in
    let sixty : (60 * l.i + 60) - 60 * l.i ≡ 60 = omega arith in
    let at : spelled c.read_entry.result ≡ take 60 (drop (60 * l.i) c.args.bytes.now) = c.read_entry.ensures.spelled ∙ ap (λ n. take n (drop (60 * l.i) c.args.bytes.now)) sixty in
    rw c.in_ok-push.ensures.items record {
      spelled = spelled_more l.entries.items c.read_entry.result c.args.bytes.now l.i l.invariant.spelled at;
      widths = each_more _ l.entries.items c.read_entry.result l.invariant.widths c.read_entry.ensures.widths;
      count = search rules;
    }
