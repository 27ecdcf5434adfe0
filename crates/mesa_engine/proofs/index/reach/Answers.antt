use Rattle.std.proofs.Common.{◌<◌, ◌∙◌, length, get_or, refl, subst, arith}
use Rattle.mesa_commit.specs.declared.trash.Hold.{Hold}
use Rattle.mesa_engine.specs.Index.{IsIndexOf}
use Rattle.mesa_engine.proofs.Indexed.{max_is, reached, reached_all, reached_index, reached_more}
use Rattle.mesa_engine.proofs.index.reach.Goals as goal

pub loop-hold-preserved : goal.loop-hold-preserved
loop-hold-preserved c =
    let items = c.loop-hold.hold-items in
    let e : Hold = record { at = 0; next = 0 } in
    let within : c.loop-hold.hold-index < length items = omega arith in
    reached_more c.loop-hold.hold-index c.loop-hold.next c.max-next.result items e _ (reached 0 c.args.holds.now) within (c.max-next.ensures ∙ max_is c.loop-hold.next (get_or items c.loop-hold.hold-index e).next) refl c.loop-hold.invariant

pub returns : goal.returns
returns c =
    let old = c.args.holds.now in
    subst (IsIndexOf old) (reached_all c.loop-hold.hold-index c.loop-hold.next c.loop-hold.hold-items (reached 0 old) (omega arith) c.loop-hold.invariant) (reached_index old c.requires)
