use Rattle.std.proofs.Common.{◌≡◌, ◌+◌, ◌≤◌, length, arith, length-append}
use Rattle.mesa_list.specs.Pieces.{last_end}
use Rattle.mesa_list.proofs.Pieces.{last_end_push, pieces_push, rise_push}
use Rattle.mesa_list.proofs.fields.Fields.push.Goals as goal

pub invariant_of-self-in_default : goal.invariant_of-self-in_default
invariant_of-self-in_default c =
    let end = c.len-start.result + length c.args.field.now in
    let same : length c.self.inside.bytes.items ≡ c.len-start.result = omega arith in
    let within : last_end 0 c.self.inside.ends.items ≤ end = omega (arith, c.self.invariant.1) in
    rw (c.in_ok-push.ensures.items, c.in_default.ensures.items) (
      rise_push 0 c.self.inside.ends.items end c.self.invariant.0 within,
      omega (arith, last_end_push 0 c.self.inside.ends.items end, length-append c.self.inside.bytes.items c.args.field.now),
      omega (arith, length-append c.self.inside.bytes.items c.args.field.now),
    )

pub returns-clause-ok : goal.returns-clause-ok
returns-clause-ok c =
    rw (c.in_ok-push.ensures.items, c.in_default.ensures.items, ← c.self.view_is)
    (pieces_push c.self.inside.bytes.items c.args.field.now 0 c.self.inside.ends.items (c.len-start.result + length c.args.field.now) c.self.invariant.0 c.self.invariant.1 (omega arith))
