use Rattle.mesa_filter.proofs.Texts.{byte_more}
use Rattle.mesa_filter.proofs.literals.literal.Goals as goal

pub bytes-preserved : goal.bytes-preserved
bytes-preserved c =
    byte_more c.args.bytes.now c.bytes.rest.now c.in-Some.after.now c.in-Some-first_byte.after.now c.bytes.text c.push.new.self c.in-Some.first.now c.in-Some-first_byte.byte
    c.in-Some.ensures.cases.0 c.in-Some-first_byte.ensures.read c.in_ok-push.ensures.ok c.bytes.invariant
