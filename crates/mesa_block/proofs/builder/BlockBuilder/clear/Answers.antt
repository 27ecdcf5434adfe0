use Rattle.mesa_block.proofs.Held.{held_none}
use Rattle.mesa_block.proofs.builder.BlockBuilder.clear.Goals as goal

pub invariant_of-self : goal.invariant_of-self
invariant_of-self c = rw (c.truncate.ensures, c.clear.ensures.items) (held_none (record { format = c.self.inside.format; columns = c.self.inside.schema }) c.self.inside.kinds.items c.self.inside.widths.items c.self.inside.size c.self.invariant.kinds c.self.invariant.widths c.self.invariant.size)
