use Rattle.std.proofs.Common.{take, ap, ◌∙◌}
use Rattle.std.specs.Int.{w128, from_be_bytes}
use Rattle.mesa_digest.specs.Digests.{mark_of}
use Rattle.mesa_digest.proofs.hashing.mark.Goals as goal

pub returns : goal.returns
unfolding mark_of
returns c = c.from_be_bytes.ensures ∙ ap (from_be_bytes w128) (c.copy_from_slice.ensures.after ∙ ap (take 16) c.digest-digest.ensures)
