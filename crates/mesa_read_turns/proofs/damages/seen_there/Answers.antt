use Rattle.std.proofs.Common.{sym, subst}
use Rattle.mesa_engine.specs.mesa_history_spec.Output.{IsSeen}
use Rattle.mesa_read_turns.proofs.Digests.{all_bytes}
use Rattle.mesa_read_turns.proofs.damages.seen_there.Goals as goal

pub returns-in-Digest : goal.returns-in-Digest
returns-in-Digest c = subst IsSeen (sym c.in-Digest.is) (c.digest.ensures.length, all_bytes _ c.digest.ensures.bytes)
