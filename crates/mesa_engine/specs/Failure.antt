-- The cause that a failure is, and the failure where the rules say why.
use Rattle.mesa_binding.specs.declared.failure.Failure.{Failure as Unruled}
use Rattle.mesa_binding.specs.declared.failure.Failure.TheVariants as unruled
use Rattle.mesa_engine.specs.declared.failure.Failure.{Failure}
use Rattle.mesa_engine.specs.declared.failure.Failure.TheVariants as failure
use Rattle.mesa_model.specs.declared.replies.Reply.TheVariants as reply
use Rattle.mesa_invariant_spec.specs.Causes.{Cause, Replies, Unread, Damaged, Unwritten, NoMemory}

-- the cause that a failure is
abbrev pub cause_in : Failure → Cause
cause_in (failure.Refused refusal) = Replies (reply.Refused refusal)
cause_in failure.Idle = Replies reply.Idle
cause_in (failure.Busy lease) = Replies (reply.Busy lease)
cause_in failure.Unread = Unread
cause_in (failure.Damaged damage) = Damaged damage
cause_in failure.Unwritten = Unwritten
cause_in failure.Memory = NoMemory

-- why a turn does nothing, where the rules say why
abbrev pub told_as : Unruled → Failure
told_as (unruled.Refused refusal) = failure.Refused refusal
told_as unruled.Memory = failure.Memory
