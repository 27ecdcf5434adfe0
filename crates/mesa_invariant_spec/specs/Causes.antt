-- Why a turn didn't do what its command asks.
use Rattle.std.specs.Prelude.{ℕ, Bool, true, false}
use Rattle.mesa_history_spec.specs.mesa_file.declared.damage.Damage.{Damage}
use Rattle.mesa_history_spec.specs.mesa_model.declared.entries.Outcome.{Outcome}
use Rattle.mesa_history_spec.specs.mesa_model.declared.entries.Outcome.TheVariants as outcome
use Rattle.mesa_history_spec.specs.mesa_model.declared.replies.Refusal.TheVariants as no
use Rattle.mesa_history_spec.specs.mesa_model.declared.replies.Reply.{Reply}
use Rattle.mesa_history_spec.specs.mesa_model.declared.replies.Reply.TheVariants as reply
use Rattle.mesa_history_spec.specs.Run.{Told}
use Rattle.mesa_history_spec.specs.Replay.{no_rows, some_damage}
use Rattle.mesa_history_spec.specs.Output.{IsDamage}

-- The reference warehouse or the range machine answers otherwise; a file couldn't be read, or was damaged; a file or the journal couldn't be written; or there was no memory.
pub data Cause : Type 0 where
  Replies : Reply → Cause
  Unread : Cause
  Damaged : Damage → Cause
  Unwritten : Cause
  NoMemory : Cause

-- the outcome of a turn with this cause
abbrev pub outcome_of : Cause → Outcome
outcome_of (Replies r) = outcome.Stands
outcome_of Unread = outcome.ReadFault
outcome_of (Damaged damage) = outcome.Damaged
outcome_of Unwritten = outcome.WriteFault
outcome_of NoMemory = outcome.Memory

-- its reply
abbrev pub reply_of : Cause → Reply
reply_of (Replies r) = r
reply_of Unread = reply.Refused no.ReadFault
reply_of (Damaged damage) = reply.Refused (no.Damaged damage)
reply_of Unwritten = reply.Refused no.WriteFault
reply_of NoMemory = reply.Refused no.Memory

-- a reply without rows, printed at a position
abbrev pub told_at : ℕ → Reply → Told
told_at position r = record { at = position; reply = r; heading = no_rows }

-- The reply that stands in Replay for it: a damage is told as some damage.
abbrev pub replayed : Cause → Reply
replayed (Damaged damage) = reply.Refused (no.Damaged some_damage)
replayed cause = reply_of cause

-- what a cause tells can be told: of a damage its numbers are of 64 bits, and what was wanted isn't what was found
abbrev pub CanBeTold : Cause → Type 0
CanBeTold (Damaged damage) = IsDamage damage
CanBeTold cause = Unit {0}

-- whether it is a fault of the disk that a turn met which leaves the clock
abbrev pub is_read_fault : Cause → Bool
is_read_fault Unread = true
is_read_fault cause = false
