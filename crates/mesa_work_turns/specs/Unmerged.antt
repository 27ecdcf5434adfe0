-- Works whose merge failed.
use Rattle.std.specs.Prelude.{ℕ, Bool, true, false, Option, None, Some, ⊤}
use Rattle.mesa_lease.specs.Book.{ended}
use Rattle.mesa_delta.specs.declared.error.FileError.TheVariants as file_error
use Rattle.mesa_model.specs.declared.replies.Refusal.TheVariants as no
use Rattle.mesa_model.specs.declared.replies.Reply.TheVariants as reply
use Rattle.mesa_write_turns.specs.mesa_history_spec.Output.{IsDamage}
use Rattle.mesa_engine.specs.EngineState.{EngineState}
use Rattle.mesa_engine.specs.Turned.{shut_state, leased_state}
use Rattle.mesa_open_files.specs.Errors.{HasDiffered}
use Rattle.mesa_open_files.specs.declared.merging.CompactError.{CompactError}
use Rattle.mesa_open_files.specs.declared.merging.CompactError.TheVariants as compact
use Rattle.mesa_write_turns.specs.mesa_invariant_spec.Causes.{Cause, Replies, Unread, Damaged, Unwritten, NoMemory}

-- why a merge failed
abbrev pub cause_of : CompactError → Cause
cause_of compact.Draft = Unwritten
cause_of (compact.File file_error.Read) = Unread
cause_of (compact.File (file_error.Damaged damage)) = Damaged damage
cause_of (compact.File file_error.Memory) = NoMemory

-- Damage that a cause tells can be told.
abbrev pub TellsDamage : Cause → Type 0
TellsDamage (Replies r) = ⊤
TellsDamage Unread = ⊤
TellsDamage (Damaged damage) = IsDamage damage
TellsDamage Unwritten = ⊤
TellsDamage NoMemory = ⊤

-- Where a merge met a damaged file, what was found isn't what was wanted.
abbrev pub MergeDiffered : CompactError → Type 0
MergeDiffered compact.Draft = ⊤
MergeDiffered (compact.File e) = HasDiffered e

-- why nothing is swapped in: the vault has closed, or else the merge failed
abbrev pub closing_cause : Option ℕ → CompactError → Cause
closing_cause (Some position) error = Replies (reply.Refused (no.Closed position))
closing_cause None error = cause_of error

-- a state in which the lease of a table has ended
abbrev ended_state : ℕ → ℕ → EngineState → EngineState
ended_state table lease l = leased_state l (ended table lease l.leases)

-- The state behind a merge that failed: the lease has ended; and a draft that failed closes the vault at a position where its clock stands at its last value.
abbrev pub unmerged_state : CompactError → Bool → ℕ → ℕ → ℕ → EngineState → EngineState
unmerged_state compact.Draft true at table lease l = shut_state (ended_state table lease l) at
unmerged_state compact.Draft false at table lease l = ended_state table lease l
unmerged_state (compact.File e) latest at table lease l = ended_state table lease l

-- the same, of a vault that may have closed: then nothing changes
abbrev pub closing_state : Option ℕ → CompactError → Bool → ℕ → ℕ → ℕ → EngineState → EngineState
closing_state (Some position) error latest at table lease l = l
closing_state None error latest at table lease l = unmerged_state error latest at table lease l
