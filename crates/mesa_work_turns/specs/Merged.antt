-- Works whose merge is finished.
use Rattle.std.specs.Prelude.{◌≡◌, ℕ, None, Err}
use Rattle.mesa_write_turns.specs.mesa_history_spec.Machine.{Claim, claim_checked}
use Rattle.mesa_lease.specs.Book.{ended}
use Rattle.mesa_engine.specs.EngineState.{EngineState}
use Rattle.mesa_engine.specs.Turned.{leased_state}
use Rattle.mesa_model.specs.declared.replies.Reply.TheVariants as reply
use Rattle.mesa_write_turns.specs.mesa_invariant_spec.Books.{Books}
use Rattle.mesa_write_turns.specs.mesa_invariant_spec.Causes.{Cause, Replies, NoMemory}
use Rattle.mesa_work_turns.specs.declared.completing.Unswapped.{Unswapped}
use Rattle.mesa_work_turns.specs.declared.completing.Unswapped.TheVariants as why

-- why a range isn't swapped in
abbrev pub cause_unswapped : Unswapped → Cause
cause_unswapped (why.Refused refusal) = Replies (reply.Refused refusal)
cause_unswapped why.Memory = NoMemory

-- Why a claim's range isn't swapped in: the books refuse the claim; or they are open, and there was no memory.
abbrev pub HasNotSwapped : Books → ℕ → Claim → Unswapped → Type 0
HasNotSwapped books position claim (why.Refused refusal) = claim_checked books.bare books.machine position claim ≡ Err refusal
HasNotSwapped books position claim why.Memory = books.bare.closed ≡ None

-- The state behind it: a claim that is refused changes nothing, and want of memory ends its lease.
abbrev pub unswapped_state : Unswapped → ℕ → ℕ → EngineState → EngineState
unswapped_state (why.Refused refusal) table lease l = l
unswapped_state why.Memory table lease l = leased_state l (ended table lease l.leases)
