-- Recasts that aren't done.
use Rattle.std.specs.Prelude.{◌≡◌, ℕ, None, Ok, Err}
use Rattle.mesa_work_turns.specs.mesa_history_spec.Machine.{Claim, claim_checked, still_checked}
use Rattle.mesa_lease.specs.Book.{ended}
use Rattle.mesa_engine.specs.EngineState.{EngineState}
use Rattle.mesa_engine.specs.Turned.{leased_state}
use Rattle.mesa_work_turns.specs.mesa_invariant_spec.Books.{Books}
use Rattle.mesa_work_turns.specs.mesa_invariant_spec.Causes.{Cause, NoMemory, Replies}
use Rattle.mesa_work_turns.specs.mesa_binding.declared.failure.Failure.{Failure}
use Rattle.mesa_work_turns.specs.mesa_binding.declared.failure.Failure.TheVariants as asked
use Rattle.mesa_model.specs.Warehouse.{table_at}
use Rattle.mesa_model.specs.declared.replies.Reply.TheVariants as reply
use Rattle.mesa_work_turns.specs.mesa_schema.Recasts.{Recast}
use Rattle.mesa_recast_turns.specs.declared.checking.Unfit.{Unfit}
use Rattle.mesa_recast_turns.specs.declared.checking.Unfit.TheVariants as why

-- why a table isn't recast
abbrev pub cause_unfit : Unfit → Cause
cause_unfit (why.Lost refusal) = Replies (reply.Refused refusal)
cause_unfit (why.Changed refusal) = Replies (reply.Refused refusal)
cause_unfit why.Memory = NoMemory

-- why the rules don't allow a recast any more
abbrev pub unfit_of : Failure → Unfit
unfit_of (asked.Refused refusal) = why.Changed refusal
unfit_of asked.Memory = why.Memory

-- Why a claim's table isn't recast: the books refuse the claim; or they hold it, and the table isn't what it was; or they are open, and there was no memory.
abbrev pub HasNotRecast : Books → ℕ → Claim → ℕ → Recast → Unfit → Type 0
HasNotRecast books position claim epoch r (why.Lost refusal) = claim_checked books.bare books.machine position claim ≡ Err refusal
HasNotRecast books position claim epoch r (why.Changed refusal) =
    (claim_checked books.bare books.machine position claim ≡ Ok tt) × (still_checked (table_at books.bare.store claim.table).lineage epoch r ≡ Err refusal)
HasNotRecast books position claim epoch r why.Memory = books.bare.closed ≡ None

-- The state behind it: a claim that is refused changes nothing; else its lease ends.
abbrev pub unfit_state : Unfit → ℕ → ℕ → EngineState → EngineState
unfit_state (why.Lost refusal) table lease l = l
unfit_state (why.Changed refusal) table lease l = leased_state l (ended table lease l.leases)
unfit_state why.Memory table lease l = leased_state l (ended table lease l.leases)
