-- The turns of a work and of a recast.
use Rattle.std.specs.Prelude.{◌≡◌, ℕ, Bool, true, false, Option, None, Some, IsTrue, Result, Ok, Err}
use Rattle.mesa_history_spec.specs.mesa_schema.Recasts.{Recast}
use Rattle.mesa_history_spec.specs.mesa_model.declared.replies.Reply.{Reply}
use Rattle.mesa_history_spec.specs.mesa_span.declared.works.Work.{Work}
use Rattle.mesa_history_spec.specs.Machine.{Claim, claim_merged}
use Rattle.mesa_history_spec.specs.Run.{State, Stage, Granted, Renewed, Finished}
use Rattle.mesa_history_spec.specs.Replay.{recasted, with_machine}
use Rattle.mesa_history_spec.specs.Found.{Kept, kept_of}
use Rattle.mesa_history_spec.specs.Output.{IsDamage}
use Rattle.mesa_invariant_spec.specs.Books.{Books, AreBooksOf, closed_books_if, ended_books}
use Rattle.mesa_invariant_spec.specs.Causes.{Cause, Replies, Unread, Damaged, Unwritten, NoMemory}

-- Why no claim is granted, of which the books say this: they say so; it would be granted, and a file that it needs couldn't be opened; or books that are open met want of memory.
abbrev pub HasNoClaim : Books → Result Claim Reply → Cause → Type 0
HasNoClaim books asked (Replies r) = asked ≡ Err r
HasNoClaim books asked Unread = (claim : Claim) × (asked ≡ Ok claim)
HasNoClaim books asked (Damaged damage) = ⊥
HasNoClaim books asked Unwritten = ⊥
HasNoClaim books asked NoMemory = books.bare.closed ≡ None

-- Why files weren't made, in books that are open: a file couldn't be read, or was damaged; the file that was built failed; or there was no memory.
abbrev pub HasNotMerged : Books → Cause → Type 0
HasNotMerged books (Replies r) = ⊥
HasNotMerged books Unread = books.bare.closed ≡ None
HasNotMerged books (Damaged damage) = (books.bare.closed ≡ None) × IsDamage damage
HasNotMerged books Unwritten = books.bare.closed ≡ None
HasNotMerged books NoMemory = books.bare.closed ≡ None

-- A claim's range can be swapped in, and the store then keeps this: what each state keeps, of which these are the books, once the range machine has the range.
abbrev pub Swaps : Bool → Books → Claim → Work → Kept → Type 0
Swaps sound books claim work kept =
    (s : State) → AreBooksOf sound books s → IsTrue sound → kept_of (with_machine s (claim_merged s.machine claim work)) ≡ kept

-- A claim's table can be recast, and the store then keeps this: what each state keeps, of which these are the books, once the table is recast.
abbrev pub Regroups : Bool → Books → Claim → Recast → Kept → Type 0
Regroups sound books claim r kept = (s : State) → AreBooksOf sound books s → IsTrue sound → kept_of (recasted s claim r) ≡ kept

-- the stage of a work or a recast after its first turn, or after its renewal, by the task that it gave, if any
abbrev pub stage_if : {T : Type 0} → (T → Claim) → (Claim → Stage) → Option T → Stage
stage_if claim stage (Some t) = stage (claim t)
stage_if claim stage None = Finished

-- the stage before the close: the claim was renewed, or, where its files weren't made, only granted
abbrev pub closing_stage : Bool → Claim → Stage
closing_stage true claim = Granted claim
closing_stage false claim = Renewed claim

-- the books behind files that weren't made: the claim's lease has ended, and a fault of a file that was built may close them
abbrev pub unmerged_books : Cause → Bool → ℕ → Claim → Books → Books
unmerged_books Unwritten closes position claim books = closed_books_if closes position (ended_books claim books)
unmerged_books cause closes position claim books = ended_books claim books
