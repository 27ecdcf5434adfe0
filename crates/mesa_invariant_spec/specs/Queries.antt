-- The turns of a query.
use Rattle.std.specs.Prelude.{◌≡◌, ℕ, List, Bool, false, Option, None, Some, Ok, Err}
use Rattle.mesa_history_spec.specs.mesa_filter.declared.words.QueryWords.{QueryWords}
use Rattle.mesa_history_spec.specs.mesa_model.declared.commands.Command.TheVariants as command
use Rattle.mesa_history_spec.specs.mesa_model.declared.commands.Script.{Script}
use Rattle.mesa_history_spec.specs.mesa_model.declared.entries.Entry.{Entry}
use Rattle.mesa_history_spec.specs.mesa_model.declared.entries.Outcome.{Outcome}
use Rattle.mesa_history_spec.specs.mesa_model.declared.entries.Outcome.TheVariants as outcome
use Rattle.mesa_history_spec.specs.mesa_model.declared.replies.Page.{Page}
use Rattle.mesa_history_spec.specs.mesa_model.declared.replies.Refusal.{Refusal}
use Rattle.mesa_history_spec.specs.mesa_model.declared.replies.Reply.TheVariants as reply
use Rattle.mesa_history_spec.specs.mesa_model.Query.{Answer, query_answer}
use Rattle.mesa_history_spec.specs.Run.{State, Stage, Answered, Finished, Run, Told}
use Rattle.mesa_history_spec.specs.Turns.{IsDue}
use Rattle.mesa_history_spec.specs.Rows.{Rows}
use Rattle.mesa_history_spec.specs.Bare.{bare_page}
use Rattle.mesa_history_spec.specs.Output.{IsDamage, block}
use Rattle.mesa_invariant_spec.specs.Books.{Books, AreBooksOf}
use Rattle.mesa_invariant_spec.specs.Causes.{Cause, Replies, Unread, Damaged, Unwritten, NoMemory, is_read_fault, outcome_of, reply_of, told_at}
use Rattle.mesa_invariant_spec.specs.Invariant.{run_at}

-- Why a query isn't answered: it is refused as the books say; it would be answered, and a file that it needs couldn't be opened; or books that are open met want of memory.
abbrev pub HasNoAnswer : Books → ℕ → QueryWords → Cause → Type 0
HasNoAnswer books session words (Replies r) = (x : Refusal) × (query_answer books.bare session words ≡ Err x) × (r ≡ reply.Refused x)
HasNoAnswer books session words Unread = (answer : Answer) × (query_answer books.bare session words ≡ Ok answer)
HasNoAnswer books session words (Damaged damage) = (answer : Answer) × (query_answer books.bare session words ≡ Ok answer) × IsDamage damage
HasNoAnswer books session words Unwritten = ⊥
HasNoAnswer books session words NoMemory = books.bare.closed ≡ None

-- A query is answered by the books, and what is handed out for it tells the answer that each state gives of which they are the books.
pub record IsPinned (sound : Bool) (books : Books) (session : ℕ) (words : QueryWords) (tells : Answer → Type 0) : Type 0 where
  pub asked : (answer : Answer) × (query_answer books.bare session words ≡ Ok answer)
  pub answers : (s : State) (answer : Answer) → AreBooksOf sound books s → query_answer s.warehouse session words ≡ Ok answer → tells answer

-- A query was answered at a position and isn't closed yet, and what was handed out for it tells its answer.
pub record IsOpenFrom (script : Script) (r : Run) (session number : ℕ) (words : QueryWords) (position : ℕ) (tells : Answer → Type 0) : Type 0 where
  pub answer : Answer
  pub due : IsDue script r session number (command.Query words) (Answered position answer)
  pub told : tells answer

-- The same whatever rows the files at the start have: each start gives an answer of its own.
abbrev pub IsOpen : Script → (Rows → State) → List Entry → ℕ → ℕ → QueryWords → ℕ → (Rows → Answer → Type 0) → Type 0
IsOpen script from h session number words position tells = (w : Rows) → IsOpenFrom script (run_at script (from w) h) session number words position (tells w)

-- ---- its close

-- what may come in the place of a query's answer
abbrev pub IsUnanswered : Cause → Type 0
IsUnanswered (Replies r) = ⊥
IsUnanswered Unread = Unit {0}
IsUnanswered (Damaged damage) = IsDamage damage
IsUnanswered Unwritten = ⊥
IsUnanswered NoMemory = Unit {0}

-- an answer is there, or a cause for which it isn't
abbrev pub MayClose : Option Cause → Type 0
MayClose None = Unit {0}
MayClose (Some cause) = IsUnanswered cause

-- how a query's close ends
abbrev pub closing_outcome : Option Cause → Outcome
closing_outcome None = outcome.Stands
closing_outcome (Some cause) = outcome_of cause

-- what it prints, at the position of the query's first turn
abbrev pub closing_told : ℕ → Answer → Option Cause → Told
closing_told position answer None = record { at = position; reply = reply.Page answer.page; heading = answer.heading }
closing_told position answer (Some cause) = told_at position (reply_of cause)

-- What it puts on the sink on any store: the block of what it prints, but for the rows of its page.
abbrev pub ClosesWith : Entry → ℕ → Answer → Option Cause → List ℕ → Type 0
ClosesWith e position answer None piece =
    (page : Page) × (bare_page page ≡ bare_page answer.page) × (piece ≡ block e (Some (record { at = position; reply = reply.Page page; heading = answer.heading })))
ClosesWith e position answer (Some cause) piece = piece ≡ block e (Some (told_at position (reply_of cause)))

-- the stage of a query after its first turn, by what was handed out for it, if anything
abbrev pub pinned_stage : {P : Type 0} → (P → ℕ) → (P → Answer) → Option P → Stage
pinned_stage position answer None = Finished
pinned_stage position answer (Some p) = Answered (position p) (answer p)

-- whether the close answers a fault of the disk
abbrev pub closing_fault : Option Cause → Bool
closing_fault None = false
closing_fault (Some cause) = is_read_fault cause
