-- Commands that one turn decides, their checks, and what they make of a vault's books.
use Rattle.std.specs.Prelude.{◌≡◌, ℕ, Bool, true, false, None, IsTrue, Result, Ok, Err}
use Rattle.mesa_history_spec.specs.mesa_filter.declared.words.VersionWord.{VersionWord}
use Rattle.mesa_history_spec.specs.mesa_model.declared.commands.Command.{Command}
use Rattle.mesa_history_spec.specs.mesa_model.declared.commands.ExplainWords.{ExplainWords}
use Rattle.mesa_history_spec.specs.mesa_model.declared.entries.Kind.TheVariants as kind
use Rattle.mesa_history_spec.specs.mesa_model.declared.replies.Refusal.{Refusal}
use Rattle.mesa_history_spec.specs.mesa_model.declared.replies.Reply.{Reply}
use Rattle.mesa_history_spec.specs.mesa_model.declared.replies.Reply.TheVariants as reply
use Rattle.mesa_history_spec.specs.mesa_model.Warehouse.{Warehouse}
use Rattle.mesa_history_spec.specs.mesa_model.Pins.{make_pin, next_token, release_pin, with_pin}
use Rattle.mesa_history_spec.specs.mesa_model.Step.{done_or_refused}
use Rattle.mesa_history_spec.specs.Machine.{explained}
use Rattle.mesa_history_spec.specs.Run.{State, Stage}
use Rattle.mesa_history_spec.specs.Replay.{decide, decided, stepped}
use Rattle.mesa_history_spec.specs.Legal.{is_due_at, is_release, is_writing, is_written, builds_files}
use Rattle.mesa_history_spec.specs.Bare.{bare, bare_done, bare_result}
use Rattle.mesa_invariant_spec.specs.Books.{Books, AreBooksOf, closed_books_if, without_pin}
use Rattle.mesa_invariant_spec.specs.Causes.{Cause, Replies, Unread, Damaged, Unwritten, NoMemory}

-- what a command does to a warehouse: the warehouse after it and the reply, or a refusal
abbrev pub Doing : Type 0
Doing = Warehouse → Result (Warehouse × Reply) Refusal

-- The deciding turn of a session's command does this to the warehouse, and sees no rows in it.
pub record IsDecided (session : ℕ) (c : Command) (stage : Stage) (f : Doing) : Type 0 where
  pub decides : (position : ℕ) (s : State) → decide position s session c ≡ decided position s (done_or_refused s.warehouse (f s.warehouse))
  pub alike : (w : Warehouse) → bare_result bare_done (f w) ≡ bare_result bare_done (f (bare w))
  pub due : IsTrue (is_due_at c stage kind.Decide)

-- a reply that isn't a page
abbrev pub is_plain : Reply → Bool
is_plain (reply.Page page) = false
is_plain r = true

-- Books become these by what a command does, with a reply: whatever state they were the books of, they are those of the state after it.
pub record IsChange (sound : Bool) (old new : Books) (f : Doing) (r : Reply) : Type 0 where
  pub projection : (after : Warehouse) × (f old.bare ≡ Ok (after, r))
  pub follows : (s : State) (after : Warehouse) → AreBooksOf sound old s → f s.warehouse ≡ Ok (after, r) → AreBooksOf sound new (stepped s after r)
  pub opened : old.bare.closed ≡ None
  pub plain : is_plain r ≡ true

-- What the checks of a command came to: it is ready to make these books, with a reply; or it fails, with a cause.
pub data Checks : Type 0 where
  Ready : Books → Reply → Checks
  Fails : Cause → Checks

-- Why a command wasn't done: it is refused as the books say; or books that are open meet a fault of a file that is built for it, or want of memory.
abbrev pub HasFailed : Books → Command → Doing → Cause → Type 0
HasFailed books c f (Replies r) = (x : Refusal) × (f books.bare ≡ Err x) × (r ≡ reply.Refused x)
HasFailed books c f Unread = ⊥
HasFailed books c f (Damaged damage) = ⊥
HasFailed books c f Unwritten = (books.bare.closed ≡ None) × (is_writing c ≡ true) × (builds_files books.bare.store c ≡ true)
HasFailed books c f NoMemory = (books.bare.closed ≡ None) × (is_release c ≡ false)

-- A command that writes was checked.
abbrev pub HasChecked : Bool → Books → Command → Doing → Checks → Type 0
HasChecked sound books c f (Ready changed r) = IsChange sound books changed f r × (is_written r ≡ true)
HasChecked sound books c f (Fails cause) = HasFailed books c f cause

-- the books behind a command that wasn't done: they change only where a fault closes them
abbrev pub failed_books : Cause → Bool → ℕ → Books → Books
failed_books Unwritten closes position books = closed_books_if closes position books
failed_books cause closes position books = books

-- Why an explain isn't answered: it is refused as the books say, or books that are open met want of memory.
abbrev pub HasNoPlan : Books → ExplainWords → Cause → Type 0
HasNoPlan books words (Replies r) = (x : Refusal) × (explained books.bare books.machine words ≡ Err x) × (r ≡ reply.Refused x)
HasNoPlan books words Unread = ⊥
HasNoPlan books words (Damaged damage) = ⊥
HasNoPlan books words Unwritten = ⊥
HasNoPlan books words NoMemory = books.bare.closed ≡ None

-- The books make a pin of a version for a session.
abbrev pub MakesPin : Books → ℕ → VersionWord → ℕ → Type 0
MakesPin books session asked version = make_pin books.bare session asked ≡ Ok (with_pin books.bare session version, reply.Pinned (next_token books.bare session) version)

-- The books release a pin of a session.
abbrev pub ReleasesPin : Books → ℕ → ℕ → Type 0
ReleasesPin books session token = release_pin books.bare session token ≡ Ok (record books.bare { pins = without_pin session token books.bare.pins }, reply.Released token)
