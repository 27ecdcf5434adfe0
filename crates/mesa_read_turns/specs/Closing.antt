-- What is handed to the turn that closes a query.
use Rattle.std.specs.Prelude.{◌≡◌, ℕ, List, Option, None, Some, Result, Ok, Err, ⊤}
use Rattle.mesa_delta.specs.declared.error.FileError.{FileError}
use Rattle.mesa_delta.specs.declared.error.FileError.TheVariants as file_error
use Rattle.mesa_filter.specs.declared.words.QueryWords.{QueryWords}
use Rattle.mesa_engine.specs.mesa_history_spec.Run.{Run}
use Rattle.mesa_engine.specs.Printing.{page_text}
use Rattle.mesa_model.specs.Query.{Answer}
use Rattle.mesa_model.specs.declared.commands.Script.{Script}
use Rattle.mesa_model.specs.declared.entries.Entry.{Entry}
use Rattle.mesa_model.specs.declared.entries.Kind.TheVariants as kind
use Rattle.mesa_model.specs.declared.replies.Page.{Page}
use Rattle.mesa_engine.specs.mesa_history_spec.Output.{block}
use Rattle.mesa_script.specs.Rows.{rendered}
use Rattle.mesa_script.specs.declared.rendered.Rendered.{Rendered}
use Rattle.mesa_engine.specs.mesa_invariant_spec.Causes.{Cause, Unread, Damaged, NoMemory, reply_of, told_at}
use Rattle.mesa_engine.specs.mesa_invariant_spec.Queries.{IsOpenFrom, closing_outcome}
use Rattle.mesa_engine.specs.mesa_invariant_spec.Turns.{entry}

-- A session's query was answered at a position and isn't closed yet, and this is told of its answer.
pub record IsToClose (script : Script) (r : Run) (session number position : ℕ) (tells : Answer → Type 0) : Type 0 where
  pub words : QueryWords
  pub opened : IsOpenFrom script r session number words position tells

-- A page that was printed into memory, if one was, is the answer's, at this version.
abbrev pub IsPageOf : {E : Type 0} → Result Rendered E → ℕ → Answer → Type 0
IsPageOf (Ok page) version answer = (page ≡ rendered answer.heading answer.page) × (version ≡ answer.page.version)
IsPageOf (Err e) version answer = ⊤

-- The same on any store: it is some page under the answer's heading, at the answer's version, which is this one.
abbrev pub IsSomePageOf : {E : Type 0} → Result Rendered E → ℕ → Answer → Type 0
IsSomePageOf (Ok text) version answer = (page : Page) × (text ≡ rendered answer.heading page) × (version ≡ answer.page.version)
IsSomePageOf (Err e) version answer = ⊤

-- why there is no answer
abbrev pub cause_of : FileError → Cause
cause_of file_error.Read = Unread
cause_of (file_error.Damaged damage) = Damaged damage
cause_of file_error.Memory = NoMemory

-- what comes in the place of an answer, if anything
abbrev pub cause_if : {T : Type 0} → Result T FileError → Option Cause
cause_if (Ok page) = None
cause_if (Err e) = Some (cause_of e)

-- the entry of the closing turn
abbrev pub closing_entry : ℕ → ℕ → Result Rendered FileError → ℕ → Entry
closing_entry session number answered moment = entry session number kind.Close (closing_outcome (cause_if answered)) moment

-- what it prints, under the position of the query's first turn: its page, or why there is none
abbrev pub closing_text : Entry → ℕ → ℕ → Result Rendered FileError → List ℕ
closing_text e at version (Ok page) = page_text e at version page
closing_text e at version (Err error) = block e (Some (told_at at (reply_of (cause_of error))))
