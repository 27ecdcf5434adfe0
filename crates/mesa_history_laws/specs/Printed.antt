-- Pages that a history prints.
use Rattle.std.specs.Prelude.{◌≡◌, ℕ, List, ◌∷◌, ◌++◌, length, Some, Ok}
use Rattle.mesa_history_spec.specs.mesa_filter.declared.words.QueryWords.{QueryWords}
use Rattle.mesa_history_spec.specs.mesa_model.declared.commands.Command.TheVariants as command
use Rattle.mesa_history_spec.specs.mesa_model.declared.commands.Script.{Script}
use Rattle.mesa_history_spec.specs.mesa_model.declared.entries.Entry.{Entry}
use Rattle.mesa_history_spec.specs.mesa_model.declared.replies.Page.{Page}
use Rattle.mesa_history_spec.specs.mesa_model.declared.replies.Reply.TheVariants as reply
use Rattle.mesa_history_spec.specs.mesa_model.Query.{Answer, query_answer}
use Rattle.mesa_history_spec.specs.Run.{State, Told, command_of, begins}
use Rattle.mesa_history_spec.specs.Replay.{told_by, runs}
use Rattle.mesa_history_laws.specs.Answers.{IsFromItsVersion}
use Rattle.mesa_history_laws.specs.Given.{warehouse_after}

-- What is printed was answered: at the position with which it is printed an entry of the session decided a query, and the page is the answer to it there.
pub record WasAnswered (script : Script) (start : State) (h : List Entry) (session : ℕ) (told : Told) : Type 0 where
  pub before : List Entry
  pub entry : Entry
  pub more : List Entry
  pub words : QueryWords
  pub answer : Answer
  pub parts : before ++ entry ∷ more ≡ h
  pub place : length before ≡ told.at
  pub mine : entry.session ≡ session
  pub query : command_of script entry ≡ Some (command.Query words)
  pub answers : query_answer (warehouse_after script start before) session words ≡ Ok answer
  pub page : told.reply ≡ reply.Page answer.page
  pub heading : told.heading ≡ answer.heading

-- Such a page is from the fold, at the position with which it is printed.
pub record IsPrintedFromTheFold (script : Script) (start : State) (h : List Entry) (session : ℕ) (told : Told) : Type 0 where
  pub was : WasAnswered script start h session told
  pub fold : IsFromItsVersion script start was.before session was.words was.answer was.words.version

-- Each page that a history prints is what its query asks for, at the position with which it is printed, of the fold of the batches accepted before.
abbrev pub AnswersFromTheFold : Script → State → List Entry → Type 0
AnswersFromTheFold script start h =
    (before more : List Entry) (e : Entry) (told : Told) (page : Page) → before ++ e ∷ more ≡ h → told_by script (runs script (begins start) before) e ≡ Some told
    → told.reply ≡ reply.Page page → IsPrintedFromTheFold script start before e.session told
