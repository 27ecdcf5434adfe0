-- Every page that a history prints was answered at the position that it is printed with.
use Rattle.std.proofs.Common.{◌≡◌, ℕ, ◌==◌, List, [], ◌∷◌, ◌++◌, length, refl, sym, ◌∙◌, ap, subst, arith, append_assoc, true, false, inl, inr, Some, Ok}
use Rattle.std.proofs.lemmas.Bool.{eqb-true}
use Rattle.std.proofs.lemmas.List.{append-nil}
use Rattle.mesa_history_spec.specs.mesa_filter.declared.words.QueryWords.{QueryWords}
use Rattle.mesa_history_spec.specs.mesa_model.declared.commands.Command.TheVariants as command
use Rattle.mesa_history_spec.specs.mesa_model.declared.commands.Script.{Script}
use Rattle.mesa_history_spec.specs.mesa_model.declared.entries.Entry.{Entry}
use Rattle.mesa_history_spec.specs.mesa_model.declared.replies.Page.{Page}
use Rattle.mesa_history_spec.specs.mesa_model.declared.replies.Reply.TheVariants as reply
use Rattle.mesa_history_spec.specs.mesa_model.Query.{Answer, query_answer}
use Rattle.mesa_history_spec.specs.Run.{Answered, CutOff, Finished, First, Granted, Looked, Place, Renewed, Run, Stage, State, Told, begins, command_of, place_of}
use Rattle.mesa_history_spec.specs.Replay.{go, place_after, runs, told_by}
use Rattle.mesa_history_spec.proofs.More.{position_is, runs_more}
use Rattle.mesa_history_spec.proofs.Places.{place_of-go, place_of-other}
use Rattle.mesa_history_laws.specs.Given.{warehouse_after}
use Rattle.mesa_history_laws.specs.Printed.{WasAnswered}
use Rattle.mesa_history_laws.proofs.Telling.{turned_tells}

-- an answer that a session has was decided by an entry of it
record IsHeld (script : Script) (start : State) (h : List Entry) (session at : ℕ) (answer : Answer) : Type 0 where
  before : List Entry
  entry : Entry
  more : List Entry
  words : QueryWords
  parts : before ++ entry ∷ more ≡ h
  place : length before ≡ at
  mine : entry.session ≡ session
  query : command_of script entry ≡ Some (command.Query words)
  answers : query_answer (warehouse_after script start before) session words ≡ Ok answer

-- a command that goes on with an answer has it
still : (number : ℕ) (stage : Stage) (at : ℕ) (answer : Answer) → (place_after number stage).stage ≡ Answered at answer → stage ≡ Answered at answer
still number First at answer is = cc
still number Looked at answer is = cc
still number (Answered other its) at answer is = is
still number (Granted claim) at answer is = cc
still number (Renewed claim) at answer is = cc
still number Finished at answer is = cc
still number CutOff at answer is = cc

module _ (script : Script) (start : State) where
  abbrev Held : List Entry → Type 0
  Held h = (session at : ℕ) (answer : Answer) → (place_of (runs script (begins start) h) session).stage ≡ Answered at answer → IsHeld script start h session at answer

  none_held : Held []
  unfolding runs place_of
  none_held session at answer is = cc

  held_longer : (h more : List Entry) (session at : ℕ) (answer : Answer) → IsHeld script start h session at answer → IsHeld script start (h ++ more) session at answer
  held_longer h more session at answer is = record {
    before = is.before;
    entry = is.entry;
    more = is.more ++ more;
    words = is.words;
    parts = sym (append_assoc is.before (is.entry ∷ is.more) more) ∙ ap (λ (xs : List Entry). xs ++ more) is.parts;
    place = is.place;
    mine = is.mine;
    query = is.query;
    answers = is.answers;
  }

  module _ (h : List Entry) (e : Entry) (held : Held h) where
    abbrev r : Run
    r = runs script (begins start) h

    -- the session of the entry
    held_own : (at : ℕ) (answer : Answer) → (place_of (go script r e) e.session).stage ≡ Answered at answer → IsHeld script start (h ++ e ∷ []) e.session at answer
    held_own at answer is =
        let staged = (turned_tells script r e).staged at answer (still _ _ at answer (ap (λ (p : Place). p.stage) (sym (place_of-go script r e)) ∙ is)) in
        elim staged as (λ _. IsHeld script start (h ++ e ∷ []) e.session at answer) [
          | inl old ↦ held_longer h (e ∷ []) e.session at answer (held e.session at answer old)
          | inr new ↦
              let count = position_is script (begins start) h in
              let here = new.here in
              record {
                before = h;
                entry = e;
                more = [];
                words = new.words;
                parts = refl;
                place = omega (arith, count, here);
                mine = refl;
                query = new.query;
                answers = new.answers;
              }
        ]

    held_next : Held (h ++ e ∷ [])
    held_next session at answer is =
        let there : (place_of (go script r e) session).stage ≡ Answered at answer = subst (λ (x : Run). (place_of x session).stage ≡ Answered at answer) (runs_more script (begins start) h e) is in
        elim (session == e.session) as (λ b. (session == e.session) ≡ b → IsHeld script start (h ++ e ∷ []) session at answer) [
          | true ↦ λ same.
              let own : session ≡ e.session = eqb-true session e.session same in
              subst (λ s. IsHeld script start (h ++ e ∷ []) s at answer) (sym own) (held_own at answer (subst (λ s. (place_of (go script r e) s).stage ≡ Answered at answer) own there))
          | false ↦ λ other. held_longer h (e ∷ []) session at answer (held session at answer (ap (λ (p : Place). p.stage) (sym (place_of-other script r e session other)) ∙ there))
        ] refl

  held_in : (h more : List Entry) → Held h → Held (h ++ more)
  held_in h [] held = subst Held (sym (append-nil h)) held
  held_in h (e ∷ more) held = subst Held (append_assoc h (e ∷ []) more) (held_in (h ++ e ∷ []) more (held_next h e held))

  -- Every page that is printed was answered at the position that it is printed with.
  pub pages_answered : (h : List Entry) (e : Entry) (told : Told) (page : Page) → told_by script (runs script (begins start) h) e ≡ Some told → told.reply ≡ reply.Page page → WasAnswered script start h e.session told
  pages_answered h e told page tells is =
      let printed = (turned_tells script (runs script (begins start) h) e).printed told page tells is in
      let held = held_in [] h none_held e.session told.at printed.answer printed.has in
      record {
        before = held.before;
        entry = held.entry;
        more = held.more;
        words = held.words;
        answer = printed.answer;
        parts = held.parts;
        place = held.place;
        mine = held.mine;
        query = held.query;
        answers = held.answers;
        page = printed.page;
        heading = printed.heading;
      }
