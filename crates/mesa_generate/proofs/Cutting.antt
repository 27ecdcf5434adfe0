-- What a run of one session prints for its last commands stands behind as many lines as there are commands before them, where none of these is a query.
use Rattle.std.proofs.Common.{◌≡◌, ℕ, zero, suc, ◌+◌, ◌≤◌, ◌<◌, List, [], ◌∷◌, ◌++◌, length, Bool, true, refl, sym, ap, subst, ◌∙◌, append_assoc, arith, Option, Some, None, eqb-true}
use Rattle.std.specs.Prelude.{if◌then◌else◌}
use Rattle.std.specs.List.{AllByRecursion}
use Rattle.mesa_model.specs.declared.commands.Command.{Command}
use Rattle.mesa_model.specs.declared.commands.Script.{Script}
use Rattle.mesa_model.specs.declared.entries.Entry.{Entry}
use Rattle.mesa_invariant_spec.specs.mesa_history_spec.Legal.{AllFit}
use Rattle.mesa_invariant_spec.specs.mesa_history_spec.Replay.{go, place_after, runs, told_by, turn_as, turned}
use Rattle.mesa_invariant_spec.specs.mesa_history_spec.Run.{Answered, CutOff, Finished, First, Granted, Looked, Place, Renewed, Run, Stage, State, Told, begins, command_at, place_of}
use Rattle.mesa_invariant_spec.proofs.mesa_history_spec.Due.{due_turn, fit_below}
use Rattle.mesa_invariant_spec.proofs.mesa_history_spec.Places.{place_of-go}
use Rattle.mesa_generate.specs.Excerpt.{HasPlainNames, IsExcerptBy, Output, before_last_three, is_unasked}
use Rattle.mesa_generate.proofs.Behind.{behind_nothing}
use Rattle.mesa_generate.specs.Lines.{IsUnbroken, behind_lines}
use Rattle.mesa_generate.proofs.Blocks.{IsMadeOf}
use Rattle.mesa_generate.proofs.Breaks.{unbroken_parts}
use Rattle.mesa_generate.proofs.Reading.{EndsWithQueries}
use Rattle.mesa_generate.proofs.Turn.{Good, GoesOn, IsTurn, turn_good}

-- ---- a line

behind_line : (n : ℕ) (line rest : List ℕ) → IsUnbroken line → behind_lines (suc n) (line ++ 10 ∷ rest) ≡ behind_lines n rest
unfolding behind_lines
behind_line n [] rest is = refl
behind_line n (b ∷ line) rest is =
    let parts = unbroken_parts b line is in
    ap (λ (t : Bool). if t then behind_lines n (line ++ 10 ∷ rest) else behind_lines (suc n) (line ++ 10 ∷ rest)) parts.0 ∙ behind_line n line rest parts.1

-- ---- the place of the session

stays : (number : ℕ) (stage : Stage) → GoesOn stage → place_after number stage ≡ record { number = number; stage = stage }
stays number First on = refl
stays number Looked on = refl
stays number (Answered at answer) on = absurd on
stays number (Granted claim) on = refl
stays number (Renewed claim) on = refl
stays number Finished on = absurd on
stays number CutOff on = refl

rises : (number : ℕ) (stage : Stage) → number ≤ (place_after number stage).number
rises number First = omega arith
rises number Looked = omega arith
rises number (Answered at answer) = omega arith
rises number (Granted claim) = omega arith
rises number (Renewed claim) = omega arith
rises number Finished = omega arith
rises number CutOff = omega arith

module _ (is_output : Output) (is_piece : Entry → Option Told → List ℕ → Type 0) (made : IsMadeOf is_output is_piece) (script : Script) (first : ℕ) (one : length script.sessions ≡ 1) where
  own : (r : Run) (e : Entry) (h : List Entry) → AllFit script r (e ∷ h) → e.session ≡ 0
  own r e h all = let below = (fit_below script r (e ∷ h) 1 (omega (arith, one)) all).0 in omega (arith, below)

  due_number : (r : Run) (e : Entry) (h : List Entry) → AllFit script r (e ∷ h) → e.command ≡ (place_of r 0).number
  unfolding AllFit
  due_number r e h all =
      let turn = due_turn script r e all.0.due in
      eqb-true e.command (place_of r e.session).number turn.number ∙ ap (λ s. (place_of r s).number) (own r e h all)

  place_next : (r : Run) (e : Entry) (h : List Entry) → AllFit script r (e ∷ h) → place_of (go script r e) 0 ≡ place_after (place_of r 0).number (turned script r e).stage
  place_next r e h all = subst (λ s. place_of (go script r e) s ≡ place_after (place_of r s).number (turned script r e).stage) (own r e h all) (place_of-go script r e)

  -- behind the first so many commands come none of them
  later : (r : Run) (h : List Entry) → first < (place_of r 0).number → AllFit script r h → AllByRecursion (λ (e : Entry). first < e.command) h
  unfolding AllFit
  later r [] over all = tt
  later r (e ∷ h) over all =
      let number = due_number r e h all in
      let next = ap (λ (p : Place). p.number) (place_next r e h all) in
      let more = rises (place_of r 0).number (turned script r e).stage in
      (omega (arith, number, over), later (go script r e) h (omega (arith, next, more, over)) all.1)

  -- one entry more before
  entry_more : (r : Run) (e : Entry) (h : List Entry) (text : List ℕ) → e.command ≤ first → IsExcerptBy is_output script (go script r e) h first text → IsExcerptBy is_output script r (e ∷ h) first text
  unfolding runs
  entry_more r e h text le x = record {
    past = e ∷ x.past;
    rest = x.rest;
    split = ap (λ (l : List Entry). e ∷ l) x.split;
    before = (le, x.before);
    behind = x.behind;
    output = x.output;
  }

  module _ (unasked : (n : ℕ) (c : Command) → n ≤ first → command_at script 0 n ≡ Some c → is_unasked c ≡ true) where
    good_turn : (r : Run) (e : Entry) (h : List Entry) → AllFit script r (e ∷ h) → HasPlainNames r.state.warehouse.store → GoesOn (place_of r 0).stage → e.command ≤ first → Good (turned script r e)
    unfolding AllFit turned
    good_turn r e h all plain on le =
        let turn = due_turn script r e all.0.due in
        let session = own r e h all in
        let asked : is_unasked turn.command ≡ true = unasked e.command turn.command le (subst (λ s. command_at script s e.command ≡ Some turn.command) session turn.known) in
        subst (λ o. Good (turn_as r e o)) (sym turn.known)
        (turn_good r turn.command e (place_of r e.session).stage e.outcome plain asked (subst (λ s. GoesOn (place_of r s).stage) (sym session) on))

    -- the excerpt of a history from where a session has come to a command that is among the first
    pub cut : (r : Run) (h : List Entry) (text : List ℕ) (left : ℕ) → AllFit script r h → HasPlainNames r.state.warehouse.store → GoesOn (place_of r 0).stage → left + (place_of r 0).number ≡ first + 1
        → is_output script r h text → IsExcerptBy is_output script r h first (behind_lines left text)
    unfolding AllFit runs behind_lines go
    cut r h text zero all plain on count output = record { past = []; rest = h; split = refl; before = tt; behind = later r h (omega (arith, count)) all; output = output }
    cut r [] text (suc left) all plain on count output =
        let none : text ≡ [] = made.nothing script r text output in
        let same : text ≡ behind_lines (suc left) text = none ∙ sym (ap (behind_lines (suc left)) none ∙ behind_nothing (suc left)) in
        record { past = []; rest = []; split = refl; before = tt; behind = tt; output = subst (is_output script r []) same output }
    cut r (e ∷ h) text (suc left) all plain on count output =
        by (λ more goes there. cut (go script r e) h rest more all.1 good.names goes there parts.1.1.1) (turned script r e).told refl good.turn
      where
        number : e.command ≡ (place_of r 0).number
        number = due_number r e h all

        le : e.command ≤ first
        le = omega (arith, number, count)

        good : Good (turned script r e)
        good = good_turn r e h all plain on le

        parts : (piece : List ℕ) × ((rest : List ℕ) × (is_piece e (told_by script r e) piece × is_output script (go script r e) h rest × (text ≡ piece ++ rest)))
        parts = made.more script r e h text output

        piece : List ℕ
        piece = parts.0

        rest : List ℕ
        rest = parts.1.0

        next : place_of (go script r e) 0 ≡ place_after (place_of r 0).number (turned script r e).stage
        next = place_next r e h all

        Rest : Type 0
        Rest = (more : ℕ) → GoesOn (place_of (go script r e) 0).stage → more + (place_of (go script r e) 0).number ≡ first + 1 → IsExcerptBy is_output script (go script r e) h first (behind_lines more rest)

        by : Rest → (o : Option Told) → (turned script r e).told ≡ o → IsTurn o (turned script r e).stage → IsExcerptBy is_output script r (e ∷ h) first (behind_lines (suc left) text)
        by cuts None told goes =
            let place : place_of (go script r e) 0 ≡ record { number = (place_of r 0).number; stage = (turned script r e).stage } = next ∙ stays (place_of r 0).number (turned script r e).stage goes in
            let empty : piece ≡ [] = made.empty e piece (subst (λ o. is_piece e o piece) told parts.1.1.0) in
            let same : text ≡ rest = parts.1.1.2 ∙ ap (λ (p : List ℕ). p ++ rest) empty in
            let here = ap (λ (p : Place). p.number) place in
            entry_more r e h _ le (subst (λ t. IsExcerptBy is_output script (go script r e) h first (behind_lines (suc left) t)) (sym same)
            (cuts (suc left) (subst (λ (p : Place). GoesOn p.stage) (sym place) goes) (omega (arith, here, count))))
        by cuts (Some told) tells ends =
            let place : place_of (go script r e) 0 ≡ record { number = (place_of r 0).number + 1; stage = First } = next ∙ ap (place_after (place_of r 0).number) ends.0 in
            let here = ap (λ (p : Place). p.number) place in
            let line = made.line e told piece ends.1 (subst (λ o. is_piece e o piece) tells parts.1.1.0) in
            let same : text ≡ line.line ++ 10 ∷ rest = parts.1.1.2 ∙ ap (λ (p : List ℕ). p ++ rest) line.is ∙ append_assoc line.line (10 ∷ []) rest in
            let cut_off : behind_lines (suc left) text ≡ behind_lines left rest = ap (behind_lines (suc left)) same ∙ behind_line left line.line rest line.unbroken in
            entry_more r e h _ le (subst (IsExcerptBy is_output script (go script r e) h first) (sym cut_off)
            (cuts left (subst (λ (p : Place). GoesOn p.stage) (sym place) tt) (omega (arith, here, count))))

-- The excerpt of a whole run.
pub excerpt_cut : (is_output : Output) (is_piece : Entry → Option Told → List ℕ → Type 0) → IsMadeOf is_output is_piece → (script : Script) → EndsWithQueries script → (start : State) (h : List Entry) (text : List ℕ) → AllFit script (begins start) h
    → HasPlainNames start.warehouse.store → is_output script (begins start) h text → IsExcerptBy is_output script (begins start) h (before_last_three script) (behind_lines (before_last_three script) text)
unfolding place_of
excerpt_cut is_output is_piece made script ends start h text all names output =
    cut is_output is_piece made script (before_last_three script) ends.one ends.unasked (begins start) h text (before_last_three script) all names tt refl output
