-- The counts of benches, over all of a history.
use Rattle.std.proofs.Common.{◌≡◌, ℕ, zero, suc, ◌+◌, ◌<◌, ◌≤◌, ◌==◌, ne_eqb, true, false, List, [], ◌∷◌, length, refl, sym, ap, ◌∙◌, subst, arith, Option, None, Some, ⊎_elim}
use Rattle.std.specs.List.{AllByRecursion}
use Rattle.std.proofs.lemmas.Bool.{cases_lt}
use Rattle.mesa_io.specs.Causes.{last}
use Rattle.mesa_turn.specs.History.{has, entries_of}
use Rattle.mesa_turn.specs.Passes.{Known, Joins}
use Rattle.mesa_model.specs.declared.commands.Script.{Script}
use Rattle.mesa_model.specs.declared.entries.Entry.{Entry}
use Rattle.mesa_model.specs.Entry.{history_of}
use Rattle.mesa_recast_turns.specs.mesa_history_spec.Counting.{count_in}
use Rattle.mesa_recast_turns.specs.mesa_history_spec.Legal.{AllFit}
use Rattle.mesa_recast_turns.specs.mesa_history_spec.Run.{State, begins}
use Rattle.mesa_engine.proofs.mesa_history_spec.Due.{fit_below}
use Rattle.mesa_core.specs.Answers.{Answers, HasCounted, HaveCounted, answered, answered_in}
use Rattle.mesa_core.specs.Passes.{HaveEnded}
use Rattle.mesa_core.proofs.Answering.{answered_behind, answered_first, answered_second, none_answered, timely_before}
use Rattle.mesa_core.proofs.Behind.{behind_others}

some_same : {X : Type 0} (x y : X) → Some x ≡ Some y → x ≡ y
some_same {X = X} x y is = ap (λ (o : Option X). elim o [ None ↦ x | Some z ↦ z ]) is

module _ (script : Script) (start : State) where
  none_begins : (session : ℕ) → answered_in script start session (history_of []) ≡ 0
  unfolding count_in
  none_begins session = refl

  -- a session that had no turn answered nothing
  pub answered_fresh : (session : ℕ) (seen : List ℕ) → entries_of (session ∷ []) seen ≡ [] → answered_in script start session (history_of seen) ≡ 0
  answered_fresh session seen none = answered_behind script start session [] seen (behind_others session [] seen none) ∙ none_begins session

  others_past : (session limit : ℕ) (h : List Entry) → limit ≤ session → AllByRecursion (λ (e : Entry). e.session < limit) h → AllByRecursion (λ (e : Entry). (session == e.session) ≡ false) h
  others_past session limit [] past below = tt
  others_past session limit (e ∷ h) past below = let lt = below.0 in (ne_eqb session e.session (λ same. omega (arith, past, lt, same)), others_past session limit h past below.1)

  -- nor did one that the script doesn't have
  pub answered_past : (session : ℕ) (h : List Entry) → AllFit script (begins start) h → length script.sessions ≤ session → answered_in script start session h ≡ 0
  answered_past session h fits past = none_answered session script (begins start) h (others_past session (length script.sessions) h past (fit_below script (begins start) h (length script.sessions) (omega arith) fits))

  -- a session whose pass had none of its turns
  pub counted_whole : (session : ℕ) (p q : Known) (before now : ℕ) → answered script start session p ≡ 0 → Answers script start session p q before now 0 → HasCounted script start (history_of q.seen) session before now
  counted_whole session p q before now none answers timely low = let few = answers.counted low timely in omega (arith, few, none)

  -- none of the sessions from a number on, where there are none
  pub counted_none : {B : Type 0} (faults : B → ℕ) (h : List Entry) (next : ℕ) (benches : List B) → AllFit script (begins start) h → length script.sessions ≤ next → HaveCounted faults script start h next benches benches
  counted_none faults h next benches fits past i before now old new timely low =
      let same : before ≡ now = some_same before now (sym old ∙ new) in
      let none = answered_past (next + i) h fits (omega (arith, past)) in
      let kept : faults before ≡ faults now = ap faults same in
      omega (arith, none, kept)

  module _ (a b p : Known) (joins : Joins a b p) where
    -- a join keeps what one session's bench counted
    pub counted_second : (session before now : ℕ) → has b.names session ≡ true → HasCounted script start (history_of b.seen) session before now → HasCounted script start (history_of p.seen) session before now
    counted_second session before now held was timely low =
        let few = was (timely_before b.seen p.seen joins.second_seen timely) low in
        let same = answered_second script start a b p session joins held in
        omega (arith, few, same)

    counted_first : (session before now : ℕ) → has a.names session ≡ true → HasCounted script start (history_of a.seen) session before now → HasCounted script start (history_of p.seen) session before now
    counted_first session before now held was timely low =
        let few = was (timely_before a.seen p.seen joins.first_seen timely) low in
        let same = answered_first script start a b p session joins held in
        omega (arith, few, same)

    -- and what those of the sessions behind it counted
    pub counted_rest : {B : Type 0} (faults : B → ℕ) (next : ℕ) (old new : List B) → length script.sessions ≤ 8 → HaveEnded script start a next → AllFit script (begins start) (history_of p.seen)
        → HaveCounted faults script start (history_of a.seen) next old new → HaveCounted faults script start (history_of p.seen) next old new
    counted_rest faults next old new few ended fits was i before now had has_now = ⊎_elim
        (λ (there : next + i < length script.sessions). counted_first (next + i) (faults before) (faults now) (ended.later (next + i) (omega arith) (omega (arith, there, few))) (was i before now had has_now))
        (λ (past : length script.sessions ≤ next + i). λ timely low.
        let kept = was i before now had has_now (timely_before a.seen p.seen joins.first_seen timely) low in
        let none = answered_past (next + i) (history_of p.seen) fits past in
        omega (arith, kept, none))
        (cases_lt (next + i) (length script.sessions))

  -- the benches of a session and of those behind it
  pub counted_all : {B : Type 0} (faults : B → ℕ) (h : List Entry) (next : ℕ) (bench left : B) (old new : List B) → HasCounted script start h next (faults bench) (faults left) → HaveCounted faults script start h (next + 1) old new → HaveCounted faults script start h next (bench ∷ old) (left ∷ new)
  counted_all faults h next bench left old new one more zero before now had has_now timely low =
      let first = one timely (subst (λ b. faults b < last) (some_same now left (sym has_now)) low) in
      let same : faults bench ≡ faults before = ap faults (some_same bench before had) in
      let also : faults left ≡ faults now = ap faults (some_same left now has_now) in
      let at : answered_in script start (next + 0) h ≡ answered_in script start next h = ap (λ n. answered_in script start n h) (omega arith) in
      omega (arith, first, same, also, at)
  counted_all faults h next bench left old new one more (suc i) before now had has_now timely low =
      let rest = more i before now had has_now timely low in
      let at : answered_in script start (next + suc i) h ≡ answered_in script start (next + 1 + i) h = ap (λ n. answered_in script start n h) (omega arith) in
      omega (arith, rest, at)
