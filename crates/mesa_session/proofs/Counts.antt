-- What benches counted, where the passes of two parts of the sessions are joined.
use Rattle.std.proofs.Common.{◌≡◌, ℕ, ◌+◌, ◌≤◌, List, [], ◌∷◌, ◌++◌, length, true, get_or, slice_set, sym, ◌∙◌, ap, subst, arith}
use Rattle.mesa_model.specs.declared.entries.Entry.{Entry}
use Rattle.mesa_turn.specs.History.{has}
use Rattle.mesa_turn.specs.Passes.{Joins, Known}
use Rattle.mesa_turn.proofs.Names.{has_itself}
use Rattle.mesa_model.specs.declared.commands.Script.{Script}
use Rattle.mesa_model.specs.Entry.{history_of}
use Rattle.mesa_session_turns.specs.mesa_history_spec.Run.{State}
use Rattle.mesa_session_turns.specs.mesa_core.Answers.{HasCounted, HaveCounted}
use Rattle.mesa_session_turns.specs.mesa_core.Passes.{HaveEnded}
use Rattle.mesa_session_turns.proofs.mesa_core.Answering.{answered_first, timely_before}
use Rattle.mesa_session_turns.proofs.mesa_core.Counting.{counted_all, counted_rest, counted_second}

module _ (script : Script) (start : State) (a b p : Known) (joins : Joins a b p) where
  -- what the prologue's bench counted is still enough
  pub prologue_kept : has a.names 0 ≡ true → (before now : ℕ) → HasCounted script start (history_of a.seen) 0 before now → HasCounted script start (history_of p.seen) 0 before now
  prologue_kept held before now was timely low =
      let few = was (timely_before a.seen p.seen joins.first_seen timely) low in
      let same = answered_first script start a b p 0 joins held in
      omega (arith, few, same)

  -- the bench of a session, and those of the sessions behind it
  pub joined_counted : {B : Type 0} (faults : B → ℕ) (next : ℕ) (bench left : B) (old new : List B) → b.names ≡ next ∷ [] → length script.sessions ≤ 8 → HaveEnded script start a (next + 1) → HaveEnded script start p next
      → HasCounted script start (history_of b.seen) next (faults bench) (faults left) → HaveCounted faults script start (history_of a.seen) (next + 1) old new → HaveCounted faults script start (history_of p.seen) next (bench ∷ old) (left ∷ new)
  joined_counted faults next bench left old new name few ended all one more =
      counted_all script start faults (history_of p.seen) next bench left old new
      (counted_second script start a b p joins next (faults bench) (faults left) (ap (λ names. has names next) name ∙ has_itself next) one)
      (counted_rest script start a b p joins faults (next + 1) old new few ended all.prologue.fits more)

-- the benches of a session and of those behind it, as a slice that was split behind the first
pub benches_counted : {B : Type 0} (faults : B → ℕ) (script : Script) (start : State) (h : List Entry) (next : ℕ) (all front back : List B) (d left : B) (given new : List B) → all ≡ front ++ back → length front ≡ 1 → given ≡ new
    → HaveCounted faults script start h next (get_or front 0 d ∷ back) (left ∷ new) → HaveCounted faults script start h next all (slice_set front 0 left ++ given)
benches_counted faults script start h next all [] back d left given new value one same counted = absurd (omega (arith, one))
benches_counted faults script start h next all (x ∷ []) back d left given new value one same counted = subst (λ l. HaveCounted faults script start h next l (left ∷ given)) (sym value) (subst (λ l. HaveCounted faults script start h next (x ∷ back) (left ∷ l)) (sym same) counted)
benches_counted faults script start h next all (x ∷ y ∷ front) back d left given new value one same counted = absurd (omega (arith, one))
