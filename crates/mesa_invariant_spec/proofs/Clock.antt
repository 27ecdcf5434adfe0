-- Moments of a turn's entry, by what the turn did to the disk's clock.
use Rattle.std.proofs.Common.{◌≡◌, ⊎_elim, ℕ, ◌+◌, ◌-◌, ◌^◌, ◌<◌, ◌≤◌, List, [], ◌∷◌, Bool, true, false, IsTrue, refl, sym, ◌∙◌, ap, subst, arith, Option, None, Some, ◌||◌, ◌==◌}
use Rattle.std.specs.Prelude.{min, nat_le, is_some, if◌then◌else◌}
use Rattle.std.proofs.lemmas.Bool.Decides.{leb_tells}
use Rattle.mesa_disk.specs.mesa_io.Causes.{Rose, last}
use Rattle.mesa_history_spec.specs.mesa_model.declared.commands.Command.{Command}
use Rattle.mesa_history_spec.specs.mesa_model.declared.commands.Script.{Script}
use Rattle.mesa_history_spec.specs.mesa_model.declared.entries.Entry.{Entry}
use Rattle.mesa_history_spec.specs.mesa_model.declared.entries.Outcome.{Outcome}
use Rattle.mesa_history_spec.specs.mesa_model.declared.entries.Outcome.TheVariants as outcome
use Rattle.mesa_history_spec.specs.Run.{State, Stage, First, Place, Told, place_of, begins}
use Rattle.mesa_history_spec.specs.Replay.{closes, is_later, is_later_than, last_moment_of, runs}
use Rattle.mesa_history_spec.specs.Legal.{fits_moment, wrote, is_same_moment}
use Rattle.mesa_history_spec.specs.Turns.{IsDue}
use Rattle.mesa_history_spec.proofs.More.{last_moment_is}
use Rattle.mesa_invariant_spec.specs.Invariant.{IsAtClock, run_at}

le_is : (a b : ℕ) → a ≤ b → nat_le a b ≡ true
le_is a b le = ⊎_elim (λ yes. yes.0) (λ no. absurd (omega (arith, no.1, le))) (leb_tells a b)

not_le : (a b : ℕ) → b < a → nat_le a b ≡ false
not_le a b lt = ⊎_elim (λ yes. absurd (omega (arith, yes.1, lt))) (λ no. no.0) (leb_tells a b)

or_same : (b : Bool) (n : ℕ) → IsTrue (b || (n == n))
or_same true n = refl
or_same false n = grind arith

-- an entry that didn't write, at the clock that stood
pub quiet_moment : (before : Option ℕ) (clock : ℕ) (e : Entry) (told : Option Told) → IsAtClock before clock → e.moment ≡ clock → wrote told ≡ false → IsTrue (fits_moment before told e)
quiet_moment None clock e told at is silent = refl
quiet_moment (Some m) clock e told at is silent =
    let same : e.moment ≡ m = is ∙ sym at in
    subst (λ b. IsTrue (if b then is_later m e.moment else closes (Some m) e || (e.moment == m))) (sym silent)
    (subst (λ (x : ℕ). IsTrue (closes (Some m) e || (e.moment == x))) same (or_same (closes (Some m) e) e.moment))

-- an entry that wrote, at a clock that rose
pub written_moment : (before : Option ℕ) (clock : ℕ) (e : Entry) (told : Option Told) → IsAtClock before clock → Rose clock e.moment → wrote told ≡ true → IsTrue (fits_moment before told e)
written_moment None clock e told at rose writes = refl
written_moment (Some b) clock e told at rose writes =
    subst (λ t. IsTrue (if t then is_later b e.moment else closes (Some b) e || (e.moment == b))) (sym writes)
    (le_is (min (b + 1) (2 ^ 64 - 1)) e.moment (subst (λ (x : ℕ). min (x + 1) (2 ^ 64 - 1) ≤ e.moment) (sym at) rose))

risen_later : (before : Option ℕ) (clock m : ℕ) → IsAtClock before clock → Rose clock m → is_later_than before m ≡ true
risen_later None clock m at rose = refl
risen_later (Some b) clock m at rose = le_is (min (b + 1) (2 ^ 64 - 1)) m (subst (λ (x : ℕ). min (x + 1) (2 ^ 64 - 1) ≤ m) (sym at) rose)

-- a write fault whose clock rose closes
pub closing : (before : Option ℕ) (clock : ℕ) (e : Entry) → IsAtClock before clock → Rose clock e.moment → e.outcome ≡ outcome.WriteFault → closes before e ≡ true
closing before clock e at rose fails = ap (λ o. closes before (record e { outcome = o })) fails ∙ risen_later before clock e.moment at rose

pub closing_moment : (before : Option ℕ) (clock : ℕ) (e : Entry) (told : Option Told) → IsAtClock before clock → closes before e ≡ true → wrote told ≡ false → IsTrue (fits_moment before told e)
closing_moment None clock e told at closes_is silent = refl
closing_moment (Some b) clock e told at closes_is silent =
    subst (λ t. IsTrue (if t then is_later b e.moment else closes (Some b) e || (e.moment == b))) (sym silent)
    (subst (λ x. IsTrue (x || (e.moment == b))) (sym closes_is) refl)

-- ---- an entry before

-- where some turn was before, an entry at the clock that stood has the moment of the one before
pub same_moment : (before : Option ℕ) (clock m : ℕ) → IsAtClock before clock → is_some before ≡ true → m ≡ clock → is_same_moment before m ≡ true
same_moment None clock m at there is = absurd cc
same_moment (Some b) clock m at there is = let same : m ≡ b = is ∙ sym at in subst (λ (x : ℕ). (m == x) ≡ true) same (grind arith)

-- then it closes only where the clock stands at its last value
pub not_closing : (before : Option ℕ) (clock : ℕ) (e : Entry) → IsAtClock before clock → is_some before ≡ true → e.moment ≡ clock → clock < last → closes before e ≡ false
not_closing before clock e at there is low = by before at there e.outcome
  where
    never : (b : ℕ) → b ≡ clock → nat_le (min (b + 1) (2 ^ 64 - 1)) e.moment ≡ false
    never b same = not_le (min (b + 1) (2 ^ 64 - 1)) e.moment (omega (arith, same, is, low))

    by : (x : Option ℕ) → IsAtClock x clock → is_some x ≡ true → (o : Outcome) → closes x (record e { outcome = o }) ≡ false
    by None at' there' o = absurd cc
    by (Some b) at' there' outcome.Stands = refl
    by (Some b) at' there' outcome.Memory = refl
    by (Some b) at' there' outcome.ReadFault = refl
    by (Some b) at' there' outcome.WriteFault = never b at'
    by (Some b) at' there' outcome.Damaged = refl
    by (Some b) at' there' outcome.Skipped = refl

later_there : (h : List Entry) (m : ℕ) → is_some (last_moment_of (Some m) h) ≡ true
unfolding last_moment_of
later_there [] m = refl
later_there (e ∷ h) m = later_there h e.moment

-- a session that isn't at its first command's first turn had a turn
pub begun_moment : (script : Script) (start : State) (h : List Entry) (session number : ℕ) (c : Command) (stage : Stage) → IsDue script (run_at script start h) session number c stage → (stage ≡ First → ⊥) → is_some (run_at script start h).moment ≡ true
unfolding runs place_of last_moment_of
begun_moment script start [] session number c stage due not_first = absurd (not_first (sym (ap (λ (p : Place). p.stage) due.place)))
begun_moment script start (e ∷ h) session number c stage due not_first = ap (λ o. is_some o) (last_moment_is script (begins start) (e ∷ h)) ∙ later_there h e.moment
