-- Turns that may come, by their outcome.
use Rattle.std.proofs.Common.{◌≡◌, ℕ, Bool, true, false, not, IsTrue, refl, sym, subst, Option, None, ◌||◌, ◌&&◌}
use Rattle.std.specs.Prelude.{is_none}
use Rattle.mesa_history_spec.specs.mesa_model.declared.commands.Command.{Command}
use Rattle.mesa_history_spec.specs.mesa_model.declared.entries.Kind.{Kind}
use Rattle.mesa_history_spec.specs.mesa_model.declared.entries.Kind.TheVariants as kind
use Rattle.mesa_history_spec.specs.mesa_model.declared.entries.Outcome.{Outcome}
use Rattle.mesa_history_spec.specs.mesa_model.declared.entries.Outcome.TheVariants as outcome
use Rattle.mesa_history_spec.specs.Run.{Stage, Run}
use Rattle.mesa_history_spec.specs.Replay.{closes}
use Rattle.mesa_history_spec.specs.Legal.{is_due_at, is_unrenewed, same_kind, is_stands, is_answered, outcome_fits, wrote, is_same_moment, builds_files}
use Rattle.mesa_history_spec.specs.Turns.{would_print}
use Rattle.mesa_history_spec.proofs.Turns.{MayCome, renewal_at}
use Rattle.mesa_invariant_spec.specs.Turns.{entry}

-- ---- tests

or_left : (a b : Bool) → IsTrue a → IsTrue (a || b)
or_left true b is = refl
or_left false b is = absurd cc

pub or_right : (a b : Bool) → IsTrue b → IsTrue (a || b)
or_right true b is = refl
or_right false b is = is

-- a turn that doesn't stand isn't the close of a work that stands
pub renewal_other : (closed : Option ℕ) (stage : Stage) (k : Kind) (o : Outcome) → is_stands o ≡ false → IsTrue (renewal_at closed stage k o)
renewal_other closed stage k o other = or_left _ _ (subst (λ x. IsTrue (not (is_unrenewed stage && same_kind kind.Close k && x))) (sym other) (none (is_unrenewed stage) (same_kind kind.Close k)))
  where
    none : (a b : Bool) → IsTrue (not (a && b && false))
    none true true = refl
    none true false = refl
    none false b = refl

-- nor is one that doesn't close
pub renewal_open : (closed : Option ℕ) (stage : Stage) (k : Kind) (o : Outcome) → same_kind kind.Close k ≡ false → IsTrue (renewal_at closed stage k o)
renewal_open closed stage k o other = or_left _ _ (subst (λ x. IsTrue (not (is_unrenewed stage && x && is_stands o))) (sym other) (none (is_unrenewed stage)))
  where
    none : (a : Bool) → IsTrue (not (a && false && is_stands o))
    none true = refl
    none false = refl

pub renewal_later : (closed : Option ℕ) (stage : Stage) (k : Kind) (o : Outcome) → is_unrenewed stage ≡ false → IsTrue (renewal_at closed stage k o)
renewal_later closed stage k o other = or_left _ _ (subst (λ x. IsTrue (not (x && same_kind kind.Close k && is_stands o))) (sym other) refl)

-- in a warehouse that is open every outcome fits
pub fits_open : (closed : Option ℕ) (a b c d : Bool) → closed ≡ None → IsTrue (is_none closed || a || b || c || d)
fits_open closed a b c d is = subst (λ x. IsTrue (is_none x || a || b || c || d)) (sym is) refl

-- ---- outcomes

module _ (r : Run) (c : Command) (stage : Stage) (s n : ℕ) (k : Kind) (m : ℕ) (due : IsTrue (is_due_at c stage k)) where
  -- it stands
  pub comes_standing : IsTrue (renewal_at r.state.warehouse.closed stage k outcome.Stands) → MayCome r c stage (entry s n k outcome.Stands m)
  comes_standing renewal = record { due = due; renewal = renewal; outcome = refl; reading = refl; writing = refl; closed = second (is_none r.state.warehouse.closed) (same_kind kind.Look k) (is_answered stage) }
    where
      second : (a b c' : Bool) → IsTrue (a || true || false || b || c')
      second true b c' = refl
      second false b c' = refl

  -- it is skipped
  pub comes_skipped : MayCome r c stage (entry s n k outcome.Skipped m)
  comes_skipped = record {
    due = due;
    renewal = renewal_other r.state.warehouse.closed stage k outcome.Skipped refl;
    outcome = refl;
    reading = refl;
    writing = refl;
    closed = third (is_none r.state.warehouse.closed) (same_kind kind.Look k) (is_answered stage);
  }
    where
      third : (a b c' : Bool) → IsTrue (a || false || true || b || c')
      third true b c' = refl
      third false b c' = refl

  -- it finds no memory
  pub comes_without_memory : IsTrue (outcome_fits c k outcome.Memory) → IsTrue (is_none r.state.warehouse.closed || false || false || same_kind kind.Look k || is_answered stage) → MayCome r c stage (entry s n k outcome.Memory m)
  comes_without_memory fits open' = record { due = due; renewal = renewal_other r.state.warehouse.closed stage k outcome.Memory refl; outcome = fits; reading = refl; writing = refl; closed = open' }

  -- it can't read a file
  pub comes_unread : IsTrue (outcome_fits c k outcome.ReadFault) → IsTrue (same_kind kind.Close k || is_none (would_print r s c k stage)) → IsTrue (is_none r.state.warehouse.closed || false || false || same_kind kind.Look k || is_answered stage)
      → MayCome r c stage (entry s n k outcome.ReadFault m)
  comes_unread fits reading open' = record { due = due; renewal = renewal_other r.state.warehouse.closed stage k outcome.ReadFault refl; outcome = fits; reading = reading; writing = refl; closed = open' }

  -- it finds a file damaged
  pub comes_damaged : IsTrue (outcome_fits c k outcome.Damaged) → IsTrue (same_kind kind.Close k || is_none (would_print r s c k stage)) → IsTrue (is_none r.state.warehouse.closed || false || false || same_kind kind.Look k || is_answered stage)
      → MayCome r c stage (entry s n k outcome.Damaged m)
  comes_damaged fits reading open' = record { due = due; renewal = renewal_other r.state.warehouse.closed stage k outcome.Damaged refl; outcome = fits; reading = reading; writing = refl; closed = open' }

  -- its device work fails, and would have written
  pub comes_unwritten : IsTrue (outcome_fits c k outcome.WriteFault) → closes r.moment (entry s n k outcome.WriteFault m) ≡ true → IsTrue (renewal_at r.state.warehouse.closed stage k outcome.Stands) → wrote (would_print r s c k stage) ≡ true → r.state.warehouse.closed ≡ None
      → MayCome r c stage (entry s n k outcome.WriteFault m)
  comes_unwritten fits closing renewal writes open' = record {
    due = due;
    renewal = renewal_other r.state.warehouse.closed stage k outcome.WriteFault refl;
    outcome = fits;
    reading = refl;
    writing = or_left _ _ (λ i. closing i && (renewal i && writes i));
    closed = fits_open r.state.warehouse.closed false false (same_kind kind.Look k) (is_answered stage) open';
  }

  -- a file that was built for it has failed, in a turn that leaves the clock
  pub comes_undrafted : IsTrue (outcome_fits c k outcome.WriteFault) → is_same_moment r.moment m ≡ true → builds_files r.state.warehouse.store c ≡ true → r.state.warehouse.closed ≡ None
      → MayCome r c stage (entry s n k outcome.WriteFault m)
  comes_undrafted fits same builds open' = record {
    due = due;
    renewal = renewal_other r.state.warehouse.closed stage k outcome.WriteFault refl;
    outcome = fits;
    reading = refl;
    writing = or_right _ _ (λ i. same i && builds i);
    closed = fits_open r.state.warehouse.closed false false (same_kind kind.Look k) (is_answered stage) open';
  }
