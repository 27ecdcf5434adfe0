-- Moments never fall.
use Rattle.std.proofs.Common.{◌≡◌, ◌⊎◌, inl, inr, ⊎_elim, ℕ, ◌+◌, ◌-◌, ◌^◌, ◌<◌, ◌≤◌, ◌==◌, ◌||◌, Bool, true, false, IsTrue, refl, subst, sym, ◌∙◌, Some, arith}
use Rattle.std.specs.Prelude.{min, if◌then◌else◌}
use Rattle.std.proofs.lemmas.Bool.Decides.{leb_tells, eqb_tells}
use Rattle.mesa_script.specs.mesa_model.declared.commands.Script.{Script}
use Rattle.mesa_script.specs.mesa_model.declared.entries.Entry.{Entry}
use Rattle.mesa_script.specs.mesa_model.declared.entries.Outcome.{Outcome}
use Rattle.mesa_script.specs.mesa_model.declared.entries.Outcome.TheVariants as outcome
use Rattle.mesa_history_spec.specs.Run.{Run}
use Rattle.mesa_history_spec.specs.Replay.{is_later, closes_as, closes, told_by}
use Rattle.mesa_history_spec.specs.Legal.{Fits, fits_moment, wrote}

later_le : (before moment : ℕ) → before < 2 ^ 64 → IsTrue (is_later before moment) → before ≤ moment
later_le before moment below later = ⊎_elim (λ yes. omega (arith, below, yes.1)) (λ no. let never : true ≡ false = sym later ∙ no.0 in absurd cc) (leb_tells (min (before + 1) (2 ^ 64 - 1)) moment)

same_le : (before moment : ℕ) → IsTrue (moment == before) → before ≤ moment
same_le before moment same = ⊎_elim (λ yes. omega (arith, yes.1)) (λ no. let never : true ≡ false = sym same ∙ no.0 in absurd cc) (eqb_tells moment before)

closing_le : (o : Outcome) (before moment : ℕ) → before < 2 ^ 64 → IsTrue (closes_as (Some before) moment o) → before ≤ moment
closing_le outcome.Stands before moment below closing = absurd cc
closing_le outcome.Memory before moment below closing = absurd cc
closing_le outcome.ReadFault before moment below closing = absurd cc
closing_le outcome.WriteFault before moment below closing = later_le before moment below closing
closing_le outcome.Damaged before moment below closing = absurd cc
closing_le outcome.Skipped before moment below closing = absurd cc

either : (a b : Bool) → IsTrue (a || b) → IsTrue a ⊎ IsTrue b
either true b is = inl refl
either false b is = inr is

by_writing : (writes : Bool) (e : Entry) (before : ℕ) → before < 2 ^ 64 → IsTrue (if writes then is_later before e.moment else closes (Some before) e || (e.moment == before)) → before ≤ e.moment
by_writing true e before below fits = later_le before e.moment below fits
by_writing false e before below fits = ⊎_elim (closing_le e.outcome before e.moment below) (same_le before e.moment) (either (closes (Some before) e) (e.moment == before) fits)

-- An entry that fits isn't earlier than the one before it.
pub moment-le : (script : Script) (r : Run) (e : Entry) (before : ℕ) → r.moment ≡ Some before → before < 2 ^ 64 → Fits script r e → before ≤ e.moment
moment-le script r e before was below fits =
    by_writing (wrote (told_by script r e)) e before below (subst (λ m. IsTrue (fits_moment m (told_by script r e) e)) was fits.moment)

-- ---- below the clock's last value

later_lt : (before moment : ℕ) → moment < 2 ^ 64 - 1 → IsTrue (is_later before moment) → before < moment
later_lt before moment below later = ⊎_elim (λ yes. omega (arith, below, yes.1)) (λ no. let never : true ≡ false = sym later ∙ no.0 in absurd cc) (leb_tells (min (before + 1) (2 ^ 64 - 1)) moment)

-- An entry that wrote is later than the one before it.
pub moment-lt-wrote : (script : Script) (r : Run) (e : Entry) (before : ℕ) → r.moment ≡ Some before → e.moment < 2 ^ 64 - 1 → Fits script r e → wrote (told_by script r e) ≡ true → before < e.moment
moment-lt-wrote script r e before was below fits writes =
    later_lt before e.moment below
    (subst (λ b. IsTrue (if b then is_later before e.moment else closes (Some before) e || (e.moment == before))) writes
    (subst (λ m. IsTrue (fits_moment m (told_by script r e) e)) was fits.moment))

closing_lt : (o : Outcome) (before moment : ℕ) → moment < 2 ^ 64 - 1 → IsTrue (closes_as (Some before) moment o) → before < moment
closing_lt outcome.Stands before moment below closing = absurd cc
closing_lt outcome.Memory before moment below closing = absurd cc
closing_lt outcome.ReadFault before moment below closing = absurd cc
closing_lt outcome.WriteFault before moment below closing = later_lt before moment below closing
closing_lt outcome.Damaged before moment below closing = absurd cc
closing_lt outcome.Skipped before moment below closing = absurd cc

-- So is one that closes.
pub moment-lt-closing : (r : Run) (e : Entry) (before : ℕ) → r.moment ≡ Some before → e.moment < 2 ^ 64 - 1 → IsTrue (closes r.moment e) → before < e.moment
moment-lt-closing r e before was below closing = closing_lt e.outcome before e.moment below (subst (λ m. IsTrue (closes m e)) was closing)

neither : (writes closing same : Bool) (later : Bool) → writes ≡ false → closing ≡ false → IsTrue (if writes then later else closing || same) → IsTrue same
neither false false same later no_write no_close fits = fits
neither true closing same later no_write no_close fits = absurd cc
neither false true same later no_write no_close fits = absurd cc

equal_moments : (a b : ℕ) → IsTrue (a == b) → a ≡ b
equal_moments a b same = ⊎_elim (λ yes. yes.1) (λ no. let never : true ≡ false = sym same ∙ no.0 in absurd cc) (eqb_tells a b)

-- And any other has its moment.
pub moment-same : (script : Script) (r : Run) (e : Entry) (before : ℕ) → r.moment ≡ Some before → Fits script r e → wrote (told_by script r e) ≡ false → closes r.moment e ≡ false → e.moment ≡ before
moment-same script r e before was fits silent opened =
    equal_moments e.moment before
    (neither (wrote (told_by script r e)) (closes (Some before) e) (e.moment == before) (is_later before e.moment) silent (subst (λ m. closes m e ≡ false) was opened)
    (subst (λ m. IsTrue (fits_moment m (told_by script r e) e)) was fits.moment))
