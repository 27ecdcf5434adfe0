-- Counts of faults of one input and of several.
use Rattle.std.proofs.Common.{◌≡◌, ℕ, ◌≤◌, List, [], ◌∷◌, refl, sym, ◌∙◌, subst, arith, inl, inr}
use Rattle.std.specs.Prelude.{Result, Ok, Err, IfErr}
use Rattle.mesa_disk.specs.mesa_io.Causes.{HasFaultCause, Rose}
use Rattle.mesa_merge.specs.Faults.{HaveFaultCause, NoneFell, SomeRose}

pub none_fell : (counts : List ℕ) → NoneFell counts counts
none_fell [] = tt
none_fell (n ∷ counts) = (omega arith, none_fell counts)

same_fell : (counts now : List ℕ) → now ≡ counts → NoneFell counts now
same_fell counts now same = subst (NoneFell counts) (sym same) (none_fell counts)

module _ {T U E : Type 0} (P : E → Type 0) where
  -- one of several failed, or ended in another error
  pub several_failed : (f g : ℕ) (counts before now : List ℕ) (e : E) → g ≡ f → before ≡ counts → HaveFaultCause {T = T} P before now (Err e) → HaveFaultCause {T = U} P (f ∷ counts) (g ∷ now) (Err e)
  several_failed f g counts before now e one same h = record {
    later = (omega (arith, one), subst (λ ns. NoneFell ns now) same h.later);
    failed = λ p. inr (subst (λ ns. SomeRose ns now) same (h.failed p));
    quiet = tt;
    other = λ no. (λ i. one i ∷ (h.other no ∙ same) i);
  }

  -- the one did
  pub one_failed : (f g h : ℕ) (counts now : List ℕ) (e : E) → g ≡ f → now ≡ counts → HasFaultCause {T = T} P g h (Err e) → HaveFaultCause {T = U} P (f ∷ counts) (h ∷ now) (Err e)
  one_failed f g h counts now e one same cause = record {
    later = (subst (λ n. n ≤ h) one cause.later, same_fell counts now same);
    failed = λ p. inl (subst (λ n. Rose n h) one (cause.failed p));
    quiet = tt;
    other = λ no. (λ i. (cause.other no ∙ one) i ∷ same i);
  }

-- the one may have failed
pub first_cause : {U E : Type 0} (P : E → Type 0) (f h : ℕ) (counts now : List ℕ) (result : Result U E) → now ≡ counts → HasFaultCause P f h result → HaveFaultCause P (f ∷ counts) (h ∷ now) result
first_cause P f h counts now (Ok x) same cause = record { later = (cause.later, same_fell counts now same); failed = tt; quiet = (λ i. cause.quiet i ∷ same i); other = tt }
first_cause P f h counts now (Err e) same cause = one_failed P f f h counts now e refl same cause

-- none did
pub none_failed : {U E : Type 0} (P : E → Type 0) (f g : ℕ) (counts now : List ℕ) (result : Result U E) → g ≡ f → now ≡ counts → IfErr result (λ e. P e → ⊥) → HaveFaultCause P (f ∷ counts) (g ∷ now) result
none_failed P f g counts now (Ok x) one same never = record { later = (omega (arith, one), same_fell counts now same); failed = tt; quiet = (λ i. one i ∷ same i); other = tt }
none_failed P f g counts now (Err e) one same never = record { later = (omega (arith, one), same_fell counts now same); failed = λ p. absurd (never p); quiet = tt; other = λ _ i. one i ∷ same i }

-- the second of two may have failed
pub second_cause : {U E : Type 0} (P : E → Type 0) (f g n m : ℕ) (result : Result U E) → g ≡ f → HasFaultCause P n m result → HaveFaultCause P (f ∷ n ∷ []) (g ∷ m ∷ []) result
second_cause P f g n m (Ok x) one h = record { later = (omega (arith, one), (h.later, tt)); failed = tt; quiet = (λ i. one i ∷ h.quiet i ∷ []); other = tt }
second_cause P f g n m (Err e) one h = record { later = (omega (arith, one), (h.later, tt)); failed = λ p. inr (inl (h.failed p)); quiet = tt; other = λ no. (λ i. one i ∷ h.other no i ∷ []) }

-- calls of several that did not fail, and then one of them that did, or ended in another error
pub failed_after : {T U E : Type 0} (P : E → Type 0) (counts before now : List ℕ) (e : E) → before ≡ counts → HaveFaultCause {T = T} P before now (Err e) → HaveFaultCause {T = U} P counts now (Err e)
failed_after P counts before now e same h = record {
  later = subst (λ ns. NoneFell ns now) same h.later;
  failed = λ p. subst (λ ns. SomeRose ns now) same (h.failed p);
  quiet = tt;
  other = λ never. h.other never ∙ same;
}

-- none of several failed
pub quiet_after : {U E : Type 0} (P : E → Type 0) (counts now : List ℕ) (result : Result U E) → now ≡ counts → IfErr result (λ e. P e → ⊥) → HaveFaultCause P counts now result
quiet_after P counts now (Ok x) same never = record { later = same_fell counts now same; failed = tt; quiet = same; other = tt }
quiet_after P counts now (Err e) same never = record { later = same_fell counts now same; failed = λ p. absurd (never p); quiet = tt; other = λ _. same }
