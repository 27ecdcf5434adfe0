-- Causes of what a call answers, handed on.
use Rattle.std.proofs.Common.{◌≡◌, ℕ, List, sym, ◌∙◌, subst}
use Rattle.std.specs.Prelude.{Result, Ok, Err}
use Rattle.mesa_delta.specs.declared.error.FileError.{FileError}
use Rattle.mesa_delta.specs.declared.error.FileError.TheVariants.{Read}
use Rattle.mesa_merge.specs.Faults.{HaveFaultCause, NoneFell, SomeRose}
use Rattle.mesa_merge.proofs.Inputs.{SameEnd, none_fell}

-- a call's cause is its caller's, where the counts stayed before
pub cause_on : {T U : Type 0} (before between now : List ℕ) (r : Result T FileError) (q : Result U FileError) → between ≡ before → HaveFaultCause (λ e. e ≡ Read) between now r → SameEnd r q → HaveFaultCause (λ e. e ≡ Read) before now q
cause_on before between now (Ok v) (Ok w) stay cause same = record {
  later = subst (λ b. NoneFell b now) stay cause.later;
  failed = tt;
  quiet = cause.quiet ∙ stay;
  other = tt;
}
cause_on before between now (Ok v) (Err f) stay cause same = absurd same
cause_on before between now (Err e) (Ok w) stay cause same = absurd same
cause_on before between now (Err e) (Err f) stay cause same = record {
  later = subst (λ b. NoneFell b now) stay cause.later;
  failed = λ read. subst (λ b. SomeRose b now) stay (cause.failed (same ∙ read));
  quiet = tt;
  other = λ never. cause.other (λ read. never (sym same ∙ read)) ∙ stay;
}

-- no call failed
pub cause_quiet : {T : Type 0} (before now : List ℕ) (v : T) → now ≡ before → HaveFaultCause {T = T} {E = FileError} (λ e. e ≡ Read) before now (Ok v)
cause_quiet before now v stay = record { later = subst (NoneFell before) (sym stay) (none_fell before); failed = tt; quiet = stay; other = tt }

-- and what is answered is no fault
pub cause_other : {T : Type 0} (before now : List ℕ) (e : FileError) → now ≡ before → (e ≡ Read → ⊥) → HaveFaultCause {T = T} {E = FileError} (λ e. e ≡ Read) before now (Err e)
cause_other before now e stay never = record { later = subst (NoneFell before) (sym stay) (none_fell before); failed = λ read. absurd (never read); quiet = tt; other = λ _. stay }

-- the same counts, spelled otherwise
pub cause_kept : {T : Type 0} (r : Result T FileError) (before between now after : List ℕ) → before ≡ between → now ≡ after → HaveFaultCause (λ e. e ≡ Read) before now r → HaveFaultCause (λ e. e ≡ Read) between after r
cause_kept r before between now after e f cause = subst (λ ns. HaveFaultCause (λ e. e ≡ Read) between ns r) f (subst (λ bs. HaveFaultCause (λ e. e ≡ Read) bs now r) e cause)
