-- What a recast is closed with, as its last turn asks for it.
use Rattle.std.proofs.Common.{◌≡◌, ◌⊎◌, inl, inr, List, ℕ, true, false, refl, sym, ap, subst, Option, None, Ok, Err}
use Rattle.std.specs.Prelude.{IfErr, IfOk, OnOk, Result}
use Rattle.mesa_recast_turns.specs.mesa_work_turns.Unmerged.{MergeDiffered, cause_of}
use Rattle.mesa_delta.specs.declared.error.FileError.TheVariants as file_error
use Rattle.mesa_core.specs.Recasts.{HasRegrouped, IsUnmade}
use Rattle.mesa_recast_turns.specs.mesa_copy.Copying.{IsRecastBounded}
use Rattle.mesa_open_files.specs.GivingBack.{SomeFailed}
use Rattle.mesa_open_files.specs.Recasts.{IsRecasted, recast_inputs}
use Rattle.mesa_open_files.specs.declared.merging.CompactError.{CompactError}
use Rattle.mesa_open_files.specs.declared.merging.CompactError.TheVariants as compact
use Rattle.mesa_open_files.specs.declared.recasting.Recast.{Recast}
use Rattle.mesa_open_files.specs.declared.recasting.Recasted.{Recasted}
use Rattle.mesa_recast_turns.specs.mesa_invariant_spec.Causes.{is_read_fault, outcome_of}
use Rattle.mesa_recast_turns.specs.mesa_invariant_spec.Undamaged.{is_damaged}

-- ---- why ranges weren't rewritten

module _ {R : Type 0} (read : R → Option (List ℕ)) (faults : R → ℕ) (t : Recast R) where
  unmade_failed : (e : CompactError) → IsUnmade read faults t e → is_read_fault (cause_of e) ≡ true → SomeFailed faults (recast_inputs t)
  unmade_failed compact.Draft has is = absurd (let never : false ≡ true = is in cc)
  unmade_failed (compact.File file_error.Read) has is = has
  unmade_failed (compact.File (file_error.Damaged d)) has is = absurd (let never : false ≡ true = is in cc)
  unmade_failed (compact.File file_error.Memory) has is = absurd (let never : false ≡ true = is in cc)

  unmade_differed : (e : CompactError) → IsUnmade read faults t e → MergeDiffered e
  unmade_differed compact.Draft has = tt
  unmade_differed (compact.File file_error.Read) has = tt
  unmade_differed (compact.File (file_error.Damaged d)) has = has.differs
  unmade_differed (compact.File file_error.Memory) has = tt

  unmade_whole : (e : CompactError) → IsUnmade read faults t e → t.damage ≡ None → IsRecastBounded read t → is_damaged (outcome_of (cause_of e)) ≡ false
  unmade_whole compact.Draft has whole bounded = refl
  unmade_whole (compact.File file_error.Read) has whole bounded = refl
  unmade_whole (compact.File (file_error.Damaged d)) has whole bounded = absurd (has.never whole bounded)
  unmade_whole (compact.File file_error.Memory) has whole bounded = refl

-- ---- a close, which may answer a fault that is unpaid

the_error : {T : Type 0} (made : Result T CompactError) (e other : CompactError) → made ≡ Err e → made ≡ Err other → e ≡ other
the_error made e other is same = cc

module _ {M R : Type 0} (bytes : M → Option (List ℕ)) (id_of : M → ℕ) (read : R → Option (List ℕ)) (faults : R → ℕ) (t : Recast R) (Unpaid : Type 0) where
  abbrev Closes : Result (Recasted M) CompactError → Type 0
  Closes made = HasRegrouped bytes id_of read faults t made ⊎ ((made ≡ Err (compact.File file_error.Read)) × Unpaid)

  pub made_is : (made : Result (Recasted M) CompactError) → Closes made → IfOk made (IsRecasted bytes id_of read t)
  made_is (Ok made) (inl has) = has
  made_is (Ok made) (inr unpaid) = absurd (let never = unpaid.0 in cc)
  made_is (Err e) closes = tt

  pub made_read : (made : Result (Recasted M) CompactError) → Closes made → IfErr made (λ e. is_read_fault (cause_of e) ≡ true → SomeFailed faults (recast_inputs t) ⊎ Unpaid)
  made_read (Ok made) closes = tt
  made_read (Err e) (inl has) = λ is. inl (unmade_failed read faults t e has is)
  made_read (Err e) (inr unpaid) = λ is. inr unpaid.1

  pub made_differed : (made : Result (Recasted M) CompactError) → Closes made → IfErr made MergeDiffered
  made_differed (Ok made) closes = tt
  made_differed (Err e) (inl has) = unmade_differed read faults t e has
  made_differed (Err e) (inr unpaid) = subst MergeDiffered (sym (the_error (Err e) e (compact.File file_error.Read) refl unpaid.0)) tt

  -- on a sound store no damage comes of it
  pub made_whole : {W : Type 0} {Sound : W → Type 0} (made : Result (Recasted M) CompactError) → Closes made → ((w : W) → Sound w → t.damage ≡ None) → ((w : W) → Sound w → IsRecastBounded read t)
      → IfErr made (λ e. (w : W) → Sound w → is_damaged (outcome_of (cause_of e)) ≡ false)
  made_whole (Ok made) closes whole bounded = tt
  made_whole (Err e) (inl has) whole bounded = λ w ok. unmade_whole read faults t e has (whole w ok) (bounded w ok)
  made_whole (Err e) (inr unpaid) whole bounded = λ w ok. ap (λ (x : CompactError). is_damaged (outcome_of (cause_of x))) (the_error (Err e) e (compact.File file_error.Read) refl unpaid.0)

-- ---- where its ranges are rewritten

pub on_ok : {T E X : Type 0} (r : Result T E) → X → OnOk r X
on_ok (Ok t) has = has
on_ok (Err e) has = tt
