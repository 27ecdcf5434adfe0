-- Why no file was written, told on.
use Rattle.std.proofs.Common.{◌≡◌, ℕ, ◌<◌, ◌≤◌, List, [], ◌∷◌, ◌++◌, refl, sym, ◌∙◌, ap, subst, arith, inl, inr}
use Rattle.std.specs.Prelude.{Result, Ok, Err}
use Rattle.mesa_open_files.specs.mesa_io.Causes.{HasFaultCause, Rose}
use Rattle.mesa_disk.specs.declared.failures.DraftError.{DraftError}
use Rattle.mesa_disk.specs.declared.failures.DraftError.TheVariants as draft
use Rattle.mesa_file.specs.declared.damage.Damage.{Damage}
use Rattle.mesa_delta.specs.declared.error.FileError.{FileError}
use Rattle.mesa_delta.specs.declared.error.FileError.TheVariants.{Damaged, Memory, Read}
use Rattle.mesa_delta.specs.declared.error.WriteError.{WriteError}
use Rattle.mesa_delta.specs.declared.error.WriteError.TheVariants as write
use Rattle.mesa_open_files.specs.declared.merging.CompactError.{CompactError}
use Rattle.mesa_open_files.specs.declared.merging.CompactError.TheVariants.{Draft, File}
use Rattle.mesa_open_files.specs.Errors.{compact_failure}
use Rattle.mesa_merge.specs.Faults.{HaveFaultCause, NoneFell, SomeRose}
use Rattle.mesa_merge.proofs.Inputs.{SameEnd, none_fell}
use Rattle.mesa_compact.specs.Writing.{HasCauses, IsDraftFault, IsReadFault, damaged_by}

-- ---- what was Ok

pub caused_ok : {T : Type 0} (IsTold : Damage → Type 0) (a b : ℕ) (us vs : List ℕ) (v : T) → b ≡ a → vs ≡ us → HasCauses a b us vs IsTold (Ok v)
caused_ok IsTold a b us vs v stay stays = record {
  drafts = record { later = omega (arith, stay); failed = tt; quiet = stay; other = tt };
  reads = record { later = subst (NoneFell us) (sym stays) (none_fell us); failed = tt; quiet = stays; other = tt };
  damaged = tt;
}

-- ---- an error that is no fault

pub caused_other : {T : Type 0} (IsTold : Damage → Type 0) (a b : ℕ) (us vs : List ℕ) (e : CompactError) → b ≡ a → vs ≡ us → (IsDraftFault e → ⊥) → (IsReadFault e → ⊥) → ((d : Damage) → e ≡ damaged_by d → IsTold d) → HasCauses {T = T} a b us vs IsTold (Err e)
caused_other IsTold a b us vs e stay stays no_draft no_read told = record {
  drafts = record { later = omega (arith, stay); failed = λ fault. absurd (no_draft fault); quiet = tt; other = λ _. stay };
  reads = record { later = subst (NoneFell us) (sym stays) (none_fell us); failed = λ fault. absurd (no_read fault); quiet = tt; other = λ _. stays };
  damaged = told;
}

pub caused_memory : {T : Type 0} (IsTold : Damage → Type 0) (a b : ℕ) (us vs : List ℕ) → b ≡ a → vs ≡ us → HasCauses {T = T} a b us vs IsTold (Err (File Memory))
caused_memory {T = T} IsTold a b us vs stay stays = caused_other {T = T} IsTold a b us vs (File Memory) stay stays (λ (e : File Memory ≡ Draft). cc) (λ (e : File Memory ≡ File Read). cc) (λ d (e : File Memory ≡ damaged_by d). cc)

-- damage that is told
pub caused_damage : {T : Type 0} (IsTold : Damage → Type 0) (a b : ℕ) (us vs : List ℕ) (e : CompactError) (d : Damage) → b ≡ a → vs ≡ us → e ≡ damaged_by d → IsTold d → HasCauses {T = T} a b us vs IsTold (Err e)
caused_damage {T = T} IsTold a b us vs e d stay stays is told = caused_other {T = T} IsTold a b us vs e stay stays
    (λ fault. let both : damaged_by d ≡ Draft = sym is ∙ fault in cc)
    (λ read. let both : damaged_by d ≡ File Read = sym is ∙ read in cc)
    (λ x damaged. let both : damaged_by d ≡ damaged_by x = sym is ∙ damaged in let same : d ≡ x = cc in subst IsTold same told)

-- ---- a file's error

pub caused_file : {T U : Type 0} (IsTold : Damage → Type 0) (a b : ℕ) (us vs ws : List ℕ) (e : FileError) → b ≡ a → vs ≡ us → HaveFaultCause {T = T} (λ x. x ≡ Read) vs ws (Err e) → ((d : Damage) → e ≡ Damaged d → IsTold d) → HasCauses {T = U} a b us ws IsTold (Err (File e))
caused_file IsTold a b us vs ws e stay stays cause told = record {
  drafts = record { later = omega (arith, stay); failed = λ fault. (let both : File e ≡ Draft = fault in cc); quiet = tt; other = λ _. stay };
  reads = record {
    later = subst (λ ns. NoneFell ns ws) stays cause.later;
    failed = λ read. subst (λ ns. SomeRose ns ws) stays (cause.failed (let same : File e ≡ File Read = read in cc));
    quiet = tt;
    other = λ never. cause.other (λ read. never (ap File read)) ∙ stays;
  };
  damaged = λ d is. told d (let same : File e ≡ File (Damaged d) = is in cc);
}

-- one that was not read
pub caused_unread : {T : Type 0} (IsTold : Damage → Type 0) (a b : ℕ) (us vs : List ℕ) (e : FileError) → b ≡ a → vs ≡ us → (e ≡ Read → ⊥) → ((d : Damage) → e ≡ Damaged d → IsTold d) → HasCauses {T = T} a b us vs IsTold (Err (File e))
caused_unread {T = T} IsTold a b us vs e stay stays unread told = caused_other {T = T} IsTold a b us vs (File e) stay stays (λ (fault : File e ≡ Draft). cc) (λ read. unread (let same : File e ≡ File Read = read in cc)) (λ d is. told d (let same : File e ≡ File (Damaged d) = is in cc))

-- ---- a writer's error

pub no_write_damage : (w : WriteError) (e : CompactError) → e ≡ compact_failure w → (d : Damage) → e ≡ damaged_by d → ⊥
no_write_damage write.Draft e is d damaged = let both : Draft ≡ File (Damaged d) = sym is ∙ damaged in cc
no_write_damage write.Memory e is d damaged = let both : File Memory ≡ File (Damaged d) = sym is ∙ damaged in cc

no_read : (w : WriteError) (e : CompactError) → e ≡ compact_failure w → IsReadFault e → ⊥
no_read write.Draft e is read = let both : Draft ≡ File Read = sym is ∙ read in cc
no_read write.Memory e is read = let both : File Memory ≡ File Read = sym is ∙ read in cc

drafts_of : (w : WriteError) → compact_failure w ≡ Draft → w ≡ write.Draft
drafts_of write.Draft e = refl
drafts_of write.Memory e = cc

pub caused_write : {T U : Type 0} (IsTold : Damage → Type 0) (a b c : ℕ) (us vs : List ℕ) (w : WriteError) (e : CompactError) → b ≡ a → vs ≡ us → e ≡ compact_failure w → HasFaultCause {T = T} (λ x. x ≡ write.Draft) b c (Err w) → HasCauses {T = U} a c us vs IsTold (Err e)
caused_write IsTold a b c us vs w e stay stays is cause = record {
  drafts = record {
    later = subst (λ n. n ≤ c) stay cause.later;
    failed = λ fault. subst (λ n. Rose n c) stay (cause.failed (drafts_of w (sym is ∙ fault)));
    quiet = tt;
    other = λ never. cause.other (λ fault. never (is ∙ ap compact_failure fault)) ∙ stay;
  };
  reads = record { later = subst (NoneFell us) (sym stays) (none_fell us); failed = λ read. absurd (no_read w e is read); quiet = tt; other = λ _. stays };
  damaged = λ d damaged. absurd (no_write_damage w e is d damaged);
}

-- ---- a draft that isn't made

pub caused_draft : {T U : Type 0} (IsTold : Damage → Type 0) (a b : ℕ) (us : List ℕ) (r : Result U DraftError) → HasFaultCause (λ x. x ≡ draft.Failed) a b r → r ≡ Err draft.Failed → HasCauses {T = T} a b us us IsTold (Err Draft)
caused_draft {U = U} IsTold a b us r cause is =
    let one : HasFaultCause {T = U} (λ x. x ≡ draft.Failed) a b (Err draft.Failed) = subst (HasFaultCause (λ x. x ≡ draft.Failed) a b) is cause in
    record {
      drafts = record { later = one.later; failed = λ _. one.failed refl; quiet = tt; other = λ never. absurd (never refl) };
      reads = record { later = none_fell us; failed = λ (read : Draft ≡ File Read). cc; quiet = tt; other = λ _. refl };
      damaged = λ d (e : Draft ≡ damaged_by d). cc;
    }

pub caused_room : {T U : Type 0} (IsTold : Damage → Type 0) (a b : ℕ) (us : List ℕ) (r : Result U DraftError) → HasFaultCause (λ x. x ≡ draft.Failed) a b r → r ≡ Err draft.Memory → HasCauses {T = T} a b us us IsTold (Err (File Memory))
caused_room {T = T} {U = U} IsTold a b us r cause is =
    let one : HasFaultCause {T = U} (λ x. x ≡ draft.Failed) a b (Err draft.Memory) = subst (HasFaultCause (λ x. x ≡ draft.Failed) a b) is cause in
    caused_memory {T = T} IsTold a b us us (one.other (λ (e : draft.Memory ≡ draft.Failed). cc)) refl

-- ---- a file that isn't finished

pub caused_finish : {T : Type 0} (IsTold : Damage → Type 0) (a b fresh failed : ℕ) (us : List ℕ) (w : WriteError) (e : CompactError) → fresh ≡ 0 → (w ≡ write.Draft → Rose fresh failed) → ((w ≡ write.Draft → ⊥) → failed ≡ fresh) → e ≡ compact_failure w
    → (0 < failed → Rose a b) → (failed ≡ 0 → b ≡ a) → a ≤ b → HasCauses {T = T} a b us us IsTold (Err e)
caused_finish IsTold a b fresh failed us w e none rose stays is counted quiet later = record {
  drafts = record {
    later = later;
    failed = λ fault. counted (omega (arith, none, rose (drafts_of w (sym is ∙ fault))));
    quiet = tt;
    other = λ never. quiet (stays (λ fault. never (is ∙ ap compact_failure fault)) ∙ none);
  };
  reads = record { later = none_fell us; failed = λ read. absurd (no_read w e is read); quiet = tt; other = λ _. refl };
  damaged = λ d damaged. absurd (no_write_damage w e is d damaged);
}

-- a result ends as itself
pub same_end : {T E : Type 0} (r : Result T E) → SameEnd r r
same_end (Ok v) = tt
same_end (Err e) = refl

-- ---- a call's causes are its caller's, where the counts stayed before

pub caused_on : {T U : Type 0} (IsTold Told : Damage → Type 0) (a b c : ℕ) (us vs ws : List ℕ) (r : Result T CompactError) (q : Result U CompactError) → b ≡ a → vs ≡ us → HasCauses b c vs ws IsTold r → SameEnd r q → ((d : Damage) → IsTold d → Told d) → HasCauses a c us ws Told q
caused_on IsTold Told a b c us vs ws (Ok v) (Ok w) stay stays h same more = caused_ok Told a c us ws w (h.drafts.quiet ∙ stay) (h.reads.quiet ∙ stays)
caused_on IsTold Told a b c us vs ws (Ok v) (Err f) stay stays h same more = absurd same
caused_on IsTold Told a b c us vs ws (Err e) (Ok w) stay stays h same more = absurd same
caused_on IsTold Told a b c us vs ws (Err e) (Err f) stay stays h same more = record {
  drafts = record {
    later = subst (λ n. n ≤ c) stay h.drafts.later;
    failed = λ fault. subst (λ n. Rose n c) stay (h.drafts.failed (same ∙ fault));
    quiet = tt;
    other = λ never. h.drafts.other (λ fault. never (sym same ∙ fault)) ∙ stay;
  };
  reads = record {
    later = subst (λ ns. NoneFell ns ws) stays h.reads.later;
    failed = λ read. subst (λ ns. SomeRose ns ws) stays (h.reads.failed (same ∙ read));
    quiet = tt;
    other = λ never. h.reads.other (λ read. never (sym same ∙ read)) ∙ stays;
  };
  damaged = λ d is. more d (h.damaged d (same ∙ is));
}

-- ---- among further readers, which were not read

fell_left : (xs ys zs : List ℕ) → NoneFell xs ys → NoneFell (xs ++ zs) (ys ++ zs)
fell_left [] [] zs h = none_fell zs
fell_left [] (y ∷ ys) zs h = absurd h
fell_left (x ∷ xs) [] zs h = absurd h
fell_left (x ∷ xs) (y ∷ ys) zs h = (h.0, fell_left xs ys zs h.1)

fell_right : (zs xs ys : List ℕ) → NoneFell xs ys → NoneFell (zs ++ xs) (zs ++ ys)
fell_right [] xs ys h = h
fell_right (z ∷ zs) xs ys h = (omega arith, fell_right zs xs ys h)

rose_left : (xs ys zs : List ℕ) → SomeRose xs ys → SomeRose (xs ++ zs) (ys ++ zs)
rose_left [] ys zs h = absurd h
rose_left (x ∷ xs) [] zs h = absurd h
rose_left (x ∷ xs) (y ∷ ys) zs h = elim h [ inl here ↦ inl here | inr more ↦ inr (rose_left xs ys zs more) ]

rose_right : (zs xs ys : List ℕ) → SomeRose xs ys → SomeRose (zs ++ xs) (zs ++ ys)
rose_right [] xs ys h = h
rose_right (z ∷ zs) xs ys h = inr (rose_right zs xs ys h)

pub caused_left : {T : Type 0} (IsTold : Damage → Type 0) (a b : ℕ) (xs ys zs : List ℕ) (r : Result T CompactError) → HasCauses a b xs ys IsTold r → HasCauses a b (xs ++ zs) (ys ++ zs) IsTold r
caused_left IsTold a b xs ys zs (Ok v) h = caused_ok IsTold a b _ _ v h.drafts.quiet (ap (λ ns. ns ++ zs) h.reads.quiet)
caused_left IsTold a b xs ys zs (Err e) h = record {
  drafts = h.drafts;
  reads = record { later = fell_left xs ys zs h.reads.later; failed = λ read. rose_left xs ys zs (h.reads.failed read); quiet = tt; other = λ never. ap (λ ns. ns ++ zs) (h.reads.other never) };
  damaged = h.damaged;
}

pub caused_right : {T : Type 0} (IsTold : Damage → Type 0) (a b : ℕ) (zs xs ys : List ℕ) (r : Result T CompactError) → HasCauses a b xs ys IsTold r → HasCauses a b (zs ++ xs) (zs ++ ys) IsTold r
caused_right IsTold a b zs xs ys (Ok v) h = caused_ok IsTold a b _ _ v h.drafts.quiet (ap (λ ns. zs ++ ns) h.reads.quiet)
caused_right IsTold a b zs xs ys (Err e) h = record {
  drafts = h.drafts;
  reads = record { later = fell_right zs xs ys h.reads.later; failed = λ read. rose_right zs xs ys (h.reads.failed read); quiet = tt; other = λ never. ap (λ ns. zs ++ ns) (h.reads.other never) };
  damaged = h.damaged;
}

-- ---- a draft that is given back has its bench count its fault

pub caused_bench : {T U : Type 0} (IsTold Told : Damage → Type 0) (before between now fresh failed : ℕ) (us vs : List ℕ) (e : CompactError) → between ≡ before → fresh ≡ 0 → HasCauses {T = T} fresh failed us vs IsTold (Err e)
    → (0 < failed → Rose between now) → (failed ≡ 0 → now ≡ between) → between ≤ now → ((d : Damage) → IsTold d → Told d) → HasCauses {T = U} before now us vs Told (Err e)
caused_bench IsTold Told before between now fresh failed us vs e stay none h counted quiet later more = record {
  drafts = record {
    later = omega (arith, stay, later);
    failed = λ fault. subst (λ b. Rose b now) stay (counted (omega (arith, none, h.drafts.failed fault)));
    quiet = tt;
    other = λ never. quiet (h.drafts.other never ∙ none) ∙ stay;
  };
  reads = record { later = h.reads.later; failed = h.reads.failed; quiet = tt; other = h.reads.other };
  damaged = λ d is. more d (h.damaged d is);
}
