-- Why a reading ends.
use Rattle.std.proofs.Common.{◌≡◌, ◌≢◌, ◌⊎◌, inl, inr, ⊎_elim, ℕ, ◌<◌, List, Some, Result, Err, refl, sym, ◌∙◌, ap, subst, arith}
use Rattle.std.specs.List.{AllByRecursion}
use Rattle.std.specs.Prelude.{map}
use Rattle.std.proofs.lemmas.List.Sorted.{All-permutation, IsPermutation-sym}
use Rattle.std.proofs.lemmas.List.Elements.{All-from_recursion, recursion_from_All}
use Rattle.mesa_store.specs.mesa_io.Causes.{Rose}
use Rattle.mesa_store_spec.specs.mesa_file.declared.damage.Damage.{Damage}
use Rattle.mesa_store_spec.specs.mesa_file.declared.damage.Seen.TheVariants as seen
use Rattle.mesa_disk.specs.Image.{Image, area_of}
use Rattle.mesa_disk.specs.Story.{Story}
use Rattle.mesa_disk.specs.declared.area.Area.{Area}
use Rattle.mesa_disk.specs.declared.area.Area.TheVariants.{Zero, One}
use Rattle.mesa_journal.specs.Areas.{HasJournal, IsWhole}
use Rattle.mesa_journal.specs.Read.{bodies_of, placed_from, Finds, IsShort}
use Rattle.mesa_journal.specs.declared.reading.Body.{Body}
use Rattle.mesa_journal.specs.declared.reading.JournalRead.{JournalRead}
use Rattle.mesa_journal.specs.declared.reading.JournalError.{JournalError}
use Rattle.mesa_journal.specs.declared.reading.JournalError.TheVariants as journal
use Rattle.mesa_store_spec.specs.Catalog.{Catalog}
use Rattle.mesa_store_spec.specs.Fitting.{live_files}
use Rattle.mesa_store_spec.specs.Journaled.{catalog}
use Rattle.mesa_catalog_table.specs.declared.recorded.Recorded.{Recorded}
use Rattle.mesa_catalog_table.specs.Files.{AreRecorded, recorded_of}
use Rattle.mesa_recover.specs.declared.error.OpenError.{OpenError}
use Rattle.mesa_recover.specs.declared.error.OpenError.TheVariants as open_error
use Rattle.mesa_recover.specs.Damages.{IsFirstDamage, HasMisfit, IsFirstMisfit}
use Rattle.mesa_recover.specs.Misfits.{IsMisfitIn, IsOfRecords, misfit_at, journal_refusal}
use Rattle.mesa_recover.specs.Checking.{IsOfFiles}
use Rattle.mesa_recover.specs.Opening.{HasReason}

-- what is there and what is wanted of an area that is cut off
lengths_differ : (want have : ℕ) → have < want → seen.Length want ≢ seen.Length have
lengths_differ want have less same = (let equal : want ≡ have = cc in omega (arith, equal, less))

-- an area isn't read
pub journal_reason : (area : Area) (old new : Story) (r : Result JournalRead JournalError) (e : JournalError) → r ≡ Err e → IsShort e → ((i : Image) → old.told ≡ Some i → Finds (area_of area i) r) → (area ≡ One → (i : Image) → old.told ≡ Some i → IsWhole i.zero)
    → (e ≡ journal.Fault → Rose old.faults new.faults) → HasReason old new (journal_refusal area e)
journal_reason area old new r journal.Fault is short found before rose = inl (rose refl)
journal_reason Zero old new r (journal.Damaged at want have) is short found before rose = (Zero, refl, λ i told. inl (let f = subst (Finds i.zero) is (found i told) in (want, f.0, refl, ap seen.Length f.1)), lengths_differ want have short)
journal_reason One old new r (journal.Damaged at want have) is short found before rose = (One, refl, λ i told. inl (let f = subst (Finds i.one) is (found i told) in (want, (before refl i told, f.0), refl, ap seen.Length f.1)), lengths_differ want have short)
journal_reason area old new r journal.Memory is short found before rose = tt

-- a record misfits
misfits : (image : Image) (area : Area) (bodies : List (List ℕ)) (end at offset : ℕ) → HasJournal image area bodies end → IsMisfitIn area bodies (misfit_at area at offset) → HasMisfit image area at seen.Fits (seen.Misfit offset)
misfits image area bodies end at offset whole is = ⊎_elim (λ (m : misfit_at area at offset ≡ open_error.Memory). absurd (let n : misfit_at area at offset ≡ open_error.Memory = m in cc)) found is
  where
    found : ((a : ℕ) × (o : ℕ) × IsFirstMisfit area bodies a o × (misfit_at area at offset ≡ misfit_at area a o)) → HasMisfit image area at seen.Fits (seen.Misfit offset)
    found x =
        let same : misfit_at area at offset ≡ misfit_at area x.0 x.1 = x.3 in
        let place : x.0 ≡ at = cc in
        let wrong : x.1 ≡ offset = cc in
        (bodies, end, offset, whole, subst (λ o. IsFirstMisfit area bodies at o) wrong (subst (λ a. IsFirstMisfit area bodies a x.1) place x.2), refl, refl)

pub misfit_reason : (area : Area) (old new : Story) (bodies : List Body) (end : ℕ) (e : OpenError) → IsOfRecords area e → (bodies ≡ placed_from 0 (bodies_of bodies) → IsMisfitIn area (bodies_of bodies) e)
    → ((i : Image) → old.told ≡ Some i → HasJournal i area (bodies_of bodies) end × (bodies ≡ placed_from 0 (bodies_of bodies))) → HasReason old new e
misfit_reason area old new bodies end e kind misfit found = ⊎_elim (λ m. subst (HasReason old new) (sym m) tt) by kind
  where
    by : ((at : ℕ) × (offset : ℕ) × (e ≡ misfit_at area at offset)) → HasReason old new e
    by x = subst (HasReason old new) (sym x.2)
        (area, refl, λ i told. inr (let f = found i told in misfits i area (bodies_of bodies) end x.0 x.1 f.0 (subst (IsMisfitIn area (bodies_of bodies)) x.2 (misfit f.1))), λ same. cc)

pub misfit_never_full : (area : Area) (e : OpenError) → IsOfRecords area e → e ≡ open_error.RunsFull → ⊥
misfit_never_full area e kind full = ⊎_elim (λ (m : e ≡ open_error.Memory). (let f : open_error.Memory ≡ open_error.RunsFull = sym m ∙ full in cc)) (λ x. (let f : misfit_at area x.0 x.1 ≡ open_error.RunsFull = sym x.2 ∙ full in cc)) kind

pub misfit_never_fault : (area : Area) (e : OpenError) → IsOfRecords area e → e ≡ open_error.Fault → ⊥
misfit_never_fault area e kind fault = ⊎_elim (λ (m : e ≡ open_error.Memory). (let f : open_error.Memory ≡ open_error.Fault = sym m ∙ fault in cc)) (λ x. (let f : misfit_at area x.0 x.1 ≡ open_error.Fault = sym x.2 ∙ fault in cc)) kind

-- a file is damaged
pub files_reason : (live : Area) (old mid new : Story) (bodies : List (List ℕ)) (end : ℕ) (c : Catalog) (files : List Recorded) (e : OpenError) → mid.told ≡ old.told → mid.faults ≡ old.faults → mid.read_faults ≡ old.read_faults
    → IsOfFiles e → (e ≡ open_error.Fault → Rose mid.faults new.faults ⊎ Rose mid.read_faults new.read_faults)
    → ((i : Image) → old.told ≡ Some i → HasJournal i live bodies end) → catalog live bodies ≡ Some c → AreRecorded c files
    → ((d : Damage) → e ≡ open_error.File d → (i : Image) → mid.told ≡ Some i → IsFirstDamage i files d) → HasReason old new e
files_reason live old mid new bodies end c files open_error.Fault told faults read_faults kind rose whole records recorded damaged =
    ⊎_elim (λ (a : Rose mid.faults new.faults). inl (subst (λ n. Rose n new.faults) faults a)) (λ (b : Rose mid.read_faults new.read_faults). inr (subst (λ n. Rose n new.read_faults) read_faults b)) (rose refl)
files_reason live old mid new bodies end c files (open_error.Journal area at want found) told faults read_faults kind rose whole records recorded damaged = absurd kind
files_reason live old mid new bodies end c files (open_error.File d) told faults read_faults kind rose whole records recorded damaged =
    (λ i is. record { bodies = bodies; end = end; catalogue = c; files = files; live = live; journal = whole i is; records = records; recorded = recorded; first = damaged d refl i (told ∙ is) }, kind)
files_reason live old mid new bodies end c files open_error.RunsFull told faults read_faults kind rose whole records recorded damaged = absurd kind
files_reason live old mid new bodies end c files open_error.Memory told faults read_faults kind rose whole records recorded damaged = tt

pub files_never_full : (e : OpenError) → IsOfFiles e → e ≡ open_error.RunsFull → ⊥
files_never_full e kind full = subst IsOfFiles full kind

-- each file that a catalogue names was tested
pub all_recorded : (P : Recorded → Type 0) (c : Catalog) (files : List Recorded) → AreRecorded c files → AllByRecursion P files → AllByRecursion P (map recorded_of (live_files c))
all_recorded P c files recorded all =
    recursion_from_All P (map recorded_of (live_files c)) (All-permutation P files (map recorded_of (live_files c)) (IsPermutation-sym _ _ recorded.same) (All-from_recursion P files all))

-- and what was tested is named
pub recorded_all : (P : Recorded → Type 0) (c : Catalog) (files : List Recorded) → AreRecorded c files → AllByRecursion P (map recorded_of (live_files c)) → AllByRecursion P files
recorded_all P c files recorded all =
    recursion_from_All P files (All-permutation P (map recorded_of (live_files c)) files recorded.same (All-from_recursion P (map recorded_of (live_files c)) all))
