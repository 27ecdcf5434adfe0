-- Whole stores: no first fault exactly where the files are sound.
use Rattle.std.proofs.Common.{◌≡◌, ℕ, List, [], Some, None, ap}
use Rattle.std.specs.Prelude.{slice_get}
use Rattle.std.specs.List.{AllByRecursion}
use Rattle.mesa_schema.proofs.mesa_columns.Lists.{all_both, all_map, all_so}
use Rattle.mesa_disk.specs.Image.{Image, file_of}
use Rattle.mesa_store_spec.specs.Catalog.{Catalog, TableMeta}
use Rattle.mesa_store_spec.specs.Fitting.{LiveFile, live_files, meta_live}
use Rattle.mesa_store_spec.specs.Shape.{IsCatalog, IsShaped}
use Rattle.mesa_store_spec.specs.Sound.{HaveSoundRows, HasSoundRows, IsTold, wanted, wants}
use Rattle.mesa_store_spec.proofs.Lists.{all_flat, all_unflat, all_unmap}
use Rattle.mesa_check.specs.Found.{AreFound, Found, HasSoundFiles, IsFoundAs, all_found, rows_found}
use Rattle.mesa_check.specs.Faults.{faults, first_fault, range_faults, table_faults}
use Rattle.mesa_check.specs.Ranges.{checked_ranges}
use Rattle.mesa_check.specs.Laws.{NoFaultIsSound, SoundHasNoFault, SoundIsFound}
use Rattle.mesa_check.proofs.Faultless.{faultless}
use Rattle.mesa_check.proofs.KeyLists.{flat_nil, nil_flat, none_first}
use Rattle.mesa_check.proofs.Silent.{IsSilent, silent}
use Rattle.mesa_check.proofs.Sounding.{IsThere, files_are, sound_rows}

-- Where the rows are sound, there is no first fault.
pub sound_has_none : SoundHasNoFault
sound_has_none c rows is all = ap (λ xs. slice_get xs 0) (nil_flat (table_faults (all_found rows)) c.tables (all_so (HasSoundRows rows) (λ t. table_faults (all_found rows) t ≡ []) c.tables (λ t its. faultless rows t its) all))

-- And the files are found with these rows.
pub sound_found : SoundIsFound
sound_found i c rows has all =
    all_both (λ (x : LiveFile). file_of i x.file.id ≡ Some (Rattle.mesa_store_spec.specs.Sound.bytes_of rows x)) (IsTold rows) (λ (x : LiveFile). IsFoundAs i x (Some (rows x.file.id))) (live_files c) (λ x there told. (there, told.file, told.true))
    (all_unmap (λ (w : ℕ × List ℕ). file_of i w.0 ≡ Some w.1) (wanted rows) (live_files c) has)
    (all_flat (IsTold rows) meta_live c.tables (all_so (HasSoundRows rows) (λ t. AllByRecursion (IsTold rows) (meta_live t)) c.tables (λ t its. its.files) all))

module _ (i : Image) (found : Found) (c : Catalog) (is : IsCatalog c) (are : AreFound i found (live_files c)) (none : first_fault found c ≡ None) where
  -- a table's shape and its files, as they were found
  abbrev IsRead : TableMeta → Type 0
  IsRead t = IsShaped c.floor c.next t × AllByRecursion (λ (x : LiveFile). IsFoundAs i x (found x.file.id)) (meta_live t)

  read : AllByRecursion IsRead c.tables
  read = all_both (IsShaped c.floor c.next) (λ t. AllByRecursion (λ (x : LiveFile). IsFoundAs i x (found x.file.id)) (meta_live t)) IsRead c.tables (λ t a b. (a, b)) is.tables (all_unflat (λ (x : LiveFile). IsFoundAs i x (found x.file.id)) meta_live c.tables are)

  silent_all : AllByRecursion (λ t. AllByRecursion (IsSilent found t) (checked_ranges t)) c.tables
  silent_all = all_so (λ t. table_faults found t ≡ []) (λ t. AllByRecursion (IsSilent found t) (checked_ranges t)) c.tables
      (λ t e. all_so (λ r. range_faults found t r ≡ []) (IsSilent found t) (checked_ranges t) (silent found t) (flat_nil (range_faults found t) (checked_ranges t) e))
      (flat_nil (table_faults found) c.tables (none_first (faults found c) none))

  all_sound_rows : HaveSoundRows (rows_found found) c
  all_sound_rows = all_both IsRead (λ t. AllByRecursion (IsSilent found t) (checked_ranges t)) (HasSoundRows (rows_found found)) c.tables (λ t a b. sound_rows found i c.floor c.next t a.0 a.1 b) read silent_all

  all_there : AllByRecursion (IsThere i found) (live_files c)
  all_there = all_flat (IsThere i found) meta_live c.tables (all_both IsRead (λ t. AllByRecursion (IsSilent found t) (checked_ranges t)) (λ t. AllByRecursion (IsThere i found) (meta_live t)) c.tables (λ t a b. files_are found i c.floor c.next t a.0 a.1 b) read silent_all)

  pub has_sound : HasSoundFiles i c
  has_sound = (rows_found found, all_map (λ (w : ℕ × List ℕ). file_of i w.0 ≡ Some w.1) (wanted (rows_found found)) (live_files c) (all_so (IsThere i found) (λ (x : LiveFile). file_of i x.file.id ≡ Some (Rattle.mesa_store_spec.specs.Sound.bytes_of (rows_found found) x)) (live_files c) (λ x its. its.0) all_there), all_sound_rows)

-- Where there is no first fault, the files are sound.
pub none_is_sound : NoFaultIsSound
none_is_sound i found c is are none = has_sound i found c is are none
