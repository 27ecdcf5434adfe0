-- A merged range on a whole catalogue.
use Rattle.std.proofs.Common.{◌≡◌, ℕ, ◌<◌, List, length, Option, Some, Bool, true, false, ◌&&◌, ◌==◌, nat_le}
use Rattle.std.specs.List.{AllByRecursion}
use Rattle.mesa_history_spec.proofs.mesa_columns.Lists.{all_map, all_set}
use Rattle.mesa_commit.specs.mesa_disk.Image.{Image, file_of}
use Rattle.mesa_commit.specs.Images.{Has}
use Rattle.mesa_record.specs.declared.record.Files.{Files}
use Rattle.mesa_record.specs.declared.record.Record.TheVariants as record_of
use Rattle.mesa_store_spec.specs.Catalog.{Delta, Catalog, start_in, ranges_of, meta_at, meta_swapped, merged_delta, applied}
use Rattle.mesa_store_spec.specs.Fitting.{live_files, brought, kind_fits, swap_fits, may_be_base, is_there, files_fit_if_any, has_epoch}
use Rattle.mesa_store_spec.specs.Contents.{Rows}
use Rattle.mesa_store_spec.specs.Sound.{wants, wanted, HasSoundRows, HaveSoundRows}
use Rattle.mesa_store_spec.specs.Shape.{IsShaped}
use Rattle.mesa_store_spec.specs.Brought.{AreTold, Merges}
use Rattle.mesa_store_spec.proofs.Lists.{all_unmap, both_true, is_at_most, is_less, meta_found}
use Rattle.mesa_store_spec.proofs.Kept.{IsWithin}
use Rattle.mesa_store_spec.proofs.Named.{named_swapped}
use Rattle.mesa_store_spec.proofs.SoundRows.{based_sound_rows, covered_sound_rows}

pub swap_there : (c : Catalog) (table : ℕ) (base : Bool) (from to epoch : ℕ) (files : Option Files) → kind_fits c (record_of.Swap table base from to epoch files) ≡ true → table < length c.tables
swap_there c table base from to epoch files e = is_less table (length c.tables) (both_true (is_there c table) (swap_fits c (meta_at c table) base from to epoch files) e).0

pub swap_within : (c : Catalog) (table : ℕ) (base : Bool) (from to epoch : ℕ) (files : Option Files) → kind_fits c (record_of.Swap table base from to epoch files) ≡ true → IsWithin base (meta_at c table) to
swap_within c table false from to epoch files e = tt
swap_within c table true from to epoch files e =
    let t = meta_at c table in
    let all = (both_true (is_there c table) (swap_fits c t true from to epoch files) e).1 in
    let may = (both_true (may_be_base (ranges_of t) t.oldest from to) _ (both_true (may_be_base (ranges_of t) t.oldest from to && has_epoch t.lineage epoch) (files_fit_if_any t.lineage epoch files) all).0).0 in
    let last = both_true ((from == 0) && nat_le 1 to && nat_le (start_in t) to) (nat_le to t.oldest) may in
    let behind = both_true ((from == 0) && nat_le 1 to) (nat_le (start_in t) to) last.0 in
    (is_at_most (start_in t) to behind.1, is_at_most to t.oldest last.1)

pub swap_sound_rows : (rows : Rows) (c : Catalog) (table : ℕ) (base : Bool) (from to epoch : ℕ) (files : Option Files) → table < length c.tables → AllByRecursion (IsShaped c.floor c.next) c.tables → HaveSoundRows rows c
    → AreTold rows c (record_of.Swap table base from to epoch files) → Merges rows (meta_at c table) base to (merged_delta epoch files) → HaveSoundRows rows (applied c (record_of.Swap table base from to epoch files))
swap_sound_rows rows c table base from to epoch files there shapes is told merges =
    all_set (HasSoundRows rows) c.tables table (meta_swapped (meta_at c table) base to (merged_delta epoch files)) (by base merges) is
  where
    d : Delta
    d = merged_delta epoch files

    shaped : IsShaped c.floor c.next (meta_at c table)
    shaped = meta_found (IsShaped c.floor c.next) c.tables table there shapes

    sound_rows : HasSoundRows rows (meta_at c table)
    sound_rows = meta_found (HasSoundRows rows) c.tables table there is

    by : (b : Bool) → Merges rows (meta_at c table) b to (merged_delta epoch files) → HasSoundRows rows (meta_swapped (meta_at c table) b to (merged_delta epoch files))
    by true m = based_sound_rows rows c.floor c.next (meta_at c table) shaped sound_rows to (merged_delta epoch files) told m.grouped m.replaces
    by false m = covered_sound_rows rows c.floor c.next (meta_at c table) shaped sound_rows to (merged_delta epoch files) told m.grouped m.replaces

pub swap_grows : (rows : Rows) (c : Catalog) (table : ℕ) (base : Bool) (from to epoch : ℕ) (files : Option Files) (i : Image) → table < length c.tables → Has (wants rows (live_files c)) i → Has (wants rows (brought c (record_of.Swap table base from to epoch files))) i
    → Has (wants rows (live_files (applied c (record_of.Swap table base from to epoch files)))) i
swap_grows rows c table base from to epoch files i there old new =
    let W = λ (w : ℕ × List ℕ). file_of i w.0 ≡ Some w.1 in
    all_map W (wanted rows) _ (named_swapped (λ x. W (wanted rows x)) c table base from to epoch files there (all_unmap W (wanted rows) (live_files c) old) (all_unmap W (wanted rows) (brought c (record_of.Swap table base from to epoch files)) new))
