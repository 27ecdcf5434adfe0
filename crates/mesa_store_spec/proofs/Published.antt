-- A batch keeps the rows of a catalogue sound.
use Rattle.std.proofs.Common.{◌≡◌, ℕ, suc, ◌+◌, ◌<◌, List, [], ◌∷◌, length, Some, ◌∙◌, ap, subst, arith, slice_index_or}
use Rattle.std.specs.List.{AllByRecursion}
use Rattle.mesa_history_spec.specs.mesa_batch.Batch.{Placed, rows_for}
use Rattle.mesa_commit.specs.mesa_disk.Image.{Image, file_of}
use Rattle.mesa_commit.specs.Images.{Has}
use Rattle.mesa_record.specs.declared.record.Part.{Part}
use Rattle.mesa_record.specs.declared.record.Record.TheVariants as record_of
use Rattle.mesa_store_spec.specs.Catalog.{TableMeta, Catalog, part_of, meta_at, no_meta, metas_loaded, applied}
use Rattle.mesa_store_spec.specs.Fitting.{part_live, live_files, brought}
use Rattle.mesa_store_spec.specs.Contents.{Rows}
use Rattle.mesa_store_spec.specs.Sound.{wants, wanted, IsTold, HasSoundRows, HaveSoundRows}
use Rattle.mesa_store_spec.specs.Shape.{IsShaped, IsCatalog}
use Rattle.mesa_store_spec.specs.Brought.{AreTold, BringsAll}
use Rattle.mesa_history_spec.proofs.mesa_columns.Lists.{all_map}
use Rattle.mesa_store_spec.proofs.Lists.{all_unmap, all_unflat}
use Rattle.mesa_store_spec.proofs.Named.{BroughtTo, found_part, named_published}
use Rattle.mesa_store_spec.proofs.SoundRows.{loaded_sound_rows}

loaded_all : (rows : Rows) (c : Catalog) (parts : List Part) (batch : List Placed) (number : ℕ) (tables : List TableMeta) → ((i : ℕ) → i < length tables → meta_at c (number + i) ≡ slice_index_or tables i no_meta)
    → AllByRecursion (IsShaped c.floor c.next) tables → AllByRecursion (HasSoundRows rows) tables → AllByRecursion (λ (p : Part). AllByRecursion (IsTold rows) (part_live c p)) parts
    → BringsAll rows parts batch number tables → AllByRecursion (HasSoundRows rows) (metas_loaded parts number tables)
loaded_all rows c parts batch number [] at shaped sound_rows told brings = tt
loaded_all rows c parts batch number (t ∷ tables) at shaped sound_rows told brings =
    let here : meta_at c number ≡ t = (let e : number ≡ number + 0 = omega arith in ap (meta_at c) e) ∙ at 0 (omega arith) in
    let p = part_of number parts in
    let own = subst (λ (s : TableMeta). BroughtTo (IsTold rows) s.lineage p) here (found_part (IsTold rows) c number parts told) in (
      loaded_sound_rows rows c.floor c.next t shaped.0 sound_rows.0 p (rows_for number batch) brings.0 own,
      loaded_all rows c parts batch (number + 1) tables (λ i lt. (let e : number + 1 + i ≡ number + suc i = omega arith in ap (meta_at c) e) ∙ at (suc i) (omega (arith, lt))) shaped.1 sound_rows.1 told brings.1,
    )

-- A batch whose files are true, and whose rows and totals are those of the parts, keeps rows sound.
pub publish_sound_rows : (rows : Rows) (c : Catalog) (version : ℕ) (parts : List Part) (batch : List Placed) → IsCatalog c → HaveSoundRows rows c → AreTold rows c (record_of.Publish version parts)
    → BringsAll rows parts batch 0 c.tables → HaveSoundRows rows (applied c (record_of.Publish version parts))
publish_sound_rows rows c version parts batch is sound_rows told brings =
    loaded_all rows c parts batch 0 c.tables (λ i lt. (let e : 0 + i ≡ i = omega arith in ap (meta_at c) e)) is.tables sound_rows (all_unflat (IsTold rows) (part_live c) parts told) brings

-- and the image grows as a step asks
pub publish_grows : (rows : Rows) (c : Catalog) (version : ℕ) (parts : List Part) (i : Image) → Has (wants rows (live_files c)) i → Has (wants rows (brought c (record_of.Publish version parts))) i
    → Has (wants rows (live_files (applied c (record_of.Publish version parts)))) i
publish_grows rows c version parts i old new =
    let W = λ (w : ℕ × List ℕ). file_of i w.0 ≡ Some w.1 in
    all_map W (wanted rows) (live_files (applied c (record_of.Publish version parts)))
    (named_published (λ x. W (wanted rows x)) c version parts (all_unmap W (wanted rows) (live_files c) old) (all_unmap W (wanted rows) (brought c (record_of.Publish version parts)) new))
