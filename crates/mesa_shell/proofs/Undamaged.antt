-- No damage is told of the files of a sound image.
use Rattle.std.proofs.Common.{◌≡◌, inl, inr, ℕ, ◌+◌, ◌*◌, List, [], ◌∷◌, ◌++◌, length, map, drop, replicate, refl, sym, ◌∙◌, ap, subst, arith, Some}
use Rattle.std.specs.Int.{w32, w64, to_be_bytes}
use Rattle.std.specs.List.{AllByRecursion}
use Rattle.std.proofs.Math.Seq.{drop-append_seam}
use Rattle.std.proofs.lemmas.List.{length-append, length-take-le}
use Rattle.sha2.specs.Sha256.{sha256}
use Rattle.sha2.proofs.Facts256.{length-sha256}
use Rattle.mesa_file.specs.declared.damage.Damage.{Damage}
use Rattle.mesa_key.specs.Order.{short_key}
use Rattle.mesa_columns.specs.declared.rows.Row.{Row}
use Rattle.mesa_columns.proofs.Lists.{all_so}
use Rattle.mesa_check.specs.mesa_block.Layout.{Layout}
use Rattle.mesa_check.specs.mesa_block.Spelling.{block}
use Rattle.mesa_disk.specs.Image.{Image, file_of}
use Rattle.mesa_check.specs.mesa_delta_format.File.{file_bytes, file_tail}
use Rattle.mesa_check.specs.mesa_delta_format.Indexed.{tail_length, tail_place}
use Rattle.mesa_check.specs.mesa_delta_format.Spread.{blocks_of}
use Rattle.mesa_check.specs.mesa_delta_format.Tail.{entries, entry, first_key, foot}
use Rattle.mesa_delta.proofs.mesa_delta_format.Placed.{laid}
use Rattle.mesa_delta.proofs.mesa_delta_format.Tailing.{foot_long}
use Rattle.mesa_session.specs.mesa_history_spec.Rows.{Rows}
use Rattle.mesa_engine.specs.mesa_commit.Images.{Has}
use Rattle.mesa_engine.specs.mesa_store_spec.Catalog.{Catalog}
use Rattle.mesa_engine.specs.mesa_store_spec.Fitting.{LiveFile, live_files, meta_live}
use Rattle.mesa_engine.specs.mesa_store_spec.Sound.{IsSoundAs, HasSoundRows, IsTold, bytes_of, layout_of, wants}
use Rattle.mesa_engine.proofs.mesa_store_spec.Lists.{all_flat}
use Rattle.mesa_check.specs.mesa_catalog_table.declared.recorded.Recorded.{Recorded}
use Rattle.mesa_check.specs.mesa_catalog_table.Files.{recorded_of}
use Rattle.mesa_recover.specs.Damages.{HasDamagedFile, IsFileDamage}
use Rattle.mesa_recover.proofs.Reasons.{recorded_all}
use Rattle.mesa_shell.proofs.Journals.{same_catalog}

-- ---- the tail of a file

entry_long : (short : List ℕ) (offset : ℕ) (bytes : List ℕ) → length short ≡ 16 → length (entry short offset bytes) ≡ 60
entry_long short offset bytes is =
    omega (
      arith,
      is,
      length-sha256 bytes,
      length-append short (to_be_bytes w64 offset ++ (to_be_bytes w32 (length bytes) ++ sha256 bytes)),
      length-append (to_be_bytes w64 offset) (to_be_bytes w32 (length bytes) ++ sha256 bytes),
      length-append (to_be_bytes w32 (length bytes)) (sha256 bytes),
    )

short_long : (key : List ℕ) → length (short_key key) ≡ 16
short_long key = length-take-le 16 (key ++ replicate 16 0) (omega (arith, length-append key (replicate 16 0)))

entries_long : (s : Layout) (at : ℕ) (parts : List (List Row)) → length (entries s at parts) ≡ 60 * length parts
entries_long s at [] = refl
entries_long s at (part ∷ parts) =
    let first = entry_long (short_key (first_key part)) at (block s part) (short_long (first_key part)) in
    let rest = entries_long s (at + length (block s part)) parts in
    omega (arith, first, rest, length-append (entry (short_key (first_key part)) at (block s part)) (entries s (at + length (block s part)) parts))

tail_long : (s : Layout) (rows : List Row) → length (file_tail s rows) ≡ tail_length s.columns (length (blocks_of s rows))
tail_long s rows =
    let parts = blocks_of s rows in
    omega (arith, entries_long s 0 parts, foot_long s (length rows) (length parts), length-append (entries s 0 parts) (foot s (length rows) (length parts)))

tail_behind : (s : Layout) (rows : List Row) (place : ℕ) → place + length (file_tail s rows) ≡ length (file_bytes s rows) → drop place (file_bytes s rows) ≡ file_tail s rows
tail_behind s rows place is =
    let before = laid s (blocks_of s rows) in
    let same : place ≡ length before = omega (arith, is, length-append before (file_tail s rows)) in
    ap (λ n. drop n (file_bytes s rows)) same ∙ drop-append_seam before (file_tail s rows)

-- ---- the files of a sound image

module _ (image : Image) (rows : Rows) (d : Damage) where
  -- a file isn't damaged so
  abbrev IsWell : Recorded → Type 0
  IsWell r = IsFileDamage (file_of image r.id) r d → ⊥

  told_well : (x : LiveFile) → IsTold rows x → file_of image x.file.id ≡ Some (bytes_of rows x) → IsWell (recorded_of x)
  told_well x told there damage = by (subst (λ o. IsFileDamage o (recorded_of x) d) there damage)
    where
      place : tail_place (layout_of x) x.file + length (file_tail (layout_of x) (rows x.file.id)) ≡ length (file_bytes (layout_of x) (rows x.file.id))
      place =
          let tail = tail_long (layout_of x) (rows x.file.id) in
          let blocks = ap (tail_length x.columns) told.true.blocks in
          let long = length-append (laid (layout_of x) (blocks_of (layout_of x) (rows x.file.id))) (file_tail (layout_of x) (rows x.file.id)) in
          omega (arith, tail, blocks, long, told.true.len)

      digest : sha256 (drop (tail_place (layout_of x) x.file) (bytes_of rows x)) ≡ x.file.digest
      digest = ap sha256 (tail_behind (layout_of x) (rows x.file.id) (tail_place (layout_of x) x.file) place) ∙ sym told.true.digest

      by : IsFileDamage (Some (bytes_of rows x)) (recorded_of x) d → ⊥
      by (inl long) = long.1 (sym told.true.len)
      by (inr other) = other.1.1 digest

  all_well : (files : List LiveFile) → AllByRecursion (IsTold rows) files → Has (wants rows files) image → AllByRecursion IsWell (map recorded_of files)
  all_well [] told has = tt
  all_well (x ∷ files) told has = (told_well x told.0 has.0, all_well files told.1 has.1)

in_middle : {A : Type 0} (P : A → Type 0) (xs : List A) (x : A) (ys : List A) → AllByRecursion P (xs ++ x ∷ ys) → P x
in_middle P [] x ys all = all.0
in_middle P (y ∷ xs) x ys all = in_middle P xs x ys all.1

pub sound_undamaged : (image : Image) (bodies : List (List ℕ)) (c : Catalog) (rows : Rows) → IsSoundAs image bodies c rows → (d : Damage) → HasDamagedFile image d → ⊥
sound_undamaged image bodies c rows s d h =
    let same : c ≡ h.catalogue = same_catalog image s.live h.live bodies h.bodies s.end h.end c h.catalogue s.journal h.journal s.records h.records in
    let told = all_flat (IsTold rows) meta_live c.tables (all_so (HasSoundRows rows) (λ t. AllByRecursion (IsTold rows) (meta_live t)) c.tables (λ t sound_rows. sound_rows.files) s.rows_are) in
    let named = subst (λ (k : Catalog). AllByRecursion (IsWell image rows d) (map recorded_of (live_files k))) same (all_well image rows d (live_files c) told s.files) in
    let tested = recorded_all (IsWell image rows d) h.catalogue h.files h.recorded named in
    in_middle (IsWell image rows d) h.first.before h.first.file h.first.behind (subst (AllByRecursion (IsWell image rows d)) h.first.split tested) h.first.damaged
