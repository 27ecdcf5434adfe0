-- The files of a catalogue, as a read gives them.
use Rattle.std.proofs.Common.{◌≡◌, ℕ, List, [], ◌∷◌, ◌++◌, map, length, refl, sym, ap, ◌∙◌, subst, Option, Some, None}
use Rattle.std.specs.Prelude.{◌==◌, flat_map, slice_get}
use Rattle.std.specs.List.{AllByRecursion}
use Rattle.mesa_query.specs.mesa_key.Order.{short_key}
use Rattle.mesa_schema.specs.Changes.{Lineage, columns_at, columns_of, epoch_of, lifted}
use Rattle.mesa_validate.specs.mesa_columns.Columns.{Columns}
use Rattle.mesa_validate.specs.mesa_columns.declared.rows.Row.{Row}
use Rattle.mesa_validate.specs.mesa_columns.declared.views.View.{View}
use Rattle.mesa_validate.proofs.mesa_columns.Lists.{all_found}
use Rattle.mesa_validate.proofs.mesa_catalog_records.Loads.{found_passes}
use Rattle.mesa_query.specs.mesa_block.Layout.{Layout}
use Rattle.mesa_catalog_table.specs.mesa_delta_format.File.{IsFile, file_bytes}
use Rattle.mesa_catalog_table.specs.mesa_delta_format.Spread.{blocks_of}
use Rattle.mesa_delta.specs.declared.input.Input.{Input}
use Rattle.mesa_disk.specs.Image.{Image, file_of}
use Rattle.mesa_validate.specs.mesa_store_spec.Catalog.{Delta}
use Rattle.mesa_validate.specs.mesa_store_spec.Contents.{Rows}
use Rattle.mesa_validate.specs.mesa_store_spec.Fitting.{LiveFile, columns_seen, delta_live, files_live, view_live}
use Rattle.mesa_validate.specs.mesa_store_spec.Sound.{IsTold, bytes_of}
use Rattle.mesa_validate.proofs.mesa_store_spec.Lists.{all_unmap, is_equal}
use Rattle.mesa_query.specs.mesa_merge.Inputs.{AreTold, known_of, knowns_of, IsTold as IsToldInput}
use Rattle.mesa_pick_files.specs.Read.{own_file, relation_read, view_read}
use Rattle.mesa_pick_files.specs.Told.{parts_known}
use Rattle.mesa_pick_files.proofs.Reading.{IsThere}
use Rattle.mesa_pick_files.specs.Files.{Seen, Want, files_seen, files_wanted, own_in, own_lineage, seen_by, table_wanted, view_file, view_wanted, want_in, want_of}
use Rattle.mesa_record.specs.declared.record.Files.{Files}
use Rattle.mesa_record.specs.declared.record.ViewRef.{ViewRef}
use Rattle.mesa_open_files.specs.Opening.{HaveOpened, IsOpened, wanted_layout}
use Rattle.mesa_open_files.specs.Pins.{relation_rows}
use Rattle.mesa_open_files.specs.declared.opening.Wanted.{Wanted}

-- a file that is wanted, with the columns of its rows
abbrev pub live_file_of : Want → LiveFile
live_file_of w = record { columns = columns_at w.lineage w.epoch; file = w.file }

-- the rows of a file by which a relation is read
abbrev pub rows_seen : Rows → Seen → List Row
rows_seen rows x = rows x.want.file.id

-- what they are in the relation
abbrev pub part_of : Rows → Option ℕ → Seen → List Row
part_of rows view x = relation_rows view x.want.lineage (map (lifted x.want.lineage x.want.epoch (epoch_of x.want.lineage)) (rows x.want.file.id)) x.own

module _ (rows : Rows) (image : Image) where
  -- A file's rows and its reference are true, and a read gives its bytes.
  abbrev pub IsGiven : LiveFile → Type 0
  IsGiven x = IsTold rows x × (file_of image x.file.id ≡ Some (bytes_of rows x))

  abbrev pub IsSeen : Seen → Type 0
  IsSeen x = IsGiven (live_file_of x.want)

  abbrev pub AreGiven : Lineage → Delta → Type 0
  AreGiven l d = AllByRecursion IsGiven (delta_live l d)

  -- ---- those by which a relation is read

  table_given : (l : Lineage) (ds : List Delta) → AllByRecursion (AreGiven l) ds → AllByRecursion IsSeen (map own_file (flat_map (table_wanted l) ds))
  table_given l [] all = tt
  table_given l (d ∷ ds) all = by d.files all.0 (table_given l ds all.1)
    where
      by : (o : Option Files) → AllByRecursion IsGiven (files_live l d.epoch o) → AllByRecursion IsSeen (map own_file (flat_map (table_wanted l) ds)) → AllByRecursion IsSeen (map own_file (files_wanted l d.epoch o ++ flat_map (table_wanted l) ds))
      by None its rest = rest
      by (Some f) its rest = (its.0, rest)

  view_given : (l : Lineage) (number : ℕ) (v : View) → slice_get l.views number ≡ Some v → (ds : List Delta) → AllByRecursion (AreGiven l) ds → AllByRecursion IsSeen (flat_map (view_wanted l (own_lineage l v) number) ds)
  view_given l number v there [] all = tt
  view_given l number v there (d ∷ ds) all = by d.files all.0 (view_given l number v there ds all.1)
    where
      one : (f : Files) (o : Option ViewRef) → view_file number f.views ≡ o → AllByRecursion IsGiven (files_live l d.epoch (Some f)) → IsSeen (seen_by l (own_lineage l v) d.epoch f o)
      one f None is its = its.0
      one f (Some ref) is its =
          let at : ref.view ≡ number = is_equal ref.view number (found_passes (λ (r : ViewRef). r.view == number) f.views ref is) in
          let own = all_found (λ (r : ViewRef). IsGiven (view_live l r)) (λ (r : ViewRef). r.view == number) f.views ref is (all_unmap IsGiven (view_live l) f.views its.1) in
          subst (λ (s : Columns). IsGiven (record { columns = s; file = ref.file })) (ap (λ n. columns_seen (columns_of l) (slice_get l.views n)) at ∙ ap (columns_seen (columns_of l)) there) own

      by : (o : Option Files) → AllByRecursion IsGiven (files_live l d.epoch o) → AllByRecursion IsSeen (flat_map (view_wanted l (own_lineage l v) number) ds)
          → AllByRecursion IsSeen (files_seen l (own_lineage l v) number d.epoch o ++ flat_map (view_wanted l (own_lineage l v) number) ds)
      by None its rest = rest
      by (Some f) its rest = (one f (view_file number f.views) refl its, rest)

  pub all_given : (l : Lineage) (view : Option ℕ) → IsThere l view → (ds : List Delta) → AllByRecursion (AreGiven l) ds → AllByRecursion IsSeen (relation_read l view ds)
  all_given l None there ds all = table_given l ds all
  all_given l (Some number) there ds all =
      subst (λ (o : Option View). AllByRecursion IsSeen (view_read l number ds o)) (sym there.1) (view_given l number there.0 there.1 ds all)

  -- ---- the inputs that read them

  module _ {R : Type 0} (bytes : R → Option (List ℕ)) (faults : R → ℕ) (told : Option Image) (is_told : told ≡ Some image) where
    one_told : (w : Wanted) (i : Input R) → IsOpened bytes faults told w i → IsGiven (live_file_of (want_of w)) → IsToldInput (known_of bytes i) (rows w.file.now.id)
    one_told w i o given =
        let its = rows w.file.now.id in
        let read = o.content image is_told in
        let found : Some read.0 ≡ Some (file_bytes (wanted_layout w) its) = sym read.1 ∙ given.1 in
        let same : read.0 ≡ file_bytes (wanted_layout w) its = cc in
        let index = o.index.1 in (
          read.0,
          read.2,
          record {
            file = subst (λ (s : Layout). IsFile s its read.0) (sym index.layout) (subst (IsFile (wanted_layout w) its) (sym same) given.0.file);
            over = o.input.over read.0 read.2;
            blocks = ap (λ (s : Layout). length (blocks_of s its)) index.layout ∙ sym given.0.true.blocks ∙ sym index.blocks;
            last = index.last ∙ ap short_key given.0.true.last;
          },
        )

    -- tell the rows of all
    pub all_told : (ws : List Wanted) (is : List (Input R)) (seen : List Seen) → map want_of ws ≡ map want_in seen → HaveOpened bytes faults told ws is None → AllByRecursion IsSeen seen
        → AreTold (knowns_of bytes is) (map (rows_seen rows) seen)
    all_told [] [] [] same have all = tt
    all_told [] [] (x ∷ seen) same have all = absurd cc
    all_told [] (i ∷ is) seen same have all = absurd have
    all_told (w ∷ ws) [] seen same have all = absurd have
    all_told (w ∷ ws) (i ∷ is) [] same have all = absurd cc
    all_told (w ∷ ws) (i ∷ is) (x ∷ seen) same have all =
        let first : want_of w ≡ x.want = cc in
        let others : map want_of ws ≡ map want_in seen = cc in (
          subst (λ (y : Want). IsToldInput (known_of bytes i) (rows y.file.id)) first (one_told w i have.0 (subst (λ (y : Want). IsGiven (live_file_of y)) (sym first) all.0)),
          all_told ws is seen others have.1 all.1,
        )

    -- and the parts that they are
    pub all_parts : (view : Option ℕ) (ws : List Wanted) (is : List (Input R)) (seen : List Seen) → map want_of ws ≡ map want_in seen → HaveOpened bytes faults told ws is None
        → parts_known view (knowns_of bytes is) (map own_in seen) (map (rows_seen rows) seen) ≡ map (part_of rows view) seen
    all_parts view [] [] [] same have = refl
    all_parts view [] [] (x ∷ seen) same have = absurd cc
    all_parts view [] (i ∷ is) seen same have = absurd have
    all_parts view (w ∷ ws) [] seen same have = absurd have
    all_parts view (w ∷ ws) (i ∷ is) [] same have = absurd cc
    all_parts view (w ∷ ws) (i ∷ is) (x ∷ seen) same have =
        let first : want_of w ≡ x.want = cc in
        let others : map want_of ws ≡ map want_in seen = cc in
        let lineage : i.evolving.value ≡ x.want.lineage = have.0.lineage ∙ ap (λ (y : Want). y.lineage) first in
        let epoch : i.epoch ≡ x.want.epoch = have.0.epoch ∙ ap (λ (y : Want). y.epoch) first in
        λ j. relation_rows view (lineage j) (map (lifted (lineage j) (epoch j) (epoch_of (lineage j))) (rows x.want.file.id)) x.own ∷ all_parts view ws is seen others have.1 j
