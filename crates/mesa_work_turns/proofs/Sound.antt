-- What the files of a range tell on a sound store.
use Rattle.std.proofs.Common.{◌≡◌, ℕ, ◌<◌, List, [], ◌∷◌, ◌++◌, length, map, refl, sym, subst, true, Option, None, Some}
use Rattle.std.specs.Prelude.{flat_map}
use Rattle.std.specs.List.{AllByRecursion}
use Rattle.mesa_file.specs.declared.damage.Damage.{Damage}
use Rattle.mesa_file.specs.declared.file_ref.FileRef.{FileRef}
use Rattle.mesa_write_turns.specs.mesa_columns.declared.rows.Row.{Row}
use Rattle.mesa_write_turns.specs.mesa_schema.Changes.{Lineage, columns_at}
use Rattle.mesa_open_files.specs.mesa_fold.Folded.{folded, folded_at, keys_of, rows_of}
use Rattle.mesa_read_turns.specs.mesa_value.declared.Agg.{Agg}
use Rattle.mesa_disk.specs.Image.{Image, file_of}
use Rattle.mesa_engine.specs.mesa_commit.Images.{Has}
use Rattle.mesa_delta.specs.declared.input.Input.{Input}
use Rattle.mesa_record.specs.declared.record.Files.{Files}
use Rattle.mesa_engine.specs.mesa_store_spec.Catalog.{Catalog, Delta, TableMeta, meta_at}
use Rattle.mesa_engine.specs.mesa_store_spec.Contents.{Rows}
use Rattle.mesa_engine.specs.mesa_store_spec.Fitting.{LiveFile, delta_live, deltas_of, files_live, live_files, meta_live}
use Rattle.mesa_engine.specs.mesa_store_spec.Sound.{HaveSoundRows, HasSoundRows, IsTold, bytes_of, wanted, wants}
use Rattle.mesa_engine.proofs.mesa_store_spec.Lists.{all_unflat, all_unmap, meta_found}
use Rattle.mesa_engine.proofs.Lists.{all_also}
use Rattle.mesa_read_turns.specs.mesa_pick_files.Files.{Want, files_wanted, table_wanted, want_of}
use Rattle.mesa_read_turns.specs.mesa_merge.Inputs.{AreTold, known_of, knowns_of, lifted_in, lifted_parts}
use Rattle.mesa_open_files.specs.Inputs.{present_parts}
use Rattle.mesa_open_files.specs.Inputs.{AreTold as AreToldInputs}
use Rattle.mesa_open_files.specs.Opening.{HaveOpened, wanted_columns}
use Rattle.mesa_open_files.specs.declared.opening.Wanted.{Wanted}

-- ---- lists

cons_none : {X : Type 0} (x : X) (xs : List X) → x ∷ xs ≡ [] → ⊥
cons_none x xs same = absurd cc

head_same : {X : Type 0} (x y : X) (xs ys : List X) → x ∷ xs ≡ y ∷ ys → x ≡ y
head_same x y xs ys same = cc

rest_same : {X : Type 0} (x y : X) (xs ys : List X) → x ∷ xs ≡ y ∷ ys → xs ≡ ys
rest_same x y xs ys same = cc

-- ---- files of deltas that are sound

-- A file is there with the bytes of its rows, of which its reference is true.
pub record IsSoundFile (rows : Rows) (i : Image) (x : LiveFile) : Type 0 where
  pub told : IsTold rows x
  pub there : file_of i x.file.id ≡ Some (bytes_of rows x)

abbrev pub IsSoundDelta : Rows → Image → Lineage → Delta → Type 0
IsSoundDelta rows i l d = AllByRecursion (IsSoundFile rows i) (delta_live l d)

-- so each file of a table of a catalogue whose files are there
pub sound_deltas : (rows : Rows) (i : Image) (c : Catalog) (table : ℕ) → table < length c.tables → HaveSoundRows rows c → Has (wants rows (live_files c)) i → AllByRecursion (IsSoundDelta rows i (meta_at c table).lineage) (deltas_of (meta_at c table))
sound_deltas rows i c table lt sound_rows has =
    let t = meta_at c table in
    let W = λ (x : LiveFile). file_of i x.file.id ≡ Some (bytes_of rows x) in
    let are = meta_found (HasSoundRows rows) c.tables table lt sound_rows in
    let there = meta_found (λ (u : TableMeta). AllByRecursion W (meta_live u)) c.tables table lt (all_unflat W meta_live c.tables (all_unmap (λ (w : ℕ × List ℕ). file_of i w.0 ≡ Some w.1) (wanted rows) (live_files c) has)) in
    all_unflat (IsSoundFile rows i) (delta_live t.lineage) (deltas_of t) (all_also (IsTold rows) W (IsSoundFile rows i) (meta_live t) (λ x told w. record { told = told; there = w }) are.files there)

-- ---- files that were opened

module _ {R : Type 0} (bytes : R → Option (List ℕ)) (faults : R → ℕ) (told : Option Image) (i : Image) (told_is : told ≡ Some i) (rows : Rows) (l : Lineage) where
  -- a file that is wanted is sound
  sound_want : (w : Wanted) (file : FileRef) (epoch : ℕ) → want_of w ≡ record { file = file; lineage = l; epoch = epoch } → IsSoundFile rows i (record { columns = columns_at l epoch; file = file }) → IsSoundFile rows i (record { columns = wanted_columns w; file = w.file.now })
  sound_want w file epoch same sound = subst (λ (x : Want). IsSoundFile rows i (record { columns = columns_at x.lineage x.epoch; file = x.file })) (sym same) sound

  -- ---- no damage was met

  module _ (epoch : ℕ) (more : List Want) (rest : (ws : List Wanted) (is : List (Input R)) (d : Option Damage) → map want_of ws ≡ more → HaveOpened bytes faults told ws is d → d ≡ None) where
    none_behind : (o : Option Files) → AllByRecursion (IsSoundFile rows i) (files_live l epoch o) → (ws : List Wanted) (is : List (Input R)) (d : Option Damage) → map want_of ws ≡ files_wanted l epoch o ++ more → HaveOpened bytes faults told ws is d → d ≡ None
    none_behind None all ws is d same have = rest ws is d same have
    none_behind (Some f) all [] is d same have = absurd (cons_none _ _ (sym same))
    none_behind (Some f) all (w ∷ ws) [] None same have = refl
    none_behind (Some f) all (w ∷ ws) [] (Some x) same have =
        let its = sound_want w f.file epoch (head_same _ _ _ _ same) all.0 in
        absurd (have.unsound i told_is (bytes_of rows (record { columns = wanted_columns w; file = w.file.now })) (rows w.file.now.id) its.there its.told.file its.told.true)
    none_behind (Some f) all (w ∷ ws) (j ∷ is) d same have = rest ws is d (rest_same _ _ _ _ same) have.1

  pub none_met : (ds : List Delta) → AllByRecursion (IsSoundDelta rows i l) ds → (ws : List Wanted) (is : List (Input R)) (d : Option Damage) → map want_of ws ≡ flat_map (table_wanted l) ds → HaveOpened bytes faults told ws is d → d ≡ None
  none_met [] all [] [] None same have = refl
  none_met [] all [] [] (Some x) same have = absurd have
  none_met [] all [] (j ∷ is) d same have = absurd have
  none_met [] all (w ∷ ws) is d same have = absurd (cons_none _ _ same)
  none_met (d ∷ ds) all ws is x same have = none_behind d.epoch (flat_map (table_wanted l) ds) (none_met ds all.1) d.files all.0 ws is x same have

-- ---- folds

-- inputs that are told, as a merge knows them, and their rows at present
pub told_inputs : {R : Type 0} (bytes : R → Option (List ℕ)) (is : List (Input R)) (parts : List (List Row)) → AreTold (knowns_of bytes is) parts → AreToldInputs bytes is parts
told_inputs bytes [] [] told = tt
told_inputs bytes [] (rows ∷ parts) told = absurd told
told_inputs bytes (i ∷ is) [] told = absurd told
told_inputs bytes (i ∷ is) (rows ∷ parts) told = (told.0, told_inputs bytes is parts told.1)

pub present_lifted : {R : Type 0} (bytes : R → Option (List ℕ)) (is : List (Input R)) (parts : List (List Row)) → present_parts is parts ≡ lifted_parts (knowns_of bytes is) parts
present_lifted bytes [] parts = refl
present_lifted bytes (i ∷ is) [] = refl
present_lifted bytes (i ∷ is) (rows ∷ parts) = λ k. map (lifted_in (known_of bytes i)) rows ∷ present_lifted bytes is parts k

-- parts with the same rows fold to the same
pub same_folded : (aggs : List Agg) (xs ys : List (List Row)) → rows_of xs ≡ rows_of ys → folded aggs xs ≡ folded aggs ys
same_folded aggs xs ys same = λ k. map (folded_at aggs (same k)) (keys_of (same k))
