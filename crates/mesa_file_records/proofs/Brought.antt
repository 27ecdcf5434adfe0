-- The files that a recast's record brings are those of the ranges that were taken, in their order.
use Rattle.std.proofs.Common.{◌≡◌, ℕ, zero, suc, ◌+◌, ◌-◌, List, [], ◌∷◌, ◌++◌, map, flat_map, length, replicate, refl, sym, ◌∙◌, ap, arith, Option, Some, None}
use Rattle.std.specs.Prelude.{option_map}
use Rattle.std.specs.List.{AllByRecursion}
use Rattle.std.proofs.lemmas.List.Concat.{flat_map-append}
use Rattle.mesa_pick_files.specs.mesa_schema.Changes.{Lineage, columns_of}
use Rattle.mesa_columns.specs.Columns.{Columns}
use Rattle.mesa_pick_files.specs.mesa_schema.Recasts.{recast_columns, recast_lineage}
use Rattle.mesa_pick_files.specs.mesa_schema.Recasts.{Recast as Asked}
use Rattle.mesa_pick_files.proofs.mesa_schema.LineageRecasts.{columns_first}
use Rattle.mesa_file.specs.declared.file_ref.FileRef.{FileRef}
use Rattle.mesa_record.specs.declared.record.Files.{Files}
use Rattle.mesa_record.specs.declared.checkpoint.CheckpointSingle.{CheckpointSingle}
use Rattle.mesa_record.specs.declared.recasting.RecastBase.{RecastBase}
use Rattle.mesa_engine.specs.mesa_commit.Turn.{told_files}
use Rattle.mesa_pick_files.specs.mesa_delta_format.File.{file_bytes}
use Rattle.mesa_pick_files.specs.mesa_delta_format.Summary.{file_layout}
use Rattle.mesa_engine.specs.mesa_store_spec.Catalog.{Delta, Ending, base_recast, empty_delta, single_stated, singles_stated}
use Rattle.mesa_engine.specs.mesa_store_spec.Contents.{Rows}
use Rattle.mesa_engine.specs.mesa_store_spec.Fitting.{LiveFile, base_deltas, delta_own, own_live, live_id}
use Rattle.mesa_engine.specs.mesa_store_spec.Sound.{IsTold, wants}
use Rattle.mesa_engine.specs.mesa_store_spec.Rewritten.{Rewritten}
use Rattle.mesa_file_records.specs.Adopted.{ref_under, told_under}
use Rattle.mesa_file_records.proofs.Lists.{ids_from}
use Rattle.mesa_file_records.specs.Recasts.{AreSinglesRewritten, IsBaseRewritten, IsEndingRewritten, Took, files_taken, rewritten_under, with_file}
use Rattle.mesa_file_records.proofs.TakenFiles.{AllFrom}

-- the files of ranges that were taken, with ids from one on
abbrev pub taken_live : {M : Type 0} → Columns → ℕ → List (Took M) → List LiveFile
taken_live s id [] = []
taken_live s id (k ∷ taken) = record { columns = s; file = ref_under id k.file } ∷ taken_live s (id + 1) taken

pub live_joined : {M : Type 0} (s : Columns) (id : ℕ) (first rest : List (Took M)) → taken_live s id (first ++ rest) ≡ taken_live s id first ++ taken_live s (id + length first) rest
live_joined s id [] rest = ap (λ n. taken_live s n rest) (let e : id ≡ id + 0 = omega arith in e)
live_joined s id (k ∷ first) rest =
    ap (λ (more : List LiveFile). record { columns = s; file = ref_under id k.file } ∷ more)
    (live_joined s (id + 1) first rest ∙ ap (λ n. taken_live s (id + 1) first ++ taken_live s n rest) (let e : id + 1 + length first ≡ id + suc (length first) = omega arith in e))

pub rewritten_joined : {M : Type 0} (id : ℕ) (first rest : List (Took M)) → rewritten_under id (first ++ rest) ≡ rewritten_under id first ++ rewritten_under (id + length first) rest
rewritten_joined id [] rest = ap (λ n. rewritten_under n rest) (let e : id ≡ id + 0 = omega arith in e)
rewritten_joined id (k ∷ first) rest =
    ap (λ (more : List Rewritten). record { from = k.range.from; to = k.range.to; file = Some (ref_under id k.file); totals = k.range.totals } ∷ more)
    (rewritten_joined (id + 1) first rest ∙ ap (λ n. rewritten_under (id + 1) first ++ rewritten_under n rest) (let e : id + 1 + length first ≡ id + suc (length first) = omega arith in e))

-- ---- what the record brings

module _ (l : Lineage) (r : Asked) (epoch : ℕ) where
  abbrev s : Columns
  s = recast_columns (columns_of l) r

  abbrev own : Delta → List LiveFile
  own d = delta_own (recast_lineage l r) d

  one_own : (f : Files) (file : FileRef) → own_live (recast_lineage l r) epoch (Some (with_file f file)) ≡ record { columns = s; file = file } ∷ []
  one_own f file = ap (λ (c : Columns). record { columns = c; file = file } ∷ []) (columns_first l r epoch)

  ending_own : {M : Type 0} (to : ℕ) (files : Option Files) (id : ℕ) (taken : List (Took M)) (b : Option RecastBase) → IsEndingRewritten to files (rewritten_under id taken) b → flat_map own (base_deltas (option_map (base_recast epoch) b)) ≡ taken_live s id taken
  ending_own to None id [] b is = ap (λ (o : Option RecastBase). flat_map own (base_deltas (option_map (base_recast epoch) o))) is
  ending_own to None id (k ∷ taken) b is = absurd is
  ending_own to (Some f) id [] b is = absurd is
  ending_own to (Some f) id (k ∷ []) b is =
      let same : is.1 ≡ ref_under id k.file = (let e = is.2 in cc) in
      ap (λ (o : Option RecastBase). flat_map own (base_deltas (option_map (base_recast epoch) o))) is.5
      ∙ ap (λ (files : List LiveFile). files ++ []) (one_own f is.1) ∙ ap (λ (file : FileRef). record { columns = s; file = file } ∷ []) same
  ending_own to (Some f) id (k ∷ x ∷ taken) b is = absurd (let never = is.0 in cc)

  pub base_own : {M : Type 0} (old : Option Ending) (id : ℕ) (taken : List (Took M)) (b : Option RecastBase) → IsBaseRewritten old (rewritten_under id taken) b → flat_map own (base_deltas (option_map (base_recast epoch) b)) ≡ taken_live s id taken
  base_own None id [] b is = ap (λ (o : Option RecastBase). flat_map own (base_deltas (option_map (base_recast epoch) o))) is
  base_own None id (k ∷ taken) b is = absurd is
  base_own (Some e) id taken b is = ending_own e.to e.delta.files id taken b is

  -- versions that brought nothing bring nothing
  none_own : (n : ℕ) (ds : List Delta) → flat_map own (replicate n empty_delta ++ ds) ≡ flat_map own ds
  none_own zero ds = refl
  none_own (suc n) ds = none_own n ds

  nothing_own : (n : ℕ) → flat_map own (replicate n empty_delta) ≡ []
  nothing_own zero = refl
  nothing_own (suc n) = nothing_own n

  told_own : (from next : ℕ) (ss : List CheckpointSingle) → flat_map own (singles_stated from next ss) ≡ flat_map (λ (x : CheckpointSingle). own (single_stated x)) ss
  told_own from next [] = nothing_own (next - from)
  told_own from next (x ∷ ss) = none_own (x.version - from) (single_stated x ∷ singles_stated (x.version + 1) next ss) ∙ ap (λ (more : List LiveFile). own (single_stated x) ++ more) (told_own (x.version + 1) next ss)

  each_own : {M : Type 0} (sources : List (ℕ × Files)) (id : ℕ) (taken : List (Took M)) (ss : List CheckpointSingle) → AreSinglesRewritten epoch sources (rewritten_under id taken) ss → flat_map (λ (x : CheckpointSingle). own (single_stated x)) ss ≡ taken_live s id taken
  each_own [] id [] [] is = refl
  each_own [] id [] (x ∷ ss) is = absurd is
  each_own [] id (k ∷ taken) ss is = absurd is
  each_own (f ∷ sources) id [] ss is = absurd is
  each_own (f ∷ sources) id (k ∷ taken) [] is = absurd is
  each_own (f ∷ sources) id (k ∷ taken) (x ∷ ss) is =
      let one = is.0 in
      let same : one.file ≡ ref_under id k.file = (let e = one.has in cc) in
      let here : own (single_stated x) ≡ record { columns = s; file = ref_under id k.file } ∷ [] =
      ap (λ (y : CheckpointSingle). own (single_stated y)) one.told ∙ one_own f.1 one.file ∙ ap (λ (file : FileRef). record { columns = s; file = file } ∷ []) same in
      λ i. here i ++ each_own sources (id + 1) taken ss is.1 i

  -- The record of ranges that were taken brings their files.
  pub brought_own : {M : Type 0} (old : Option Ending) (sources : List (ℕ × Files)) (id start next : ℕ) (of_base of_singles : List (Took M)) (b : Option RecastBase) (ss : List CheckpointSingle)
      → IsBaseRewritten old (rewritten_under id of_base) b → AreSinglesRewritten epoch sources (rewritten_under (id + length of_base) of_singles) ss
      → flat_map own (base_deltas (option_map (base_recast epoch) b) ++ singles_stated start next ss) ≡ taken_live s id (of_base ++ of_singles)
  brought_own old sources id start next of_base of_singles b ss base singles =
      flat_map-append own (base_deltas (option_map (base_recast epoch) b)) (singles_stated start next ss)
      ∙ (λ i. base_own old id of_base b base i ++ (told_own start next ss ∙ each_own sources (id + length of_base) of_singles ss singles) i)
      ∙ sym (live_joined s id of_base of_singles)

-- ---- what is told of them

pub live_ids : {M : Type 0} (s : Columns) (id : ℕ) (taken : List (Took M)) → map live_id (taken_live s id taken) ≡ ids_from id (files_taken taken)
live_ids s id [] = refl
live_ids s id (k ∷ taken) = ap (λ (ids : List ℕ). id ∷ ids) (live_ids s (id + 1) taken)

-- each has a true reference
pub live_told : {M : Type 0} (s : Columns) (rows : Rows) (id : ℕ) (taken : List (Took M)) → AllFrom (λ n (k : Took M). IsTold rows (record { columns = s; file = ref_under n k.file })) id taken → AllByRecursion (IsTold rows) (taken_live s id taken)
live_told s rows id [] all = tt
live_told s rows id (k ∷ taken) all = (all.0, live_told s rows (id + 1) taken all.1)

-- and the bytes of its rows
pub live_file_list : {M : Type 0} (bytes : M → Option (List ℕ)) (s : Columns) (rows : Rows) (id : ℕ) (taken : List (Took M))
    → AllFrom (λ n (k : Took M). bytes k.file.made ≡ Some (file_bytes (file_layout s (ref_under n k.file)) (rows n))) id taken → told_under bytes id (files_taken taken) ≡ told_files (wants rows (taken_live s id taken))
live_file_list bytes s rows id [] all = refl
live_file_list bytes s rows id (k ∷ taken) all = λ i. (id, all.0 i) ∷ live_file_list bytes s rows (id + 1) taken all.1 i
