-- What a recast brings of a table that is held: its base first, and then its singletons.
use Rattle.std.proofs.Common.{◌≡◌, ℕ, ◌+◌, ◌<◌, ◌≤◌, ◌^◌, List, ◌++◌, length, sym, ◌∙◌, ap, subst, arith, Option, Ok}
use Rattle.std.specs.Prelude.{IfSome, option_map}
use Rattle.std.specs.List.{AllByRecursion}
use Rattle.std.proofs.lemmas.List.{length-map, map-append}
use Rattle.mesa_pick_files.specs.mesa_schema.Changes.{columns_of}
use Rattle.mesa_pick_files.specs.mesa_schema.Recasts.{recast_checked}
use Rattle.mesa_pick_files.proofs.mesa_schema.LineageRecasts.{recast_allowed}
use Rattle.mesa_disk.specs.Files.{files_of}
use Rattle.mesa_disk.specs.declared.moving.Adoption.{Adoption}
use Rattle.mesa_engine.specs.mesa_commit.Holding.{Among}
use Rattle.mesa_record.specs.declared.checkpoint.CheckpointSingle.{CheckpointSingle}
use Rattle.mesa_record.specs.declared.record.Record.TheVariants as record_of
use Rattle.mesa_record.specs.declared.recasting.RecastBase.{RecastBase}
use Rattle.mesa_engine.specs.mesa_store_spec.Catalog.{TableMeta, start_in}
use Rattle.mesa_engine.specs.mesa_store_spec.Shape.{IsCatalog}
use Rattle.mesa_engine.specs.mesa_store_spec.Countable.{AreCounted}
use Rattle.mesa_engine.specs.mesa_store_spec.Ids.{named}
use Rattle.mesa_engine.specs.mesa_store_spec.Recordable.{AreRecordable}
use Rattle.mesa_engine.specs.EngineState.{EngineState, most_files, next_id}
use Rattle.mesa_pick_files.specs.Ranges.{HoldsAll}
use Rattle.mesa_catalog_table.specs.Meaning.{AreLoaded, IsTable, ending_of, singles_from, start_of_base, meta_of}
use Rattle.mesa_catalog_table.specs.declared.table.Base.{Base}
use Rattle.mesa_catalog_table.specs.declared.table.Table.{Table}
use Rattle.mesa_catalog_table.proofs.Works.{starts}
use Rattle.mesa_open_files.specs.Recasts.{AreRewritten, IsRecastTask, recast_in, recast_table}
use Rattle.mesa_open_files.specs.declared.recasting.Recast.{Recast}
use Rattle.mesa_open_files.specs.declared.recasting.RecastedRange.{RecastedRange}
use Rattle.mesa_file_records.specs.Adopted.{told_under}
use Rattle.mesa_file_records.proofs.Lists.{told_joined}
use Rattle.mesa_file_records.proofs.Told.{count_made}
use Rattle.mesa_file_records.specs.Grown.{HasSameColumns}
use Rattle.mesa_file_records.specs.Recasts.{AreSinglesRewritten, AreTaken, HasFileAt, HasFiles, IsBaseRewritten, IsRecastIn, Took, files_taken, rewritten_under, singles_in, meta_of_recast}
use Rattle.mesa_file_records.specs.declared.swapping.Swapped.{Swapped}
use Rattle.mesa_file_records.proofs.Bringing.{AreThere, fewer_left, still_all}
use Rattle.mesa_file_records.proofs.Covering.{base_below}
use Rattle.mesa_file_records.proofs.HeldFiles.{held_files}
use Rattle.mesa_file_records.proofs.HeldTables.{base_has, loaded_have}
use Rattle.mesa_file_records.proofs.Recorded.{ends_before, is_recast_in}
use Rattle.mesa_file_records.proofs.TakenFiles.{taken_joined}

-- as many files as were taken
taken_many : {M : Type 0} (bytes : M → Option (List ℕ)) (made : List (Adoption M)) (id : ℕ) (taken : List (Took M)) → files_of bytes made ≡ told_under bytes id (files_taken taken) → length made ≡ length taken
taken_many bytes made id taken files = count_made bytes made id (files_taken taken) files ∙ length-map taken (λ k. k.file)

-- the files of two lists, with ids that go on
pub files_joined : {M : Type 0} (bytes : M → Option (List ℕ)) (id : ℕ) (first rest : List (Took M)) → told_under bytes id (files_taken first) ++ told_under bytes (id + length first) (files_taken rest) ≡ told_under bytes id (files_taken (first ++ rest))
files_joined {M = M} bytes id first rest =
    sym
    (ap (told_under bytes id) (map-append (λ (k : Took M). k.file) first rest)
    ∙ told_joined bytes id (files_taken first) (files_taken rest)
    ∙ ap (λ n. told_under bytes id (files_taken first) ++ told_under bytes n (files_taken rest)) (let many = length-map first (λ (k : Took M). k.file) in let e : id + length (files_taken first) ≡ id + length first = omega (arith, many) in e))

-- The next epoch is a number of 32 bits.
pub epoch_fits : {R : Type 0} (read : R → Option (List ℕ)) (l : EngineState) (t : Recast R) → IsRecastTask read t → recast_checked (meta_of_recast l t).lineage (recast_in t) ≡ Ok tt → HasSameColumns (recast_table t) (meta_of_recast l t).lineage → t.epoch < 1000
epoch_fits read l t task allowed same =
    let room = (recast_allowed (meta_of_recast l t).lineage (recast_in t) allowed).room in
    let changes = ap length same.changes in
    omega (arith, room, changes, same.begins, task.epoch)

module _ {M R : Type 0} (bytes : M → Option (List ℕ)) (id_of : M → ℕ) (read : R → Option (List ℕ)) (l : EngineState) (t : Recast R) (table : Table) (meta : meta_of l.catalogue.next table ≡ meta_of_recast l t) (held : IsTable l.catalogue.next table)
    (ranges : List (RecastedRange M)) (are : AreRewritten bytes id_of read (columns_of (recast_table t)) (recast_in t) t.ranges.items ranges) (holds : HoldsAll t.ranges.items (meta_of_recast l t)) where
  abbrev now : TableMeta
  now = meta_of_recast l t

  abbrev next : ℕ
  next = l.catalogue.next

  ranges_have : HasFiles ranges now
  ranges_have = held_files bytes id_of read (columns_of (recast_table t)) (recast_in t) t.ranges.items ranges now are holds

  -- The base's range is there,
  pub its_base : IfSome table.base (λ (b : Base). HasFileAt ranges 0 b.to (ending_of b).delta.files)
  its_base = base_has ranges next table now meta ranges_have

  start : start_in now ≡ start_of_base table.base
  start = sym (ap start_in meta) ∙ starts next table

  base_same : option_map ending_of table.base ≡ now.base
  base_same = ap (λ (s : TableMeta). s.base) meta

  module _ (id : ℕ) (of_base : List (Took M)) (left : List (RecastedRange M)) (base : Option RecastBase) (first : AreTaken ranges of_base left) (is_base : IsBaseRewritten (option_map ending_of table.base) (rewritten_under id of_base) base) where
    -- and the singletons' are once it is taken.
    pub its_singles : AreThere left table.loaded.items
    its_singles =
        still_all ranges id of_base left (start_of_base table.base) next table.loaded.items first
        (subst (λ v. AllByRecursion (λ x. x.to < v) (rewritten_under id of_base)) (starts next table)
        (base_below (start_in (meta_of next table)) (option_map ending_of table.base) (rewritten_under id of_base) base (ends_before (option_map ending_of table.base)) is_base))
        held.loaded (loaded_have ranges next table now meta ranges_have held.loaded)

    module _ (of_singles : List (Took M)) (end : List (RecastedRange M)) (singles : List CheckpointSingle) (then : AreTaken left of_singles end) where
      all_fewer : length (of_base ++ of_singles) ≤ length ranges
      all_fewer = (let few = fewer_left ranges (of_base ++ of_singles) end (taken_joined ranges of_base left of_singles end first then) in omega (arith, few))

      -- What is told of its record.
      pub recast_is : id ≡ next_id l → AreSinglesRewritten (t.epoch + 1) (singles_in table.loaded.items) (rewritten_under (id + length of_base) of_singles) singles
          → IsCatalog l.catalogue → AreCounted l.catalogue → AreRecordable l.catalogue → IsRecastTask read t → t.table < length l.catalogue.tables → recast_checked now.lineage (recast_in t) ≡ Ok tt → HasSameColumns (recast_table t) now.lineage
          → ((m : ℕ) → Among m (named l.catalogue) → m < next_id l) → l.adopted + most_files < 2 ^ 40 → length ranges ≤ most_files → (keys values : List (List ℕ)) → keys ≡ t.keys → values ≡ t.values
          → (x : Swapped M) → x.entry ≡ record_of.Recast (record { table = t.table; epoch = t.epoch + 1; keys = keys; values = values; base = base; singles = singles })
          → files_of bytes x.made.items ≡ told_under bytes id (files_taken (of_base ++ of_singles)) → x.adopted ≡ l.adopted + length x.made.items → IsRecastIn bytes read l t x
      recast_is at are_singles shaped counted recordable task there allowed same given room few keys values keys_are values_are x entry files adopted =
          is_recast_in read l shaped counted recordable t task there allowed same of_base of_singles base singles table.loaded.items (subst (λ v. AreLoaded v next table.loaded.items) (sym start) held.loaded)
          (ap (λ v. singles_from v next table.loaded.items) start ∙ ap (λ (s : TableMeta). s.singles) meta)
          (subst (λ m. IsBaseRewritten now.base (rewritten_under m of_base) base) at (subst (λ old. IsBaseRewritten old (rewritten_under id of_base) base) base_same is_base))
          (subst (λ m. AreSinglesRewritten (t.epoch + 1) (singles_in table.loaded.items) (rewritten_under (m + length of_base) of_singles) singles) at are_singles)
          bytes id_of ranges are left end first then given room (let n = all_fewer in omega (arith, n, few)) x
          (entry ∙ (λ i. record_of.Recast (record { table = t.table; epoch = t.epoch + 1; keys = keys_are i; values = values_are i; base = base; singles = singles })))
          (files ∙ ap (λ m. told_under bytes m (files_taken (of_base ++ of_singles))) at) (let many = taken_many bytes x.made.items id (of_base ++ of_singles) files in omega (arith, adopted, many))
