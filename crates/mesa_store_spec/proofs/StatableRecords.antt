-- Every record keeps what lets a checkpoint state a catalogue.
use Rattle.std.proofs.Common.{inl, inr, ℕ, zero, suc, ◌+◌, ◌-◌, List, [], ◌∷◌, map, replicate, Option, Some, None, Bool, true, false, refl, slice_index_or}
use Rattle.std.specs.Prelude.{option_map, IfSome}
use Rattle.std.specs.List.{AllByRecursion}
use Rattle.mesa_history_spec.specs.mesa_columns.Columns.{Columns}
use Rattle.mesa_history_spec.proofs.mesa_columns.Lists.{all_append, all_drop, all_map, all_set, all_so, all_replicate}
use Rattle.mesa_history_spec.specs.mesa_span.Ranges.{base_before}
use Rattle.mesa_record.specs.declared.record.Files.{Files}
use Rattle.mesa_record.specs.declared.record.Part.{Part}
use Rattle.mesa_record.specs.declared.record.Record.{Record}
use Rattle.mesa_record.specs.declared.record.Record.TheVariants as record_of
use Rattle.mesa_store_spec.specs.Catalog.{TableMeta, Catalog, empty_delta, empty_base, new_meta, no_meta, meta_at, part_delta, part_of, meta_loaded, metas_loaded, meta_swapped, meta_viewed, meta_changed, meta_from, merged_delta, applied, base_recast, start_in, meta_recast}
use Rattle.mesa_record.specs.declared.checkpoint.CheckpointRange.{CheckpointRange}
use Rattle.mesa_record.specs.declared.checkpoint.CheckpointSingle.{CheckpointSingle}
use Rattle.mesa_record.specs.declared.checkpoint.CheckpointTable.{CheckpointTable}
use Rattle.mesa_record.specs.declared.checkpoint.Checkpoint.{Checkpoint}
use Rattle.mesa_record.specs.declared.recasting.RecastBase.{RecastBase}
use Rattle.mesa_record.specs.declared.recasting.Recasting.{Recasting}
use Rattle.mesa_store_spec.specs.Checkpoint.{range_stated, single_stated, singles_stated, start_stated, meta_stated, stated}
use Rattle.mesa_store_spec.specs.Statable.{IsSingle, IsUncounted, IsStatable, AreStatable}

-- ---- what a checkpoint states

empties : (n : ℕ) → AllByRecursion IsSingle (replicate n empty_delta)
empties n = all_replicate IsSingle empty_delta n (inl refl)

singles_stated_so : (from next : ℕ) (singles : List CheckpointSingle) → AllByRecursion IsSingle (singles_stated from next singles)
singles_stated_so from next [] = empties (next - from)
singles_stated_so from next (s ∷ singles) =
    all_append IsSingle (replicate (s.version - from) empty_delta) (single_stated s ∷ singles_stated (s.version + 1) next singles) (empties (s.version - from))
    (inr (record { own = s.files; counts = s.totals; files = refl; totals = refl }), singles_stated_so (s.version + 1) next singles)

base_stated_so : (o : Option CheckpointRange) → IfSome (option_map range_stated o) IsUncounted
base_stated_so None = tt
base_stated_so (Some r) = refl

ranges_stated_so : (rs : List CheckpointRange) → AllByRecursion IsUncounted (map range_stated rs)
ranges_stated_so [] = tt
ranges_stated_so (r ∷ rs) = (refl, ranges_stated_so rs)

tables_stated_so : (next : ℕ) (ts : List CheckpointTable) → AllByRecursion IsStatable (map (meta_stated next) ts)
tables_stated_so next [] = tt
tables_stated_so next (t ∷ ts) =
    (record { base = base_stated_so t.base; cumulatives = ranges_stated_so t.cumulatives; singles = singles_stated_so (start_stated t) next t.singles }, tables_stated_so next ts)

pub stated_so : (k : Checkpoint) → AreStatable (stated k)
stated_so k = tables_stated_so k.versions k.tables

-- ---- what records keep

empty_base_so : (o : Option ℕ) → IfSome (option_map empty_base o) IsUncounted
empty_base_so None = tt
empty_base_so (Some to) = refl

new_so : (c : Catalog) (name : List ℕ) (s : Columns) → IsStatable (new_meta c name s)
new_so c name s = record { base = empty_base_so (base_before c.floor); cumulatives = tt; singles = empties (c.next - c.floor) }

found_so : (tables : List TableMeta) (n : ℕ) → AllByRecursion IsStatable tables → IsStatable (slice_index_or tables n no_meta)
found_so [] n all = record { base = tt; cumulatives = tt; singles = tt }
found_so (t ∷ tables) zero all = all.0
found_so (t ∷ tables) (suc n) all = found_so tables n all.1

loaded_so : (t : TableMeta) (p : Option Part) → IsStatable t → IsStatable (meta_loaded t p)
loaded_so t None is = record { base = is.base; cumulatives = is.cumulatives; singles = all_append IsSingle t.singles (empty_delta ∷ []) is.singles (inl refl, tt) }
loaded_so t (Some p) is = record {
  base = is.base;
  cumulatives = is.cumulatives;
  singles = all_append IsSingle t.singles (part_delta p ∷ []) is.singles (inr (record { own = p.files; counts = p.totals; files = refl; totals = refl }), tt);
}

all_loaded_so : (parts : List Part) (number : ℕ) (tables : List TableMeta) → AllByRecursion IsStatable tables → AllByRecursion IsStatable (metas_loaded parts number tables)
all_loaded_so parts number [] all = tt
all_loaded_so parts number (t ∷ tables) all = (loaded_so t (part_of number parts) all.0, all_loaded_so parts (number + 1) tables all.1)

swapped_so : (t : TableMeta) (base : Bool) (to epoch : ℕ) (files : Option Files) → IsStatable t → IsStatable (meta_swapped t base to (merged_delta epoch files))
swapped_so t true to epoch files is = record { base = refl; cumulatives = tt; singles = all_drop IsSingle (to + 1 - start_in t) t.singles is.singles }
swapped_so t false to epoch files is = record { base = is.base; cumulatives = all_append IsUncounted t.cumulatives (record { to = to; delta = merged_delta epoch files } ∷ []) is.cumulatives (refl, tt); singles = is.singles }

from_so : (version : ℕ) (t : TableMeta) → IsStatable t → IsStatable (meta_from version t)
from_so version t is = record { base = is.base; cumulatives = is.cumulatives; singles = is.singles }

recast_so : (next : ℕ) (t : TableMeta) (k : Recasting) → IsStatable (meta_recast next t k)
recast_so next t k = record { base = by k.base; cumulatives = tt; singles = singles_stated_so (start_in t) next k.singles }
  where
    by : (o : Option RecastBase) → IfSome (option_map (base_recast k.epoch) o) IsUncounted
    by None = tt
    by (Some b) = refl

pub applied_so : (c : Catalog) (r : Record) → AreStatable c → AreStatable (applied c r)
applied_so c (record_of.Run number) is = is
applied_so c (record_of.Table name keys values) is = all_append IsStatable c.tables (new_meta c name (record { keys = keys; values = values }) ∷ []) is (new_so c name (record { keys = keys; values = values }), tt)
applied_so c (record_of.View table name keys values) is =
    let t = found_so c.tables table is in
    all_set IsStatable c.tables table (meta_viewed (meta_at c table) name keys values) (record { base = t.base; cumulatives = t.cumulatives; singles = t.singles }) is
applied_so c (record_of.Alter table change) is =
    let t = found_so c.tables table is in
    all_set IsStatable c.tables table (meta_changed (meta_at c table) change) (record { base = t.base; cumulatives = t.cumulatives; singles = t.singles }) is
applied_so c (record_of.Publish version parts) is = all_loaded_so parts 0 c.tables is
applied_so c (record_of.Swap table base from to epoch files) is =
    all_set IsStatable c.tables table (meta_swapped (meta_at c table) base to (merged_delta epoch files)) (swapped_so (meta_at c table) base to epoch files (found_so c.tables table is)) is
applied_so c (record_of.Expire version) is = all_map IsStatable (meta_from version) c.tables (all_so IsStatable (λ t. IsStatable (meta_from version t)) c.tables (from_so version) is)
applied_so c (record_of.ExpireTable table version) is =
    all_set IsStatable c.tables table (meta_from version (meta_at c table)) (from_so version (meta_at c table) (found_so c.tables table is)) is
applied_so c (record_of.Checkpoint k) is = is
applied_so c (record_of.Recast k) is = all_set IsStatable c.tables k.table (meta_recast c.next (meta_at c k.table) k) (recast_so c.next (meta_at c k.table) k) is
