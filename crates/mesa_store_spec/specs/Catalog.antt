-- The catalogue: what the records of a journal say of the tables and their deltas.
use Rattle.std.specs.Prelude.{ℕ, ◌+◌, ◌-◌, List, [], ◌∷◌, ◌++◌, map, drop, max, replicate, find, Bool, true, false, ◌==◌, Option, Some, None, option_map, slice_index_or, slice_set}
use Rattle.mesa_history_spec.specs.mesa_columns.declared.changes.Change.{Change}
use Rattle.mesa_history_spec.specs.mesa_columns.Columns.{Columns, aggs_of}
use Rattle.mesa_history_spec.specs.mesa_schema.Changes.{Lineage, columns_of, with_change}
use Rattle.mesa_history_spec.specs.mesa_schema.Recasts.{Recast, recast_lineage}
use Rattle.mesa_history_spec.specs.mesa_schema.Views.{with_view}
use Rattle.mesa_history_spec.specs.mesa_batch.Totals.{sums_in, totals_after, totals_recast, totals_with}
use Rattle.mesa_history_spec.specs.mesa_span.declared.ranges.Ranges.{Ranges}
use Rattle.mesa_history_spec.specs.mesa_span.Ranges.{base_before, start_of}
use Rattle.mesa_record.specs.declared.record.Record.{Record}
use Rattle.mesa_record.specs.declared.record.Record.TheVariants as record_of
use Rattle.mesa_record.specs.declared.record.Files.{Files}
use Rattle.mesa_record.specs.declared.record.Part.{Part}
use Rattle.mesa_record.specs.declared.checkpoint.CheckpointSingle.{CheckpointSingle}
use Rattle.mesa_record.specs.declared.recasting.RecastBase.{RecastBase}
use Rattle.mesa_record.specs.declared.recasting.Recasting.{Recasting}

-- A delta: the epoch whose columns its rows have, its files, none where it has no rows, and for a singleton the absolute totals that were recorded for it.
pub record Delta : Type 0 where
  pub epoch : ℕ
  pub files : Option Files
  pub totals : Option (List ℕ)

-- A delta and the last version that it covers.
pub record Ending : Type 0 where
  pub to : ℕ
  pub delta : Delta

-- A table of the catalogue: its name, its columns through its life with its views, its absolute totals for each sum column, its oldest version that can be queried, its base, its cumulatives by rising ends, and a singleton for each version behind the base.
pub record TableMeta : Type 0 where
  pub name : List ℕ
  pub lineage : Lineage
  pub totals : List ℕ
  pub oldest : ℕ
  pub base : Option Ending
  pub cumulatives : List Ending
  pub singles : List Delta

-- The catalogue: its tables in the order in which they were made, the floor, which is the oldest version of a table when it is made, how many versions there were, and the number of the last run, 0 before the first.
pub record Catalog : Type 0 where
  pub tables : List TableMeta
  pub floor : ℕ
  pub next : ℕ
  pub run : ℕ

-- the catalogue before any record
abbrev pub empty_catalog : Catalog
empty_catalog = record { tables = []; floor = 0; next = 0; run = 0 }

-- a delta without rows, of which nothing more is known
abbrev pub empty_delta : Delta
empty_delta = record { epoch = 0; files = None; totals = None }

abbrev pub end_in : Ending → ℕ
end_in e = e.to

-- the ranges of a table's deltas
abbrev pub ranges_of : TableMeta → Ranges
ranges_of t = record { base_to = option_map end_in t.base; cumulatives = map end_in t.cumulatives }

-- the first version behind a table's base
abbrev pub start_in : TableMeta → ℕ
start_in t = start_of (ranges_of t)

-- what stands for a table that isn't there
abbrev pub no_meta : TableMeta
no_meta = record { name = []; lineage = record { begins = 0; first = record { keys = []; values = [] }; changes = []; views = [] }; totals = []; oldest = 0; base = None; cumulatives = []; singles = [] }

-- the table of a number
abbrev pub meta_at : Catalog → ℕ → TableMeta
meta_at c number = slice_index_or c.tables number no_meta

-- the catalogue with this table in the place of the one of a number
abbrev pub with_meta : Catalog → ℕ → TableMeta → Catalog
with_meta c number t = record c { tables = slice_set c.tables number t }

-- ---- what each record does

-- a base without rows to this version
abbrev pub empty_base : ℕ → Ending
empty_base to = record { to = to; delta = empty_delta }

-- a table without rows at each version from the floor on, with an empty base to the one before it
abbrev pub new_meta : Catalog → List ℕ → Columns → TableMeta
new_meta c name s = record {
  name = name;
  lineage = record { begins = 0; first = s; changes = []; views = [] };
  totals = replicate (sums_in (aggs_of s)) 0;
  oldest = c.floor;
  base = option_map empty_base (base_before c.floor);
  cumulatives = [];
  singles = replicate (c.next - c.floor) empty_delta;
}

-- a table with a view more
abbrev pub meta_viewed : TableMeta → List ℕ → List (List ℕ) → List (List ℕ) → TableMeta
meta_viewed t name keys values = record t { lineage = with_view t.lineage (record { name = name; keys = keys; values = values }) }

-- a table with a change of its columns more
abbrev pub meta_changed : TableMeta → Change → TableMeta
meta_changed t c = record t { lineage = with_change t.lineage c; totals = totals_after (columns_of t.lineage) c t.totals }

-- what a batch brings to a table, as a delta
abbrev pub part_delta : Part → Delta
part_delta p = record { epoch = p.epoch; files = Some p.files; totals = Some p.totals }

-- a table with a version more: what the batch brings to it, if anything
abbrev pub meta_loaded : TableMeta → Option Part → TableMeta
meta_loaded t None = record t { singles = t.singles ++ empty_delta ∷ [] }
meta_loaded t (Some p) = record t { totals = totals_with t.totals p.totals; singles = t.singles ++ part_delta p ∷ [] }

-- what a batch brings to the table of a number
abbrev pub part_of : ℕ → List Part → Option Part
part_of number parts = find (λ (p : Part). p.table == number) parts

-- the tables from a number on, each with what the batch brings to it
abbrev pub metas_loaded : List Part → ℕ → List TableMeta → List TableMeta
metas_loaded parts number [] = []
metas_loaded parts number (t ∷ tables) = meta_loaded t (part_of number parts) ∷ metas_loaded parts (number + 1) tables

-- a delta of merged rows
abbrev pub merged_delta : ℕ → Option Files → Delta
merged_delta epoch files = record { epoch = epoch; files = files; totals = None }

-- a table with a new base, which takes the place of every delta that starts at or before its end; or with one cumulative more
abbrev pub meta_swapped : TableMeta → Bool → ℕ → Delta → TableMeta
meta_swapped t true to d = record t { base = Some (record { to = to; delta = d }); cumulatives = []; singles = drop (to + 1 - start_in t) t.singles }
meta_swapped t false to d = record t { cumulatives = t.cumulatives ++ record { to = to; delta = d } ∷ [] }

-- what is told of a version with rows
abbrev pub single_stated : CheckpointSingle → Delta
single_stated s = record { epoch = s.epoch; files = Some s.files; totals = Some s.totals }

-- a singleton for each version from one on and below another: what is told of it, and a delta without rows where nothing is
abbrev pub singles_stated : ℕ → ℕ → List CheckpointSingle → List Delta
singles_stated from next [] = replicate (next - from) empty_delta
singles_stated from next (s ∷ singles) = replicate (s.version - from) empty_delta ++ single_stated s ∷ singles_stated (s.version + 1) next singles

-- the columns that a recast's record tells, by name and in this order
abbrev pub recast_in : Recasting → Recast
recast_in k = record { keys = k.keys; values = k.values }

-- the base that it tells, which is of the new epoch
abbrev pub base_recast : ℕ → RecastBase → Ending
base_recast epoch b = record { to = b.to; delta = merged_delta epoch b.files }

-- a table of other columns, with a base and singletons whose rows are grouped by them: the totals of kept sum columns stay, and the cumulatives go
abbrev pub meta_renewed : TableMeta → Recast → Option Ending → List Delta → TableMeta
meta_renewed t r base singles = record t {
  lineage = recast_lineage t.lineage r;
  totals = totals_recast (columns_of t.lineage) r t.totals;
  base = base;
  cumulatives = [];
  singles = singles;
}

-- the base and the singletons of a table, where there were so many versions, as a recast's record tells them
abbrev pub base_told : Recasting → Option Ending
base_told k = option_map (base_recast k.epoch) k.base

abbrev pub singles_told : ℕ → TableMeta → Recasting → List Delta
singles_told next t k = singles_stated (start_in t) next k.singles

-- a table that is recast
abbrev pub meta_recast : ℕ → TableMeta → Recasting → TableMeta
meta_recast next t k = meta_renewed t (recast_in k) (base_told k) (singles_told next t k)

-- a table without versions below one
abbrev pub meta_from : ℕ → TableMeta → TableMeta
meta_from version t = record t { oldest = max t.oldest version }

-- The catalogue after a record. A checkpoint is no later record: it leaves what stands.
abbrev pub applied : Catalog → Record → Catalog
applied c (record_of.Run number) = record c { run = number }
applied c (record_of.Table name keys values) = record c { tables = c.tables ++ new_meta c name (record { keys = keys; values = values }) ∷ [] }
applied c (record_of.View table name keys values) = with_meta c table (meta_viewed (meta_at c table) name keys values)
applied c (record_of.Alter table change) = with_meta c table (meta_changed (meta_at c table) change)
applied c (record_of.Publish version parts) = record c { tables = metas_loaded parts 0 c.tables; next = c.next + 1 }
applied c (record_of.Swap table base from to epoch files) = with_meta c table (meta_swapped (meta_at c table) base to (merged_delta epoch files))
applied c (record_of.Expire version) = record c { tables = map (meta_from version) c.tables; floor = version }
applied c (record_of.ExpireTable table version) = with_meta c table (meta_from version (meta_at c table))
applied c (record_of.Checkpoint k) = c
applied c (record_of.Recast k) = with_meta c k.table (meta_recast c.next (meta_at c k.table) k)
