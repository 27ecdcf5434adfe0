-- What is taken into a table.
use Rattle.std.specs.Prelude.{◌≡◌, ℕ, ◌<◌, ◌≤◌, ◌==◌, List, length, [], map, Bool, true, false, option_map, unwrap_or}
use Rattle.mesa_schema.specs.Changes.{Lineage, columns_of}
use Rattle.mesa_catalog_table.specs.mesa_columns.Columns.{key_names, value_names}
use Rattle.mesa_schema.specs.Recasts.{recast_lineage}
use Rattle.mesa_batch.specs.Totals.{totals_recast, totals_with}
use Rattle.mesa_catalog_table.specs.mesa_span.Ranges.{end_of}
use Rattle.mesa_key.specs.declared.Format.TheVariants as format
use Rattle.mesa_catalog_table.specs.mesa_record.declared.record.Files.{Files}
use Rattle.mesa_catalog_table.specs.mesa_record.declared.record.Part.{Part}
use Rattle.mesa_catalog_table.specs.mesa_record.declared.checkpoint.CheckpointSingle.{CheckpointSingle}
use Rattle.mesa_catalog_table.specs.mesa_record.declared.recasting.RecastBase.{RecastBase}
use Rattle.mesa_catalog_table.specs.mesa_record.declared.recasting.Recasting.{Recasting}
use Rattle.mesa_catalog_table.specs.mesa_store_spec.Catalog.{Delta, Ending, base_told, part_delta, recast_in}
use Rattle.mesa_catalog_table.specs.mesa_store_spec.Checkpoint.{totals_or_none}
use Rattle.mesa_catalog_table.specs.declared.table.Base.{Base}
use Rattle.mesa_catalog_table.specs.declared.table.Loaded.{Loaded}
use Rattle.mesa_catalog_table.specs.declared.table.Table.{Table}
use Rattle.mesa_table_records.specs.declared.ready.ReadyPart.{ReadyPart}
use Rattle.mesa_table_records.specs.declared.ready.ReadyRecast.{ReadyRecast}
use Rattle.mesa_catalog_table.specs.Copied.{loaded_as}
use Rattle.mesa_catalog_table.specs.Meaning.{ending_of, start_of_base, widths_of}
use Rattle.mesa_table_records.specs.Stated.{loaded_stated}

-- what stands for files that aren't there; the format of one that isn't there is arbitrary
abbrev no_files : Files
no_files = record { file = record { format = format.Two; id = 0; len = 0; rows = 0; blocks = 0; first = []; last = []; aggregates = []; digest = [] }; views = [] }

-- what a batch brings to a table
abbrev pub part_in : ReadyPart → Part
part_in p = record { table = p.table; epoch = p.delta.value.epoch; files = unwrap_or p.delta.value.files no_files; totals = unwrap_or p.delta.value.totals [] }

abbrev pub is_part_of : ℕ → ReadyPart → Bool
is_part_of number p = p.table == number

-- a part of a batch, made for this table
pub record IsPartOf (t : Table) (p : ReadyPart) : Type 0 where
  pub delta : p.delta.value ≡ part_delta (part_in p)
  pub totals : p.totals ≡ totals_with t.totals (part_in p).totals

-- a merged delta's end, as work may give it: a base's is behind the present base, and a cumulative's is that of the next ten
abbrev pub IsSwapOf : ℕ → Table → Bool → ℕ → Type 0
IsSwapOf next t true to = (start_of_base t.base ≤ to) × (to < next)
IsSwapOf next t false to = (to ≡ end_of (start_of_base t.base) (length t.cumulatives.items)) × (to < next)

-- ---- recasts

-- the base that a recast's record tells of an ending, and of a base that is held
abbrev pub base_named : Ending → RecastBase
base_named e = record { to = e.to; files = e.delta.files }

abbrev pub base_in : Base → RecastBase
base_in b = base_named (ending_of b)

-- what it tells of a version, and of one that is held
abbrev pub single_named : ℕ × Delta → CheckpointSingle
single_named p = record { version = p.0; epoch = p.1.epoch; files = unwrap_or p.1.files no_files; totals = totals_or_none p.1.totals }

abbrev pub single_in : Loaded → CheckpointSingle
single_in l = single_named (loaded_as l)

-- what a recast's record tells of a table
abbrev pub recasting_in : ℕ → ReadyRecast → Recasting
recasting_in table y = record {
  table = table;
  epoch = y.evolving.value.begins;
  keys = key_names y.evolving.value.first;
  values = value_names y.evolving.value.first;
  base = option_map base_in y.base;
  singles = map single_in y.loaded.items;
}

-- what a recast makes of a table of these columns and totals, as its record tells it
pub record IsRecast (l : Lineage) (totals : List ℕ) (y : ReadyRecast) (k : Recasting) : Type 0 where
  pub lineage : y.evolving.value ≡ recast_lineage l (recast_in k)
  pub widths : y.widths ≡ widths_of y.evolving.value
  pub totals_are : y.totals ≡ totals_recast (columns_of l) (recast_in k) totals
  pub base : option_map ending_of y.base ≡ base_told k
  pub loaded : map loaded_as y.loaded.items ≡ map loaded_stated k.singles
