-- Sources: the rows of a table as they were written, and what a recast carries them to.
use Rattle.std.specs.Prelude.{ℕ, List, map, filter, ◌&&◌, nat_le}
use Rattle.mesa_script.specs.mesa_columns.declared.rows.Row.{Row}
use Rattle.mesa_script.specs.mesa_columns.Columns.{aggs_of}
use Rattle.mesa_script.specs.mesa_schema.Changes.{Lineage, columns_at, columns_of, epoch_of, lifted}
use Rattle.mesa_script.specs.mesa_fold.Folded.{folded}
use Rattle.mesa_script.specs.mesa_schema.Recasts.{Recast, recast_lineage, recast_rows}

-- Rows of a table, and the epoch whose columns they have.
pub record Source : Type 0 where
  pub epoch : ℕ
  pub rows : List Row

-- Rows of a table as they were written, and the version that they made.
pub record Written : Type 0 where
  pub version : ℕ
  pub source : Source

abbrev pub version_written : Written → ℕ
version_written w = w.version

abbrev pub source_written : Written → Source
source_written w = w.source

-- ---- at an epoch

-- rows lifted to an epoch
abbrev pub source_at : Lineage → ℕ → Source → List Row
source_at l epoch s = map (lifted l s.epoch epoch) s.rows

-- rows lifted to the present epoch
abbrev pub rows_now : Lineage → Source → List Row
rows_now l s = source_at l (epoch_of l) s

-- The rows to which sources fold, in the columns of an epoch.
abbrev pub range_rows : Lineage → ℕ → List Source → List Row
range_rows l epoch sources = folded (aggs_of (columns_at l epoch)) (map (source_at l epoch) sources)

-- ---- of versions

-- what was written from one version to another
abbrev pub sources_from : ℕ → ℕ → List Written → List Source
sources_from from to written = map source_written (filter (λ (w : Written). nat_le from w.version && nat_le w.version to) written)

-- what was written up to a version
abbrev pub sources_to : ℕ → List Written → List Source
sources_to version written = map source_written (filter (λ (w : Written). nat_le w.version version) written)

-- ---- carried

-- Carrying: once their table is recast, rows stand grouped by its columns, in the epoch that it begins. A change leaves them as they are, with their epoch: they are lifted through it when they are read.
abbrev pub source_recast : Lineage → Recast → Source → Source
source_recast l r s = record { epoch = epoch_of (recast_lineage l r); rows = recast_rows (columns_of l) r (rows_now l s) }

abbrev pub written_recast : Lineage → Recast → Written → Written
written_recast l r w = record { version = w.version; source = source_recast l r w.source }
