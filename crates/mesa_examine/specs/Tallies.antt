-- What the rows of a file come to, tallied row by row.
use Rattle.std.specs.Prelude.{◌≡◌, ℕ, List, length, map}
use Rattle.mesa_open_files.specs.mesa_columns.declared.rows.Row.{Row}
use Rattle.mesa_open_files.specs.mesa_columns.Columns.{Columns, aggs_of}
use Rattle.mesa_open_files.specs.mesa_columns.Lifting.{lifted_with}
use Rattle.mesa_open_files.specs.mesa_columns.declared.lifting.Lift.{Lift}
use Rattle.mesa_open_files.specs.mesa_file.declared.file_ref.FileRef.{FileRef}
use Rattle.mesa_open_files.specs.mesa_delta_format.Tail.{first_key}
use Rattle.mesa_open_files.specs.mesa_delta_format.Summary.{aggregates as aggregates_of, last_key}
use Rattle.mesa_examine.specs.Sums.{AreTotals}
use Rattle.mesa_examine.specs.declared.tally.Ends.{Ends}
use Rattle.mesa_examine.specs.declared.tally.Tally.{Tally}

-- The count, the first and last key and the aggregates are those of these rows.
pub record AreEnds (s : Columns) (t : Ends) (read : List Row) : Type 0 where
  pub rows : t.rows ≡ length read
  pub first : t.first.items ≡ first_key read
  pub last : t.last.items ≡ last_key read
  pub aggregates : t.aggregates.items ≡ aggregates_of (aggs_of s) read

-- So are the totals, of the rows and of the rows as they are lifted to so many value columns.
pub record Tallies (s : Columns) (lift : Lift) (width : ℕ) (t : Tally) (read : List Row) : Type 0 where
  pub ends : AreEnds s t.ends read
  pub own : AreTotals (length s.values) t.own.items read
  pub present : AreTotals width t.present.items (map (lifted_with lift) read)

-- A reference tells these rows' count, first and last key and aggregates.
pub record IsToldOf (s : Columns) (read : List Row) (file : FileRef) : Type 0 where
  pub rows : file.rows ≡ length read
  pub first : file.first ≡ first_key read
  pub last : file.last ≡ last_key read
  pub aggregates : file.aggregates ≡ aggregates_of (aggs_of s) read
