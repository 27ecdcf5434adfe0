-- What is tallied of rows.
use Rattle.std.specs.Prelude.{◌≡◌, List, length}
use Rattle.mesa_columns.specs.declared.rows.Row.{Row}
use Rattle.mesa_columns.specs.Columns.{Columns, aggs_of}
use Rattle.mesa_delta_format.specs.declared.tally.Tally.{Tally}
use Rattle.mesa_delta_format.specs.Tail.{first_key}
use Rattle.mesa_delta_format.specs.Summary.{last_key, aggregates}

-- The tally is of these rows.
pub record Tallies (s : Columns) (t : Tally) (written : List Row) : Type 0 where
  pub rows : t.rows ≡ length written
  pub first : t.first.items ≡ first_key written
  pub last : t.last.items ≡ last_key written
  pub totals : t.totals.items ≡ aggregates (aggs_of s) written
