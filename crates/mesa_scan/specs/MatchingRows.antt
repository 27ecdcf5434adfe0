-- The rows that meet a filter.
use Rattle.std.specs.Prelude.{List, filter}
use Rattle.mesa_delta.specs.mesa_key.Spelling.{key_of}
use Rattle.mesa_delta.specs.mesa_columns.declared.rows.Row.{Row}
use Rattle.mesa_filter.specs.Filter.{KeyFilter, meets}

-- the rows whose key meets a filter of their columns, in their order
abbrev pub matching_rows : KeyFilter → List Row → List Row
matching_rows f rows = filter (λ (row : Row). meets (key_of f.kinds row.key) f.terms) rows
