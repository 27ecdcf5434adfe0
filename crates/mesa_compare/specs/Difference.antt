-- Where two lists of rows differ.
use lib.Pointwise.{pointwise}
use Rattle.std.specs.Prelude.{ℕ, List, ◌++◌, filter, Bool, not, ◌&&◌, Option, slice_get}
use Rattle.std.specs.List.{list_any}
use Rattle.std.specs.Ordering.{int_eq}
use Rattle.mesa_schema.specs.mesa_list.Bytes.{same_bytes}
use Rattle.mesa_schema.specs.mesa_columns.declared.rows.Row.{Row}
use Rattle.mesa_schema.specs.mesa_fold.Folded.{keys_of}

-- two rows have the same key and the same values
abbrev pub same_row : Row → Row → Bool
same_row a b = same_bytes a.key b.key && pointwise int_eq a.values b.values

-- one of the rows is this one
abbrev pub has_row : Row → List Row → Bool
has_row row rows = list_any (same_row row) rows

-- the rows of a list that another hasn't
abbrev pub rows_beside : List Row → List Row → List Row
rows_beside rows others = filter (λ row. not (has_row row others)) rows

-- The first key at which two lists of rows differ: the least key of a row that only one of them has.
abbrev pub first_difference : List Row → List Row → Option (List ℕ)
first_difference rows others = slice_get (keys_of (rows_beside rows others ++ rows_beside others rows)) 0

-- The next row of rows that go on so, if there is one.
abbrev pub next_of : List Row → Option Row
next_of rows = slice_get rows 0
