-- Which ranges tell of a table's totals, and which ranges' rows are added up.
use Rattle.std.specs.Prelude.{List, [], Bool, true, false, if◌then◌else◌, is_some}
use Rattle.mesa_schema.specs.Changes.{Lineage}
use Rattle.mesa_pick_files.specs.mesa_columns.declared.rows.Row.{Row}
use Rattle.mesa_store_spec.specs.Contents.{present}
use Rattle.mesa_check.specs.Found.{Found, rows_found}
use Rattle.mesa_check.specs.Ranges.{Range}
use Rattle.mesa_check.specs.Ranges.{Base, Single, Cumulative}

-- a range may tell of a table's totals: the base, or a singleton with rows
abbrev pub tells_of : Range → Bool
tells_of r = elim (r.kind) [ Base ↦ true | Single ↦ is_some r.delta.files | Cumulative ↦ false ]

-- each range but a cumulative
abbrev pub is_counted : Range → Bool
is_counted r = elim (r.kind) [ Base ↦ true | Single ↦ true | Cumulative ↦ false ]

-- a range of one version behind the base
abbrev pub is_single : Range → Bool
is_single r = elim (r.kind) [ Base ↦ false | Single ↦ true | Cumulative ↦ false ]

-- the rows at present of a range that passes
abbrev pub rows_where : Found → Lineage → (Range → Bool) → Range → List Row
rows_where found l passes r = if passes r then present (rows_found found) l r.delta else []
