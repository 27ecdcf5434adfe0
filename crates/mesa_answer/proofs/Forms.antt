-- Rows have keys that spell their columns.
use Rattle.std.proofs.Common.{◌≡◌, true, sym, ◌∙◌, ap}
use Rattle.mesa_key.specs.Spelling.{is_spelling, key_of}
use Rattle.mesa_key.proofs.Keys.{spelling_passes}
use Rattle.mesa_model.specs.mesa_columns.declared.rows.Row.{Row}
use Rattle.mesa_model.specs.mesa_columns.Columns.{Columns, kinds_of}
use Rattle.mesa_model.specs.mesa_columns.Rows.{IsRowOf}

-- a row's key spells a key of its columns' types
pub row_spells : (s : Columns) (row : Row) → IsRowOf s row → is_spelling (kinds_of s) row.key ≡ true
row_spells s row h = ap (is_spelling (kinds_of s)) (sym h.spelled) ∙ spelling_passes (kinds_of s) (key_of (kinds_of s) row.key) h.key
