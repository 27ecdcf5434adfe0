-- Rows that are lent.
use Rattle.mesa_columns.specs.declared.rows.LentRow.{LentRow}
use Rattle.mesa_columns.specs.declared.rows.Row.{Row}

-- a lent row as a row
abbrev pub lent : LentRow → Row
lent r = record { key = r.key.now; values = r.values.now }
