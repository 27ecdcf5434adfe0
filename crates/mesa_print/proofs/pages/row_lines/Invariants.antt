use Rattle.std.proofs.Common.{◌≡◌, drop, take, true}
use Rattle.std.specs.List.{AllByRecursion, flat_map}
use Rattle.mesa_key.specs.Spelling.{is_spelling}
use Rattle.mesa_columns.specs.declared.rows.Row.{Row}
use Rattle.mesa_script.specs.Rows.{row_line}
use Rattle.mesa_print.specs.Writing.{IsBetween, lines_written}
use Rattle.mesa_print.proofs.pages.row_lines.Given as goal

-- the lines of the rows so far are written, and the rows that are left have keys
abbrev pub invariant-rows : goal.invariant-rows
invariant-rows l = record {
  lines : lines_written l.writer ≡ flat_map (row_line l.kinds) (take l.row-index l.rows);
  between : IsBetween l.writer;
  keys : AllByRecursion (λ (row : Row). is_spelling l.kinds row.key ≡ true) (drop l.row-index l.rows);
}
