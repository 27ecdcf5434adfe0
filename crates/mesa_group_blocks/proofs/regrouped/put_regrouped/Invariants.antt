use Rattle.std.proofs.Common.{◌≡◌, ◌++◌, List, map, take}
use Rattle.mesa_open_files.specs.mesa_columns.declared.rows.Row.{Row}
use Rattle.mesa_answer.specs.Gathered.{HasPut, wanted_of}
use Rattle.mesa_answer.specs.Regrouping.{row_under}
use Rattle.mesa_scan.specs.MatchingRows.{matching_rows}
use Rattle.mesa_group_blocks.proofs.regrouped.put_regrouped.Given as goal

-- the rows so far are looked at
abbrev pub invariant-block : goal.invariant-block
invariant-block l = record {
  put : (given : List Row) → HasPut l.fn.groups given → HasPut l.groups (given ++ matching_rows l.filter (map (row_under l.regrouping) (take l.i l.block)));
  wanted : wanted_of l.groups ≡ wanted_of l.fn.groups;
}
