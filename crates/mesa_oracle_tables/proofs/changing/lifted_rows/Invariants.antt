use Rattle.std.proofs.Common.{◌≡◌, map, take}
use Rattle.mesa_answer.specs.mesa_columns.Lifting.{lifted_with}
use Rattle.mesa_oracle_tables.proofs.changing.lifted_rows.Given as goal

-- the rows so far are lifted
abbrev pub invariant-rows : goal.invariant-rows
invariant-rows l = l.lifted.items ≡ map (lifted_with l.lift) (take l.row-index l.rows)
