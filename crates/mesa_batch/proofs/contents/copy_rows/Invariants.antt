use Rattle.std.proofs.Common.{◌≡◌, ◌++◌, take}
use Rattle.mesa_batch.proofs.contents.copy_rows.Given as goal

-- the rows so far are added
abbrev pub invariant-rows : goal.invariant-rows
invariant-rows l = l.to ≡ l.fn.to ++ take l.row-index l.rows
