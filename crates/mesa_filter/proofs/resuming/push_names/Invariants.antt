use Rattle.std.proofs.Common.{◌≡◌, ◌++◌, drop, map}
use Rattle.std.specs.List.{join_with_byte}
use Rattle.mesa_fold.specs.mesa_columns.declared.columns.KeyColumn.{KeyColumn}
use Rattle.mesa_fold.specs.mesa_columns.Columns.{chosen}
use Rattle.mesa_filter.proofs.Joins.{rest_from}
use Rattle.mesa_filter.proofs.resuming.push_names.Given as goal

-- the names so far and those of the places that are left are all
abbrev pub invariant-loop-i : goal.invariant-loop-i
invariant-loop-i l =
    let names = map (λ (c : KeyColumn). c.name) l.columns in
    l.text.items ++ rest_from l.i (chosen (drop l.i l.places) names) ≡ l.fn.text.items ++ join_with_byte 59 (chosen l.places names)
