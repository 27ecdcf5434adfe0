use Rattle.std.proofs.Common.{◌≡◌, drop, map}
use Rattle.std.specs.Prelude.{find}
use Rattle.mesa_columns.specs.declared.columns.ValueColumn.{ValueColumn}
use Rattle.mesa_columns.specs.Columns.{chosen, is_replace, places_in}
use Rattle.mesa_schema.proofs.choosing.replace_place.Given as goal

-- none of the columns so far is a replace column
abbrev pub invariant-loop-i : goal.invariant-loop-i
invariant-loop-i l =
    let all = map (λ (c : ValueColumn). c.name) l.columns in
    find is_replace (chosen (places_in all (drop l.i l.names)) l.columns) ≡ find is_replace (chosen (places_in all l.names) l.columns)
