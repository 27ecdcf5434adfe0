use Rattle.std.proofs.Common.{◌≡◌, ◌++◌, drop, map}
use Rattle.std.specs.List.{list_all}
use Rattle.mesa_model.specs.mesa_columns.declared.columns.ValueColumn.{ValueColumn}
use Rattle.mesa_model.specs.mesa_columns.Names.{is_name}
use Rattle.mesa_binding.specs.Asked.{values_asked}
use Rattle.mesa_binding.proofs.making.value_columns.Given as goal

-- the columns so far and those that are left are all, and the names that are left decide
abbrev pub invariant-words : goal.invariant-words
invariant-words l =
    (l.values ++ values_asked (drop l.column-index l.words) ≡ values_asked l.words)
    × (list_all is_name (map (λ (c : ValueColumn). c.name) (values_asked (drop l.column-index l.words))) ≡ list_all is_name (map (λ (c : ValueColumn). c.name) (values_asked l.words)))
