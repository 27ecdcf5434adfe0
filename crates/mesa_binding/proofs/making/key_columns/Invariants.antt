use Rattle.std.proofs.Common.{◌≡◌, ◌++◌, drop, map}
use Rattle.std.specs.List.{list_all}
use Rattle.mesa_model.specs.mesa_columns.declared.columns.KeyColumn.{KeyColumn}
use Rattle.mesa_model.specs.mesa_columns.Names.{is_name}
use Rattle.mesa_binding.specs.Asked.{keys_asked}
use Rattle.mesa_binding.proofs.making.key_columns.Given as goal

-- the columns so far and those that are left are all, and the names that are left decide
abbrev pub invariant-words : goal.invariant-words
invariant-words l =
    (l.keys ++ keys_asked (drop l.column-index l.words) ≡ keys_asked l.words)
    × (list_all is_name (map (λ (c : KeyColumn). c.name) (keys_asked (drop l.column-index l.words))) ≡ list_all is_name (map (λ (c : KeyColumn). c.name) (keys_asked l.words)))
