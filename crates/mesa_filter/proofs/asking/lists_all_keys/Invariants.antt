use Rattle.std.proofs.Common.{◌≡◌, drop, map}
use Rattle.std.specs.Prelude.{◌==◌}
use Rattle.std.specs.List.{enumerate_from, list_all, list_any}
use Rattle.mesa_filter.specs.Asked.{lists_all_keys}
use Rattle.mesa_filter.proofs.asking.lists_all_keys.Given as goal

-- the key columns that are left decide
abbrev pub invariant-loop-place : goal.invariant-loop-place
invariant-loop-place l = list_all (λ place. list_any (λ c. c == place) l.columns) (map (λ p. p.0) (enumerate_from l.place (drop l.place l.schema.keys))) ≡ lists_all_keys l.schema l.columns
