use Rattle.std.proofs.Common.{◌≡◌, ◌++◌, drop}
use Rattle.mesa_model.specs.mesa_columns.Columns.{aggs_of, chosen}
use Rattle.mesa_answer.proofs.groups.chosen_aggs.Given as goal

-- the aggregations so far and those at the places that are left are all
abbrev pub invariant-loop-place : goal.invariant-loop-place
invariant-loop-place l = l.found.items ++ chosen (drop l.place-index l.places) (aggs_of l.schema) ≡ chosen l.places (aggs_of l.schema)
