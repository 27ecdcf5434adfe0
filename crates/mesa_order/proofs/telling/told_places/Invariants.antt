use Rattle.std.proofs.Common.{◌≡◌, ◌++◌, drop}
use Rattle.mesa_order.specs.Told.{kept_places}
use Rattle.mesa_order.proofs.telling.told_places.Given as goal

-- the places so far and those of the columns that are left are all
abbrev pub invariant-places : goal.invariant-places
invariant-places l = l.places.items ++ kept_places l.place (drop l.place l.columns) ≡ kept_places 0 l.columns
