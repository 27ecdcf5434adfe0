use Rattle.std.proofs.Common.{◌≡◌, map, take}
use Rattle.std.specs.Prelude.{flat_map}
use Rattle.mesa_digest.specs.Digests.{cell_bytes}
use Rattle.mesa_digest.specs.Places.{cell_at}
use Rattle.mesa_digest.proofs.naming.spell.Given as goal

-- the columns at the places so far are spelled
abbrev pub invariant-places : goal.invariant-places
invariant-places l = l.spelled.items ≡ flat_map cell_bytes (map (cell_at l.schema l.row) (take l.place-index l.naming.order.items))
