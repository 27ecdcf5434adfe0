use Rattle.std.proofs.Common.{◌≡◌, map, reverse, take, drop}
use Rattle.mesa_columns.specs.Names.{repeated, repeated_after}
use Rattle.mesa_columns.proofs.named.repeated_place.Given as goal

-- none of the names so far was there before
abbrev pub invariant-loop-i : goal.invariant-loop-i
invariant-loop-i g l =
    let names = map g.N.Named.name_of l.names in
    repeated_after (reverse (take l.i names)) (drop l.i names) ≡ repeated names
