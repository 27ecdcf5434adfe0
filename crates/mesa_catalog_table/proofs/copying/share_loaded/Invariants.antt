use Rattle.std.proofs.Common.{◌≡◌, map, take}
use Rattle.mesa_catalog_table.specs.Copied.{loaded_as}
use Rattle.mesa_catalog_table.proofs.copying.share_loaded.Given as goal

-- the versions so far
abbrev pub invariant-loop-single : goal.invariant-loop-single
invariant-loop-single l = map loaded_as l.shared.items ≡ map loaded_as (take l.single-index l.loaded)
