use Rattle.std.proofs.Common.{◌≡◌, map, take}
use Rattle.mesa_catalog_table.specs.Copied.{loaded_as}
use Rattle.mesa_table_records.specs.Stated.{loaded_stated}
use Rattle.mesa_table_records.proofs.recasting.copy_singles.Given as goal

-- the versions so far
abbrev pub invariant-loop-single : goal.invariant-loop-single
invariant-loop-single l = map loaded_as l.loaded.items ≡ map loaded_stated (take l.single-index l.singles)
