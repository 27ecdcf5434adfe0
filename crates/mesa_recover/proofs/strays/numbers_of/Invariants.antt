use Rattle.std.proofs.Common.{◌≡◌, map, take}
use Rattle.mesa_catalog_table.specs.Files.{recorded_id}
use Rattle.mesa_recover.proofs.strays.numbers_of.Given as goal

abbrev pub invariant-loop-file : goal.invariant-loop-file
invariant-loop-file l = l.numbers.items ≡ map recorded_id (take l.file-index l.files)
