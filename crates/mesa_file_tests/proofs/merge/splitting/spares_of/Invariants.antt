use Rattle.std.specs.List.{AllByRecursion}
use Rattle.mesa_file_tests.specs.Opened.{IsOpenedPart}
use Rattle.mesa_file_tests.proofs.merge.splitting.spares_of.Given as goal

abbrev pub invariant-pairs : goal.invariant-pairs
invariant-pairs g l = record {
  opened : AllByRecursion (IsOpenedPart g.R.FileReader.bytes l.files.older.file l.files.newer.file l.table.value) l.spare.items;
}
