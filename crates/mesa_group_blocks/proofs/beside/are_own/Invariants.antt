use Rattle.std.proofs.Common.{◌≡◌, take, true}
use Rattle.std.specs.List.{AllByRecursion}
use Rattle.mesa_open_files.specs.declared.querying.PinnedInput.{PinnedInput}
use Rattle.mesa_group_blocks.proofs.beside.are_own.Given as goal

abbrev pub invariant-each_file : goal.invariant-each_file
invariant-each_file g l = AllByRecursion (λ (file : PinnedInput g.row.R.Denot). file.own ≡ true) (take l.i l.files)
