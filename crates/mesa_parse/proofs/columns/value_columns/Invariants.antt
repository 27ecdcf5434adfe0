use Rattle.std.proofs.Common.{◌≡◌, length}
use Rattle.mesa_list.specs.Checks.{each_of}
use Rattle.mesa_list.specs.Split.{entries_of}
use Rattle.mesa_script.specs.Words.{value_words}
use Rattle.mesa_parse.proofs.Steps.{ahead}
use Rattle.mesa_parse.proofs.columns.value_columns.Given as goal

-- the columns so far and those of the entries that are left are all of them
abbrev pub invariant-entries : goal.invariant-entries
invariant-entries l = ahead l.columns (each_of value_words l.entries) ≡ each_of value_words (entries_of l.field)

abbrev pub decreases-entries : goal.decreases-entries
decreases-entries l = length l.entries
