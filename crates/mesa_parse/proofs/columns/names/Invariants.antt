use Rattle.std.proofs.Common.{◌≡◌, ◌++◌, length}
use Rattle.mesa_list.specs.Split.{entries_of}
use Rattle.mesa_parse.proofs.columns.names.Given as goal

-- the names so far and the entries that are left are all of them
abbrev pub invariant-entries : goal.invariant-entries
invariant-entries l = l.names ++ l.entries ≡ entries_of l.field

abbrev pub decreases-entries : goal.decreases-entries
decreases-entries l = length l.entries
