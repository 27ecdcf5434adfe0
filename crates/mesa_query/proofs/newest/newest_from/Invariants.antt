use Rattle.mesa_group_blocks.specs.mesa_answer.Gathered.{key_at_hand, wanted_of}
use Rattle.mesa_query.proofs.Files.{Looked}
use Rattle.mesa_query.proofs.Holding.{IsNewestTo}
use Rattle.mesa_query.proofs.newest.newest_from.Given as goal

-- the files so far are looked at, and of the others no block was taken
abbrev pub invariant-newer : goal.invariant-newer
invariant-newer g l = record {
  newest : IsNewestTo g.R.FileReader.bytes (wanted_of l.groups) l.filter.terms l.view (key_at_hand l.groups) l.from l.i l.fn.files l.newest;
  looked : Looked g.R.FileReader.bytes g.R.FileReader.size g.R.FileReader.faults (wanted_of l.groups).schema l.view l.fn.files l.files l.i l.ahead;
}
