use Rattle.std.proofs.Common.{◌≡◌, ◌++◌, List, length}
use Rattle.std.specs.Prelude.{flat_map}
use Rattle.std.specs.List.{AllByRecursion}
use Rattle.mesa_filter.specs.Filter.{KeyFilter}
use Rattle.mesa_merge.specs.Inputs.{Known}
use Rattle.mesa_answer.specs.Gathered.{wanted_of}
use Rattle.mesa_group_blocks.specs.Jobs.{IsJob, pieces_in}
use Rattle.mesa_group_blocks.specs.Pieces.{IsPieceOf}
use Rattle.mesa_group_blocks.proofs.jobs.deal.Given as goal

-- the blocks so far are dealt out
abbrev pub invariant-each_run : goal.invariant-each_run
invariant-each_run l = record {
  dealt : flat_map pieces_in l.jobs.items ++ l.rest ≡ l.pieces;
  begun : (files : List Known) (f : KeyFilter) → AllByRecursion (IsPieceOf files) l.pieces → AllByRecursion (IsJob files (wanted_of l.groups) f) l.jobs.items;
}

abbrev pub decreases-each_run : goal.decreases-each_run
decreases-each_run l = length l.rest
