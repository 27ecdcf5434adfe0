use Rattle.mesa_core.proofs.Dividing.{mine_whole, mine_part, waits_left, have_ended, all_own}
use Rattle.mesa_core.proofs.passes.passes_are_divided.Goals as goal

pub returns : goal.returns
returns c = record {
  begins = mine_whole;
  given = λ script start p next room waits lt above exact. mine_part script start p next room waits lt above exact;
  kept = λ script start p next room waits lt above exact. waits_left script start p next room waits lt above exact;
  joined = λ script start a b p next joins. have_ended script start a b p joins next;
  own = all_own;
}
