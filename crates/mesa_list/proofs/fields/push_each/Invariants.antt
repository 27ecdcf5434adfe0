use Rattle.mesa_list.proofs.Joined.{AreBehind}
use Rattle.mesa_list.proofs.fields.push_each.Given as goal

abbrev pub invariant-words : goal.invariant-words
invariant-words g l = AreBehind l.fn.bytes.items l.fn.ends.items (g.W.Words.words l.words) l.place l.bytes.items l.ends.items
