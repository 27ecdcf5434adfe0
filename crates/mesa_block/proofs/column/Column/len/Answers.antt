use Rattle.std.proofs.Common.{◌≡◌, ℕ, List, length, sym, subst}
use Rattle.mesa_block.proofs.Pieces.{pieces_count}
use Rattle.mesa_block.proofs.column.Column.len.Goals as goal

pub returns-in-Int : goal.returns-in-Int
returns-in-Int c = subst (λ (x : List (List ℕ)). c.self.inside.count ≡ length x) c.self.view_is (rw c.in-Int.is (sym (pieces_count 8 c.self.inside.count c.self.inside.bytes.now)))
