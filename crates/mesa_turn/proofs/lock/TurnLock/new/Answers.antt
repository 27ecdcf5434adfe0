use Rattle.std.proofs.Common.{rules, ◌≡◌, [], ◌∷◌, List, Some, Option, subst, sym}
use Rattle.atomic_table.specs.Table.{opening}
use Rattle.mesa_turn.specs.Rule.{Turns, first_view}
use Rattle.mesa_turn.proofs.Ends.{opens}
use Rattle.mesa_turn.proofs.lock.TurnLock.new.Goals as goal

pub new-requires : goal.new-requires
new-requires g c = let e : c.push.new.self.items ≡ Some c.args.value ∷ [] = search rules in
    let P : List (Option g.row.V.Denot) → Type 0 = λ xs. Turns g.V.Turned.history c.args.room (opening (0 ∷ 0 ∷ 0 ∷ []) xs (first_view c.args.room)) in
    subst P (sym e) (opens g.V.Turned.history c.args.room c.args.value c.requires.empty c.requires.room)
