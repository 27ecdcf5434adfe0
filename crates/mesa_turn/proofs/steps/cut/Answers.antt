use Rattle.std.proofs.Common.{ℕ, arith}
use Rattle.atomic_table.specs.Table.{Splits}
use Rattle.mesa_turn.specs.declared.view.View.{View}
use Rattle.mesa_turn.specs.Rule.{Turns}
use Rattle.mesa_turn.specs.Steps.{kept_of, cut_of}
use Rattle.mesa_turn.proofs.Sharing.{splits}
use Rattle.mesa_turn.proofs.steps.cut.Goals as goal

pub split_seat-requires : goal.split_seat-requires
split_seat-requires g c = let words = c.requires.desk.1.0 in let other = c.requires.another in let v : View = c.args.seat.now.me.0 in
    let P : ℕ → ℕ → Type 0 = λ name room. Splits (Turns g.V.Turned.history c.args.desk.now.key) c.args.seat.now.id v (kept_of name room v) (cut_of name room v) in
    let all : P c.args.name c.args.room = splits g.V.Turned.history c.args.desk.now.key c.args.seat.now.id c.args.name c.args.room other.0 v c.requires.idle.0 c.requires.name other.1 other.2 c.requires.room c.requires.clear in
    (c.requires.desk.0, omega arith, rw (c.requires.picked.0, c.requires.picked.1) at all)
