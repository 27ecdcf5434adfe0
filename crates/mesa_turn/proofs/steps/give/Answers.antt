use Rattle.std.proofs.Common.{◌∙◌, [], ◌∷◌, ◌++◌, Some, sym, ap, arith}
use Rattle.atomic_table.specs.Table.{rest}
use Rattle.mesa_turn.specs.History.{has, name_of}
use Rattle.mesa_turn.specs.Steps.{number_of, held}
use Rattle.mesa_turn.proofs.Taking.{marks, passes}
use Rattle.mesa_turn.proofs.steps.give.Goals as goal

pub fetch_add-requires : goal.fetch_add-requires
fetch_add-requires g c = let words = c.requires.desk.1.0 in let now = c.exchange-none.ensures.3 in let more = c.requires.more in (
  c.exchange-none.ensures.0 ∙ c.requires.desk.0,
  omega arith,
  marks g.V.Turned.history c.args.desk.now.key _ _ c.args.ticket c.args.value more.0 c.exchange-none.new.seat.me (ap (λ m. m.0.turn) now ∙ c.requires.come) (ap (λ m. m.1) now ∙ ap (λ l. (0, Some c.args.value) ∷ rest l) c.requires.out)
      (more.1 ∙ ap (λ m. m.0.seen ++ more.0 ∷ []) (sym now)) (ap (λ m. has m.0.names (name_of more.0)) now ∙ more.2),
)

pub fetch_add-requires-2 : goal.fetch_add-requires-2
fetch_add-requires-2 g c = let words = c.requires.desk.1.0 in let now = c.exchange-none.ensures.3 in let more = c.requires.more in let did = c.fetch_add.ensures.2.0 in
    let carried = ap (λ m. m.1) now ∙ ap (λ l. (0, Some c.args.value) ∷ rest l) c.requires.out in (
      c.fetch_add.ensures.0 ∙ (c.exchange-none.ensures.0 ∙ c.requires.desk.0),
      omega arith,
      passes g.V.Turned.history c.args.desk.now.key _ _ (number_of c.exchange-none.new.seat.me.0.turn) (name_of more.0) c.args.value c.fetch_add.new.seat.me (ap (λ m. m.0.turn) did) (ap (λ m. m.1) did ∙ carried)
          (sym (ap (held g.V.Turned.history) carried) ∙ ap (λ m. m.0.seen) (sym did)) (ap (λ m. has m.0.names (name_of more.0)) did ∙ (ap (λ m. has m.0.names (name_of more.0)) now ∙ more.2)),
    )
