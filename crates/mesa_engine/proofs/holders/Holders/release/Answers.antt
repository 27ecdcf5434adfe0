use Rattle.std.proofs.Common.{◌∙◌, length, map, ap, arith}
use Rattle.std.specs.Prelude.{not}
use Rattle.mesa_engine.specs.Turned.{is_held_pin}
use Rattle.mesa_engine.specs.declared.holders.Pin.{Pin}
use Rattle.mesa_engine.specs.Meaning.{pin_as}
use Rattle.mesa_engine.proofs.Mapped.{fewer, filter_mapped}
use Rattle.mesa_engine.proofs.holders.Holders.release.Goals as goal

pub index_again-requires : goal.index_again-requires
index_again-requires c =
    let left = ap length c.let_go.ensures in
    let less = fewer (λ (p : Pin). not (is_held_pin c.args.session c.args.token (pin_as p))) c.args.self.now.pins.items in
    let room = c.requires.room in
    omega (arith, left, less, room)

pub returns-clause-pins : goal.returns-clause-pins
returns-clause-pins c =
    ap (λ ps. map pin_as ps.items) c.index_again.ensures.pins ∙ ap (map pin_as) c.let_go.ensures ∙ filter_mapped pin_as (λ p. not (is_held_pin c.args.session c.args.token p)) c.args.self.now.pins.items
