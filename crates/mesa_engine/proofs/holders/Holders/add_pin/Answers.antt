use Rattle.std.proofs.Common.{◌∙◌, ◌∷◌, [], ap, map}
use Rattle.std.proofs.lemmas.List.{map-append}
use Rattle.mesa_engine.specs.Meaning.{pin_as}
use Rattle.mesa_engine.proofs.holders.Holders.add_pin.Goals as goal

pub returns-clause-pins : goal.returns-clause-pins
returns-clause-pins c = ap (λ ps. map pin_as ps.items) c.index_again.ensures.pins ∙ ap (map pin_as) c.push_reserved.ensures.items ∙ map-append pin_as c.args.self.now.pins.items (c.args.pin ∷ [])
