use Rattle.std.proofs.Common.{◌≡◌, ◌∙◌, ap, Option, None, Some, refl}
use Rattle.std.specs.Prelude.{find, option_map}
use Rattle.mesa_engine.specs.Turned.{is_held_pin}
use Rattle.mesa_engine.specs.declared.holders.Pin.{Pin as Held}
use Rattle.mesa_engine.specs.Meaning.{pin_as}
use Rattle.mesa_engine.proofs.Mapped.{find_mapped}
use Rattle.mesa_engine.proofs.holders.Holders.pin.Goals as goal

twice : {A : Type 0} (f : A → Held) (o : Option A) → option_map (λ a. pin_as (f a)) o ≡ option_map pin_as (option_map f o)
twice f None = refl
twice f (Some a) = refl

pub returns : goal.returns
returns c =
    twice (λ p. p.now) c.find_pin.result ∙ ap (option_map pin_as) (c.find_pin.ensures ∙ ap (find (λ (p : Held). is_held_pin c.args.session c.args.token (pin_as p))) c.deref.ensures.value)
    ∙ find_mapped pin_as (is_held_pin c.args.session c.args.token) c.args.self.now.pins.items
