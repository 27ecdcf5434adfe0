use Rattle.std.proofs.Common.{◌∙◌, sym, ap, arith, length, refl}
use Rattle.std.specs.Prelude.{◌==◌}
use Rattle.std.specs.List.{list_any}
use Rattle.mesa_filter.proofs.PlacesAsked.{all_listed, key_listed}
use Rattle.mesa_filter.proofs.asking.lists_all_keys.Goals as goal

pub loop-place-init : goal.loop-place-init
loop-place-init c = refl

pub returns-then-not-is_among : goal.returns-then-not-is_among
returns-then-not-is_among c =
    key_listed c.args.schema.now.keys c.loop-place.place (λ place. list_any (λ column. column == place) c.args.columns.now) _ _ (omega (arith, ap length c.keys-keys.ensures.same)) (sym c.is_among.ensures ∙ c.if-not-is_among.true) c.loop-place.invariant

pub loop-place-preserved : goal.loop-place-preserved
loop-place-preserved c =
    key_listed c.args.schema.now.keys c.loop-place.place (λ place. list_any (λ column. column == place) c.args.columns.now) _ _ (omega (arith, ap length c.keys-keys.ensures.same)) (sym c.is_among.ensures ∙ c.if-not-is_among.false) c.loop-place.invariant

pub returns : goal.returns
returns c =
    all_listed c.args.schema.now.keys c.loop-place.place (λ place. list_any (λ column. column == place) c.args.columns.now) _ (omega (arith, ap length c.keys-keys.ensures.same)) c.loop-place.invariant
