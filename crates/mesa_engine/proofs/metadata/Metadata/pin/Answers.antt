use Rattle.std.proofs.Common.{◌≡◌, ◌∙◌, ◌++◌, [], ◌∷◌, ap, map, sym}
use Rattle.mesa_catalog.specs.Kept.{Reserved}
use Rattle.mesa_engine.specs.EngineState.{next_id}
use Rattle.mesa_engine.specs.Turned.{pin_now, pinned_state}
use Rattle.mesa_engine.specs.declared.holders.Pin.{Pin}
use Rattle.mesa_engine.specs.Meaning.{pin_as, pins_in, queries_in, query_as}
use Rattle.mesa_engine.specs.Memory.{Memory, hold_now, with_state}
use Rattle.mesa_engine.specs.contracts.metadata.Metadata.{the_view}
use Rattle.mesa_engine.proofs.metadata.Metadata.pin.Goals as goal

pub returns-clause-pinned : goal.returns-clause-pinned
returns-clause-pinned c =
    let inside = c.self.inside in
    let before : Memory = the_view inside in
    let session = c.args.session in
    let version = c.args.version in
    let position = c.args.position in
    let made : Pin = record { session = session; token = c.in_ok-token.token; version = version; hold = c.hold_now-hold.result; copy = c.in_ok-copy.copy } in
    let hold : c.hold_now-hold.result ≡ hold_now before.state position = λ i. record { at = c.hold_now-hold.ensures.at i; next = (c.hold_now-hold.ensures.next ∙ ap (λ (m : Memory). next_id m.state) (sym c.self.view_is)) i } in
    let one : pin_as made ≡ pin_now before.state session version (hold_now before.state position) =
    λ i. record { session = session; token = c.in_ok-token.ensures.count i; version = version; hold = hold i; copy = ap (λ (r : Reserved). r.catalogue) c.in_ok-copy.ensures i } in
    let pins : pins_in c.add_pin.new.self ≡ pins_in inside.holders ++ pin_now before.state session version (hold_now before.state position) ∷ [] =
    c.add_pin.ensures.pins ∙ (λ i. map pin_as (c.reserve_pin.ensures.pins i) ++ one i ∷ []) in
    let queries : queries_in c.add_pin.new.self ≡ queries_in inside.holders = ap (λ qs. map query_as qs.items) (c.add_pin.ensures.queries ∙ c.reserve_pin.ensures.queries) in
    (λ i. record before { state = record before.state { pins = pins i; queries = queries i; given = c.in_ok-token.ensures.counted i } })
    ∙ ap (λ (m : Memory). with_state (pinned_state m.state session version (hold_now m.state position)) m) c.self.view_is
