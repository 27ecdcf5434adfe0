use Rattle.std.proofs.Common.{◌≡◌, ◌∙◌, ap, sym, subst, map, Ok, true, false, rules}
use Rattle.std.specs.Prelude.{filter, is_some, not}
use Rattle.std.specs.List.{list_any}
use Rattle.mesa_list.specs.Checks.{◌>>◌, refuse_if}
use Rattle.mesa_model.specs.declared.replies.Refusal.TheVariants as no
use Rattle.mesa_model.specs.declared.replies.Reply.TheVariants as reply
use Rattle.mesa_model.specs.Pins.{is_pin, pin_of, release_pin}
use Rattle.mesa_model.specs.Step.{done_or_refused}
use Rattle.mesa_model.specs.Warehouse.{Pin, Warehouse}
use Rattle.mesa_test_oracle.specs.declared.pins.PlainPin.{PlainPin}
use Rattle.mesa_test_oracle.specs.Pinned.{pin_seen, warehouse_of}
use Rattle.mesa_test_oracle.proofs.Commands.{released}
use Rattle.mesa_test_oracle.proofs.Pinnings.{any-mapped, filter-mapped, found_any}
use Rattle.mesa_test_oracle.proofs.warehouse.PlainWarehouse.release.Goals as goal

pub returns-then-not-is_held : goal.returns-then-not-is_held
returns-then-not-is_held c =
    let w = c.self.inside in
    let session = c.args.session in
    let token = c.args.token in
    let pins = map pin_seen w.pins.items in
    let own = warehouse_of w.store w.given pins in
    let held : is_some (pin_of own session token) ≡ c.is_held.result =
    found_any (is_pin session token) pins ∙ sym (any-mapped pin_seen (is_pin session token) w.pins.items) ∙ sym (c.is_held.ensures ∙ ap (list_any (λ (p : PlainPin). is_pin session token (pin_seen p))) c.deref.ensures.value) in
    let missing : c.is_held.result ≡ false = search rules in
    subst (λ (v : Warehouse). done_or_refused v (release_pin v session token) ≡ (v, reply.Refused (no.NoPin token))) c.self.view_is
    (ap (done_or_refused own) (released w.store w.given pins session token c.is_held.result held ∙ ap (λ b. refuse_if (not b) (no.NoPin token) >> Ok (warehouse_of w.store w.given (filter (λ (pin : Pin). not (is_pin session token pin)) pins), reply.Released token)) missing))

pub returns : goal.returns
returns c =
    let w = c.self.inside in
    let session = c.args.session in
    let token = c.args.token in
    let pins = map pin_seen w.pins.items in
    let own = warehouse_of w.store w.given pins in
    let held : is_some (pin_of own session token) ≡ c.is_held.result =
    found_any (is_pin session token) pins ∙ sym (any-mapped pin_seen (is_pin session token) w.pins.items) ∙ sym (c.is_held.ensures ∙ ap (list_any (λ (p : PlainPin). is_pin session token (pin_seen p))) c.deref.ensures.value) in
    let there : c.is_held.result ≡ true = search rules in
    let kept : map pin_seen c.let_go.new.pins.items ≡ filter (λ (pin : Pin). not (is_pin session token pin)) pins =
    ap (map pin_seen) c.let_go.ensures ∙ filter-mapped pin_seen (λ (pin : Pin). not (is_pin session token pin)) w.pins.items in
    sym (ap (λ (v : Warehouse). done_or_refused v (release_pin v session token)) c.self.view_is)
    ∙ ap (done_or_refused own) (released w.store w.given pins session token c.is_held.result held ∙ ap (λ b. refuse_if (not b) (no.NoPin token) >> Ok (warehouse_of w.store w.given (filter (λ (pin : Pin). not (is_pin session token pin)) pins), reply.Released token)) there)
    ∙ (λ j. (warehouse_of w.store w.given (sym kept j), reply.Released token))
