use Rattle.std.proofs.Common.{◌≡◌, ◌∙◌, ap, sym, subst, map, Option, None, Some, Ok, Err}
use Rattle.std.specs.Prelude.{find, option_map}
use Rattle.mesa_filter.specs.declared.words.VersionWord.{VersionWord}
use Rattle.mesa_model.specs.declared.replies.Refusal.TheVariants as no
use Rattle.mesa_model.specs.Pins.{is_pin}
use Rattle.mesa_model.specs.Query.{store_asked}
use Rattle.mesa_model.specs.Warehouse.{Warehouse}
use Rattle.mesa_test_oracle.specs.declared.pins.PlainPin.{PlainPin}
use Rattle.mesa_test_oracle.specs.Pinned.{pin_seen, warehouse_of}
use Rattle.mesa_test_oracle.proofs.Queries.{pinned_tables}
use Rattle.mesa_test_oracle.proofs.warehouse.PlainWarehouse.tables_asked.Goals as goal

some_found : {R : Type 0} (now : R → PlainPin) (o : Option R) (r : R) (f : Option PlainPin) → option_map now o ≡ f → o ≡ Some r → Some (now r) ≡ f
some_found now o r f is some = sym (ap (option_map now) some) ∙ is

none_found : {R : Type 0} (now : R → PlainPin) (o : Option R) (f : Option PlainPin) → option_map now o ≡ f → o ≡ None → None ≡ f
none_found now o f is none = sym (ap (option_map now) none) ∙ is

pub returns-in-Some-clause-store : goal.returns-in-Some-clause-store
returns-in-Some-clause-store c =
    let w = c.self.inside in
    let session = c.args.session in
    let token = c.in-Pin.token in
    let own = warehouse_of w.store w.given (map pin_seen w.pins.items) in
    let is = c.find_pin.ensures ∙ ap (find (λ (p : PlainPin). is_pin session token (pin_seen p))) c.deref.ensures.value in
    let due = pinned_tables w.store w.given w.pins.items session token (Some c.in-Some.pin.now) (some_found _ _ _ _ is c.in-Some.is) in
    subst (λ (v : Warehouse). store_asked v session c.args.asked ≡ Ok c.in-Some.pin.now.store.store) c.self.view_is
    (subst (λ (a : VersionWord). store_asked own session a ≡ Ok c.in-Some.pin.now.store.store) (sym c.in-Pin.is) due)

pub returns-in-None-clause-store : goal.returns-in-None-clause-store
returns-in-None-clause-store c =
    let w = c.self.inside in
    let session = c.args.session in
    let token = c.in-Pin.token in
    let own = warehouse_of w.store w.given (map pin_seen w.pins.items) in
    let is = c.find_pin.ensures ∙ ap (find (λ (p : PlainPin). is_pin session token (pin_seen p))) c.deref.ensures.value in
    let due = pinned_tables w.store w.given w.pins.items session token None (none_found _ _ _ is c.in-None.is) in
    subst (λ (v : Warehouse). store_asked v session c.args.asked ≡ Err (no.NoPin token)) c.self.view_is
    (subst (λ (a : VersionWord). store_asked own session a ≡ Err (no.NoPin token)) (sym c.in-Pin.is) due)
