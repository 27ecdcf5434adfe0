use Rattle.std.proofs.Common.{◌≡◌, ◌∙◌, ap, map, None, Ok, Err, Some, subst, sym}
use Rattle.mesa_model.specs.declared.replies.Reply.TheVariants as reply
use Rattle.mesa_model.specs.Relations.{table_number}
use Rattle.mesa_model.specs.Step.{done_or_refused}
use Rattle.mesa_model.specs.Versions.{expire_table, version_checked}
use Rattle.mesa_model.specs.Warehouse.{Warehouse, table_at}
use Rattle.mesa_test_oracle.specs.Pinned.{pin_seen, warehouse_of}
use Rattle.mesa_test_oracle.proofs.Commands.{no_table_expired, table_expired, table_not_expired}
use Rattle.mesa_test_oracle.proofs.Namings.{table_named}
use Rattle.mesa_test_oracle.proofs.warehouse.PlainWarehouse.expire_table.Goals as goal

pub returns-in_default-clause-done : goal.returns-in_default-clause-done
returns-in_default-clause-done c =
    let w = c.self.inside in
    let name = c.args.name.now in
    let version = c.args.version in
    let pins = map pin_seen w.pins.items in
    let own = warehouse_of w.store w.given pins in
    let found : table_number w.store.store name ≡ None = sym c.number.ensures.number ∙ c.in_default.is in
    subst (λ (v : Warehouse). done_or_refused v (expire_table v name version) ≡ (v, _)) c.self.view_is
    (ap (done_or_refused own) (no_table_expired w.store w.given pins name version found))

pub returns-in-Err-clause-done : goal.returns-in-Err-clause-done
returns-in-Err-clause-done c =
    let w = c.self.inside in
    let name = c.args.name.now in
    let version = c.args.version in
    let pins = map pin_seen w.pins.items in
    let own = warehouse_of w.store w.given pins in
    let number = c.in-Some.number in
    let found : table_number w.store.store name ≡ Some number = sym c.number.ensures.number ∙ c.in-Some.is in
    let checked : version_checked own (table_at w.store.store number).oldest version ≡ Err c.in-Err.refusal =
    subst (λ (v : Warehouse). version_checked v (table_at w.store.store number).oldest version ≡ Err c.in-Err.refusal) (sym c.self.view_is) (ap (λ o. version_checked c.args.self.now o version) (sym c.oldest-oldest.ensures.oldest) ∙ sym c.check_version.ensures.checked ∙ c.in-Err.is) in
    subst (λ (v : Warehouse). done_or_refused v (expire_table v name version) ≡ (v, reply.Refused c.in-Err.refusal)) c.self.view_is
    (ap (done_or_refused own) (table_not_expired w.store w.given pins name version number c.in-Err.refusal found checked))

pub returns-clause-done : goal.returns-clause-done
returns-clause-done c =
    let w = c.self.inside in
    let name = c.args.name.now in
    let version = c.args.version in
    let pins = map pin_seen w.pins.items in
    let own = warehouse_of w.store w.given pins in
    let number = c.in-Some.number in
    let found : table_number w.store.store name ≡ Some number = sym c.number.ensures.number ∙ c.in-Some.is in
    let named = c.in_ok-table.ensures ∙ c.name.ensures ∙ table_named w.store.store name number found in
    let checked : version_checked own (table_at w.store.store number).oldest version ≡ Ok tt =
    subst (λ (v : Warehouse). version_checked v (table_at w.store.store number).oldest version ≡ Ok tt) (sym c.self.view_is) (ap (λ o. version_checked c.args.self.now o version) (sym c.oldest-oldest.ensures.oldest) ∙ sym c.check_version.ensures.checked ∙ c.in_default-check_version.is) in
    sym (ap (λ (v : Warehouse). done_or_refused v (expire_table v name version)) c.self.view_is)
    ∙ ap (done_or_refused own) (table_expired w.store w.given pins name version number found checked)
    ∙ (λ j. (warehouse_of (sym c.expire_table.ensures j) w.given pins, reply.Expired (Some (sym named j)) version))
