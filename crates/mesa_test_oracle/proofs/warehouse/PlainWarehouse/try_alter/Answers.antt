use Rattle.std.proofs.Common.{◌≡◌, refl, ◌∙◌, ◌+◌, ap, map, subst, sym, Some, Ok}
use Rattle.std.proofs.lemmas.Result.{err_from_is_err_and}
use Rattle.mesa_schema.specs.Changes.{Lineage, columns_of, epoch_of}
use Rattle.mesa_model.specs.declared.replies.Reply.TheVariants as reply
use Rattle.mesa_model.specs.Relations.{table_number}
use Rattle.mesa_model.specs.Tables.{alter_table, change_asked}
use Rattle.mesa_model.specs.Warehouse.{Warehouse, table_at}
use Rattle.mesa_binding.specs.declared.failure.Failure.{Failure}
use Rattle.mesa_binding.specs.Asked.{change_allowed}
use Rattle.mesa_test_oracle.specs.Pinned.{pin_seen, warehouse_of}
use Rattle.mesa_binding.specs.Told.{IsDue}
use Rattle.mesa_binding.proofs.Alterings.{alter_done, alter_refused, change_due}
use Rattle.mesa_test_oracle.proofs.Namings.{table_named}
use Rattle.mesa_test_oracle.proofs.warehouse.PlainWarehouse.try_alter.Goals as goal

pub returns-in_err-change-clause-refused : goal.returns-in_err-change-clause-refused
returns-in_err-change-clause-refused c =
    let p = err_from_is_err_and c.from_residual-in_err-change.result c.from_residual-in_err-change.ensures.1 in
    let w = c.self.inside in
    let words = c.args.words.now in
    let number = c.in-Some.number in
    let failure = c.in_err-change.field-0.0 in
    let found : table_number w.store.store words.table ≡ Some number = ap (table_number w.store.store) (sym c.as_slice.ensures) ∙ sym c.number.ensures.number ∙ c.in-Some.is in
    let due = subst (λ (l : Lineage). IsDue (change_allowed l words.change) failure) c.evolving-evolving.ensures c.in_err-change.ensures.refused in
    rw (p.1, p.2) (subst (λ (v : Warehouse). IsDue (alter_table v words) failure) c.self.view_is (alter_refused (warehouse_of w.store w.given (map pin_seen w.pins.items)) refl words number failure found due))

pub returns-in_err-change_table-clause-refused : goal.returns-in_err-change_table-clause-refused
returns-in_err-change_table-clause-refused c =
    let p = err_from_is_err_and c.from_residual-in_err-change_table.result c.from_residual-in_err-change_table.ensures.1 in
    let w = c.self.inside in
    let words = c.args.words.now in
    let number = c.in-Some.number in
    let change = c.in_ok-change.change in
    let failure = c.in_err-change_table.field-0.0 in
    let l = (table_at w.store.store number).lineage in
    let found : table_number w.store.store words.table ≡ Some number = ap (table_number w.store.store) (sym c.as_slice.ensures) ∙ sym c.number.ensures.number ∙ c.in-Some.is in
    let asked : change_asked (columns_of l) words.change ≡ Ok change = ap (λ (e : Lineage). change_asked (columns_of e) words.change) (sym c.evolving-evolving.ensures) ∙ c.in_ok-change.ensures.asked in
    let why = c.in_err-change_table.ensures.refused in
    let due = subst (λ (f : Failure). IsDue (change_allowed l words.change) f) (sym why.1) (change_due l words.change change why.0 asked why.2) in
    rw (p.1, p.2) (subst (λ (v : Warehouse). IsDue (alter_table v words) failure) c.self.view_is (alter_refused (warehouse_of w.store w.given (map pin_seen w.pins.items)) refl words number failure found due))

pub returns-clause-done : goal.returns-clause-done
returns-clause-done c =
    let w = c.self.inside in
    let words = c.args.words.now in
    let pins = map pin_seen w.pins.items in
    let number = c.in-Some.number in
    let change = c.in_ok-change.change in
    let l = (table_at w.store.store number).lineage in
    let found : table_number w.store.store words.table ≡ Some number = ap (table_number w.store.store) (sym c.as_slice.ensures) ∙ sym c.number.ensures.number ∙ c.in-Some.is in
    let asked : change_asked (columns_of l) words.change ≡ Ok change = ap (λ (e : Lineage). change_asked (columns_of e) words.change) (sym c.evolving-evolving.ensures) ∙ c.in_ok-change.ensures.asked in
    let table = c.in_ok-table.ensures ∙ c.name.ensures ∙ table_named w.store.store words.table number found in
    let epoch : c.epoch-epoch.result + 1 ≡ epoch_of l + 1 = ap (λ e. e + 1) (c.epoch-epoch.ensures.count ∙ ap epoch_of c.evolving-evolving.ensures) in
    let made = c.in_ok-change_table.ensures.changed in
    sym (ap (λ (v : Warehouse). alter_table v words) c.self.view_is) ∙ alter_done (warehouse_of w.store w.given pins) refl words number change found asked c.in_ok-change_table.ensures.allowed
    ∙ (λ j. Ok (warehouse_of (sym made j) w.given pins, reply.Altered (sym table j) (sym epoch j)))
