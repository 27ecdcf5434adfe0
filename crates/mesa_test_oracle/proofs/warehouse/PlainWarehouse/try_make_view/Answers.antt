use Rattle.std.proofs.Common.{◌≡◌, refl, ◌∙◌, ap, sym, subst, map, None, Some, Ok, Err, true, false, rules}
use Rattle.std.proofs.lemmas.Result.{err_from_is_err_and}
use Rattle.mesa_list.specs.Checks.{refuse_unless}
use Rattle.mesa_schema.specs.Changes.{Lineage, columns_of}
use Rattle.mesa_oracle_tables.specs.mesa_columns.Names.{is_name}
use Rattle.mesa_schema.specs.Views.{with_view}
use Rattle.mesa_model.specs.declared.replies.Refusal.TheVariants as no
use Rattle.mesa_model.specs.declared.replies.Reply.TheVariants as reply
use Rattle.mesa_model.specs.declared.replies.SchemaFault.TheVariants as fault
use Rattle.mesa_model.specs.Refusals.{bad_schema, no_such_table}
use Rattle.mesa_model.specs.Relations.{is_taken, table_number}
use Rattle.mesa_model.specs.Tables.{make_view}
use Rattle.mesa_model.specs.Warehouse.{Warehouse}
use Rattle.mesa_binding.specs.Asked.{more_views_checked}
use Rattle.mesa_oracle_tables.specs.Kept.{with_lineage}
use Rattle.mesa_test_oracle.specs.Pinned.{pin_seen, warehouse_of}
use Rattle.mesa_binding.specs.Told.{IsDue}
use Rattle.mesa_binding.proofs.Viewings.{view_bad, view_done, view_nowhere, view_taken, view_unnamed}
use Rattle.mesa_test_oracle.proofs.warehouse.PlainWarehouse.try_make_view.Goals as goal

pub returns-in_err-name-clause-refused : goal.returns-in_err-name-clause-refused
returns-in_err-name-clause-refused c =
    let p = err_from_is_err_and c.from_residual.result c.from_residual.ensures.1 in
    let w = c.self.inside in
    let words = c.args.words.now in
    let failure = c.in_err-name.field-0.0 in
    let due = subst (λ n. IsDue (refuse_unless (is_name n) (bad_schema fault.BadName)) failure) c.as_slice-asked.ensures c.in_err-name.ensures.refused in
    rw (p.1, p.2) (subst (λ (v : Warehouse). IsDue (make_view v words) failure) c.self.view_is
    (view_unnamed (warehouse_of w.store w.given (map pin_seen w.pins.items)) refl words failure due))

pub returns-then-is_taken-clause-refused : goal.returns-then-is_taken-clause-refused
returns-then-is_taken-clause-refused c =
    let w = c.self.inside in
    let words = c.args.words.now in
    let named = ap is_name (sym c.as_slice-asked.ensures) ∙ c.in_ok-name.ensures.named in
    let there : c.is_taken.result ≡ true = search rules in
    let taken : is_taken w.store.store words.view ≡ true = ap (is_taken w.store.store) (sym c.as_slice-asked.ensures) ∙ sym c.is_taken.ensures ∙ there in
    subst (λ (v : Warehouse). make_view v words ≡ Err no.TableExists) c.self.view_is (view_taken (warehouse_of w.store w.given (map pin_seen w.pins.items)) refl words named taken)

pub returns-in_default-clause-refused : goal.returns-in_default-clause-refused
returns-in_default-clause-refused c =
    let w = c.self.inside in
    let words = c.args.words.now in
    let named = ap is_name (sym c.as_slice-asked.ensures) ∙ c.in_ok-name.ensures.named in
    let free : c.is_taken.result ≡ false = search rules in
    let taken : is_taken w.store.store words.view ≡ false = ap (is_taken w.store.store) (sym c.as_slice-asked.ensures) ∙ sym c.is_taken.ensures ∙ free in
    let found : table_number w.store.store words.table ≡ None = ap (table_number w.store.store) (sym c.as_slice.ensures) ∙ sym c.number.ensures.number ∙ c.in_default.is in
    subst (λ (v : Warehouse). make_view v words ≡ Err no_such_table) c.self.view_is (view_nowhere (warehouse_of w.store w.given (map pin_seen w.pins.items)) refl words named taken found)

pub returns-in_err-more-clause-refused : goal.returns-in_err-more-clause-refused
returns-in_err-more-clause-refused c =
    let p = err_from_is_err_and c.from_residual-in_err-more.result c.from_residual-in_err-more.ensures.1 in
    let w = c.self.inside in
    let words = c.args.words.now in
    let number = c.in-Some.table in
    let failure = c.in_err-more.field-0.0 in
    let named = ap is_name (sym c.as_slice-asked.ensures) ∙ c.in_ok-name.ensures.named in
    let free : c.is_taken.result ≡ false = search rules in
    let taken : is_taken w.store.store words.view ≡ false = ap (is_taken w.store.store) (sym c.as_slice-asked.ensures) ∙ sym c.is_taken.ensures ∙ free in
    let found : table_number w.store.store words.table ≡ Some number = ap (table_number w.store.store) (sym c.as_slice.ensures) ∙ sym c.number.ensures.number ∙ c.in-Some.is in
    let due = subst (λ (l : Lineage). IsDue (more_views_checked l words) failure) c.evolving-evolving.ensures c.in_err-more.ensures.refused in
    rw (p.1, p.2) (subst (λ (v : Warehouse). IsDue (make_view v words) failure) c.self.view_is
    (view_bad (warehouse_of w.store w.given (map pin_seen w.pins.items)) refl words number failure named taken found due))

pub set_evolving-requires-clause-columns : goal.set_evolving-requires-clause-columns
set_evolving-requires-clause-columns c = ap columns_of c.in_ok-more.ensures.added ∙ ap columns_of c.evolving-evolving.ensures

pub returns-clause-done : goal.returns-clause-done
returns-clause-done c =
    let w = c.self.inside in
    let words = c.args.words.now in
    let pins = map pin_seen w.pins.items in
    let number = c.in-Some.table in
    let named = ap is_name (sym c.as_slice-asked.ensures) ∙ c.in_ok-name.ensures.named in
    let free : c.is_taken.result ≡ false = search rules in
    let taken : is_taken w.store.store words.view ≡ false = ap (is_taken w.store.store) (sym c.as_slice-asked.ensures) ∙ sym c.is_taken.ensures ∙ free in
    let found : table_number w.store.store words.table ≡ Some number = ap (table_number w.store.store) (sym c.as_slice.ensures) ∙ sym c.number.ensures.number ∙ c.in-Some.is in
    let name = c.in_ok-name.ensures.read ∙ c.as_slice-asked.ensures in
    let checked = subst (λ (l : Lineage). more_views_checked l words ≡ Ok tt) c.evolving-evolving.ensures c.in_ok-more.ensures.checked in
    let lineage = c.in_ok-more.ensures.added ∙ (λ j. with_view (c.evolving-evolving.ensures j) (record { name = name j; keys = words.keys; values = words.values })) in
    let made = c.set_evolving.ensures ∙ ap (with_lineage w.store number) lineage in
    sym (ap (λ (v : Warehouse). make_view v words) c.self.view_is) ∙ view_done (warehouse_of w.store w.given pins) refl words number named taken found checked
    ∙ (λ j. Ok (warehouse_of (sym made j) w.given pins, reply.View (sym (c.in_ok-made.ensures ∙ name) j)))
