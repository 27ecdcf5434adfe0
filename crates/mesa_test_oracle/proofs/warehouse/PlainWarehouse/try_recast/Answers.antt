use Rattle.std.proofs.Common.{◌≡◌, refl, ◌∙◌, ◌+◌, ap, map, subst, sym, Some, Ok}
use Rattle.std.proofs.lemmas.Result.{err_from_is_err_and}
use Rattle.mesa_list.specs.Checks.{refused_as}
use Rattle.mesa_schema.specs.Changes.{Lineage, epoch_of}
use Rattle.mesa_schema.specs.Recasts.{Recast, recast_checked}
use Rattle.mesa_model.specs.declared.replies.Reply.TheVariants as reply
use Rattle.mesa_model.specs.Refusals.{recast_refusal}
use Rattle.mesa_model.specs.Relations.{table_number}
use Rattle.mesa_model.specs.Tables.{recast_asked, recast_table}
use Rattle.mesa_model.specs.Warehouse.{Warehouse, table_at}
use Rattle.mesa_binding.specs.Told.{IsDue}
use Rattle.mesa_binding.proofs.Recastings.{recast_done, recast_refused}
use Rattle.mesa_oracle_tables.specs.Kept.{with_table_recast}
use Rattle.mesa_test_oracle.specs.Pinned.{pin_seen, warehouse_of}
use Rattle.mesa_test_oracle.proofs.warehouse.PlainWarehouse.try_recast.Goals as goal

pub returns-in_err-names-clause-refused : goal.returns-in_err-names-clause-refused
returns-in_err-names-clause-refused c =
    let p = err_from_is_err_and c.from_residual-in_err-names.result c.from_residual-in_err-names.ensures.1 in
    let w = c.self.inside in
    let words = c.args.words.now in
    let number = c.in-Some.number in
    let failure = c.in_err-names.field-0.0 in
    let found : table_number w.store.store words.table ≡ Some number = ap (table_number w.store.store) (sym c.as_slice.ensures) ∙ sym c.number.ensures.number ∙ c.in-Some.is in
    let due = subst (λ (l : Lineage). IsDue (refused_as recast_refusal (recast_checked l (recast_asked words))) failure) c.evolving-evolving.ensures c.in_err-names.ensures.refused in
    rw (p.1, p.2) (subst (λ (v : Warehouse). IsDue (recast_table v words) failure) c.self.view_is (recast_refused (warehouse_of w.store w.given (map pin_seen w.pins.items)) refl words number failure found due))

pub recast-requires-clause-allowed : goal.recast-requires-clause-allowed
recast-requires-clause-allowed c =
    let words = c.args.words.now in
    let l = (table_at c.self.inside.store.store c.in-Some.number).lineage in
    let asked : c.in_ok-names.names ≡ record { keys = words.keys; values = words.values } = c.in_ok-names.ensures.asked in
    (λ j. recast_checked l (record { keys = (asked j).keys; values = (asked j).values })) ∙ ap (λ (e : Lineage). recast_checked e (recast_asked words)) (sym c.evolving-evolving.ensures) ∙ c.in_ok-names.ensures.checked

pub returns-clause-done : goal.returns-clause-done
returns-clause-done c =
    let w = c.self.inside in
    let words = c.args.words.now in
    let pins = map pin_seen w.pins.items in
    let number = c.in-Some.number in
    let l = (table_at w.store.store number).lineage in
    let found : table_number w.store.store words.table ≡ Some number = ap (table_number w.store.store) (sym c.as_slice.ensures) ∙ sym c.number.ensures.number ∙ c.in-Some.is in
    let checked = ap (λ (e : Lineage). recast_checked e (recast_asked words)) (sym c.evolving-evolving.ensures) ∙ c.in_ok-names.ensures.checked in
    let table = c.in_ok-table.ensures ∙ c.name.ensures in
    let epoch : c.epoch-epoch.result + 1 ≡ epoch_of l + 1 = ap (λ e. e + 1) (c.epoch-epoch.ensures.count ∙ ap epoch_of c.evolving-evolving.ensures) in
    let asked : c.in_ok-names.names ≡ record { keys = words.keys; values = words.values } = c.in_ok-names.ensures.asked in
    let made = c.in_ok-recast.ensures.recast ∙ (λ j. with_table_recast w.store number (record { keys = (asked j).keys; values = (asked j).values })) in
    sym (ap (λ (v : Warehouse). recast_table v words) c.self.view_is) ∙ recast_done (warehouse_of w.store w.given pins) refl words number found checked
    ∙ (λ j. Ok (warehouse_of (sym made j) w.given pins, reply.Recast (sym table j) (sym epoch j)))
