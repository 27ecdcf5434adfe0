use Rattle.std.proofs.Common.{◌≡◌, ◌∙◌, ap, sym, arith, length, get_or}
use Rattle.std.specs.Prelude.{sum_by}
use Rattle.std.proofs.lemmas.List.{drop_all}
use Rattle.std.proofs.lemmas.List.Sums.{sum_by-drop_more}
use Rattle.mesa_schema.specs.Changes.{Lineage, epoch_of}
use Rattle.mesa_catalog.specs.Lookups.{changes_of}
use Rattle.mesa_catalog.proofs.lookups.generation.Goals as goal

pub overflow_add-changes-in-loop-table-2 : goal.overflow_add-changes-in-loop-table-2
overflow_add-changes-in-loop-table-2 c =
    let small = c.loop-table.invariant.small in
    let changes = c.epoch.ensures.rules.few_changes in
    let few = c.epoch.ensures.rules.few_views in
    let views = ap (λ (l : Lineage). length l.views) (c.deref.ensures ∙ sym c.deref-in-loop-table.ensures) in
    omega arith

pub loop-table-preserved : goal.loop-table-preserved
loop-table-preserved c =
    let tables = c.args.tables.now in
    let i = c.loop-table.table-index in
    let t = c.table-item.result in
    let small = c.loop-table.invariant.small in
    let left = c.loop-table.invariant.left in
    let changes = c.epoch.ensures.rules.few_changes in
    let few = c.epoch.ensures.rules.few_views in
    let views = ap (λ (l : Lineage). length l.views) (c.deref.ensures ∙ sym c.deref-in-loop-table.ensures) in
    let seen = c.views.ensures ∙ ap (λ (l : Lineage). length l.views) c.deref.ensures in
    let epoch = c.epoch.ensures.count ∙ ap epoch_of c.deref-in-loop-table.ensures in
    let more = sum_by-drop_more changes_of tables i t c.loop-table-test.true in
    let here : changes_of (get_or tables i t) ≡ changes_of t = ap changes_of (sym c.table-item.is) in
    record { left = omega arith; small = omega arith }

pub returns : goal.returns
returns c =
    let left = c.loop-table.invariant.left in
    let none = ap (sum_by changes_of) (drop_all c.loop-table.table-index c.args.tables.now c.loop-table-test.false) in
    omega arith
