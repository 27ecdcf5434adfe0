use Rattle.std.proofs.Common.{◌≤◌, ◌∙◌, ap, sym, subst}
use Rattle.std.specs.List.{AllByRecursion}
use Rattle.mesa_validate.specs.mesa_store_spec.Catalog.{Delta}
use Rattle.mesa_catalog_table.specs.Meaning.{meta_of}
use Rattle.mesa_pick_files.specs.Folding.{folded_deltas}
use Rattle.mesa_pick_files.specs.Lent.{with_rows}
use Rattle.mesa_pick_files.proofs.Among.{all_folded, epochs_chosen}
use Rattle.mesa_pick_files.proofs.folding.folded.Goals as goal

pub returns-then-base-clause-range : goal.returns-then-base-clause-range
returns-then-base-clause-range c = λ next is.
    c.planned-plan.ensures.plan next is ∙ ap (λ b. with_rows (folded_deltas (meta_of next c.args.table.now) b c.args.to)) (sym c.if-base.true)

pub returns-then-base-clause-epochs : goal.returns-then-base-clause-epochs
returns-then-base-clause-epochs c = c.planned-plan.ensures.epochs

pub returns-else-base-clause-range : goal.returns-else-base-clause-range
returns-else-base-clause-range c = λ next is.
    c.planned-plan.ensures.behind next is ∙ ap (λ b. with_rows (folded_deltas (meta_of next c.args.table.now) b c.args.to)) (sym c.if-base.false)

pub returns-else-base-clause-epochs : goal.returns-else-base-clause-epochs
returns-else-base-clause-epochs c = λ next epoch is all.
    let u = meta_of next c.args.table.now in
    subst (AllByRecursion (λ (d : Delta). d.epoch ≤ epoch)) (sym (returns-else-base-clause-range c next is)) (epochs_chosen epoch (folded_deltas u c.args.base c.args.to) (all_folded (λ (d : Delta). d.epoch ≤ epoch) u all c.args.base c.args.to))
