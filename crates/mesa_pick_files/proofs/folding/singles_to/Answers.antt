use Rattle.std.proofs.Common.{◌≤◌, ◌∙◌, map, sym, ap, subst, false}
use Rattle.std.specs.List.{AllByRecursion}
use Rattle.mesa_validate.specs.mesa_store_spec.Catalog.{Delta}
use Rattle.mesa_validate.specs.mesa_store_spec.Brought.{merged_of}
use Rattle.mesa_catalog_table.specs.Meaning.{meta_of}
use Rattle.mesa_catalog_table.specs.Named.{through}
use Rattle.mesa_pick_files.specs.Lent.{single_delta, with_rows}
use Rattle.mesa_pick_files.proofs.Among.{all_singles, epochs_chosen}
use Rattle.mesa_pick_files.proofs.Lending.{singles_lent}
use Rattle.mesa_pick_files.proofs.folding.singles_to.Goals as goal

pub returns-clause-range : goal.returns-clause-range
returns-clause-range c = λ next is.
    ap (λ ls. with_rows (map single_delta ls)) (c.up_to.ensures ∙ ap (through c.args.to) c.deref.ensures.value) ∙ singles_lent next c.args.to c.args.table.now is

pub returns-clause-epochs : goal.returns-clause-epochs
returns-clause-epochs c = λ next epoch is all.
    let u = meta_of next c.args.table.now in
    subst (AllByRecursion (λ (d : Delta). d.epoch ≤ epoch)) (sym (returns-clause-range c next is)) (epochs_chosen epoch (merged_of u false c.args.to) (all_singles (λ (d : Delta). d.epoch ≤ epoch) u all c.args.to))
