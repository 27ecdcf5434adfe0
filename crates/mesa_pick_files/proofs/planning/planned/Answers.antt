use Rattle.std.proofs.Common.{◌+◌, ◌≤◌, ◌*◌, ◌++◌, ◌∙◌, sym, ap, subst, arith, map}
use Rattle.std.specs.Prelude.{option_map}
use Rattle.std.specs.List.{AllByRecursion}
use Rattle.mesa_validate.specs.mesa_store_spec.Catalog.{Delta}
use Rattle.mesa_validate.specs.mesa_store_spec.Fitting.{base_deltas}
use Rattle.mesa_validate.specs.mesa_store_spec.Planned.{behind_base, longest_to, planned}
use Rattle.mesa_catalog_table.specs.Meaning.{AreLoaded, ending_of, meta_of}
use Rattle.mesa_catalog_table.specs.Named.{through}
use Rattle.mesa_pick_files.specs.Lent.{lent_if_any, loaded_from, single_delta, ten_deltas, with_rows}
use Rattle.mesa_pick_files.proofs.Among.{all_planned, epochs_chosen}
use Rattle.mesa_pick_files.proofs.Lending.{behind_lent, rows_join}
use Rattle.mesa_pick_files.proofs.Parted.{loaded_on}
use Rattle.mesa_pick_files.proofs.planning.planned.Goals as goal

pub from_on-requires : goal.from_on-requires
from_on-requires c = let is = c.requires.2 in (_, _, subst (AreLoaded _ _) (sym c.deref-2.ensures.value) is.loaded)

pub up_to-requires : goal.up_to-requires
up_to-requires c =
    let is = c.requires.2 in
    (_, _, subst (AreLoaded _ _) (sym (c.from_on.ensures ∙ ap (loaded_from _) c.deref-2.ensures.value)) (loaded_on _ _ _ c.args.table.now.loaded.items is.loaded))

pub returns-clause-behind : goal.returns-clause-behind
returns-clause-behind c = λ next is.
    let t = c.args.table.now in
    let v = c.args.version in
    let k = c.tens_within-tens.result in
    let tens = c.tens_within-tens.ensures in
    let behind = behind_lent next v k t is (omega (arith, tens)) (λ some. omega (arith, tens, some)) (λ more. omega (arith, tens, more)) in
    let ten = c.last_of.ensures ∙ ap (ten_deltas k) c.deref.ensures.value in
    let singles = c.up_to.ensures ∙ ap (through v) (c.from_on.ensures ∙ (λ i. loaded_from (c.start.ensures.start i + 10 * k) (c.deref-2.ensures.value i))) in
    (λ i. with_rows (ten i ++ map single_delta (singles i))) ∙ sym behind

pub returns-clause-plan : goal.returns-clause-plan
returns-clause-plan c = λ next is.
    let t = c.args.table.now in
    let v = c.args.version in
    rows_join (lent_if_any c.base_delta.result) (base_deltas (option_map ending_of t.base)) (lent_if_any c.last_of.result ++ map single_delta c.up_to.result.now) (behind_base (meta_of next t) v (longest_to (meta_of next t) v)) c.base_delta.ensures (returns-clause-behind c next is)

pub returns-clause-epochs : goal.returns-clause-epochs
returns-clause-epochs c = λ next epoch is all.
    let u = meta_of next c.args.table.now in
    subst (AllByRecursion (λ (d : Delta). d.epoch ≤ epoch)) (sym (returns-clause-plan c next is)) (epochs_chosen epoch (planned u c.args.version) (all_planned (λ (d : Delta). d.epoch ≤ epoch) u all c.args.version))
