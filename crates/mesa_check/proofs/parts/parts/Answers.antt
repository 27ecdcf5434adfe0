use Rattle.std.proofs.Common.{◌≡◌, ◌≤◌, ◌+◌, ◌-◌, ◌++◌, ◌∙◌, ap, drop, sym, subst, map, Some}
use Rattle.std.specs.Prelude.{IfSome, Option}
use Rattle.std.specs.List.{AllByRecursion}
use Rattle.mesa_store_spec.specs.Catalog.{Delta, start_in}
use Rattle.mesa_pick_files.specs.Lent.{now_if_any, single_delta, with_rows}
use Rattle.mesa_pick_files.proofs.Among.{epochs_chosen}
use Rattle.mesa_catalog_table.specs.Meaning.{AreLoaded, meta_of}
use Rattle.mesa_catalog_table.specs.Named.{through}
use Rattle.mesa_check.specs.Faults.{merged_singles}
use Rattle.mesa_check.specs.Parts.{parts_of}
use Rattle.mesa_check.specs.declared.testing.Test.{Test}
use Rattle.mesa_check.proofs.Behind.{lent_first, parts_epochs, since_lent}
use Rattle.mesa_check.proofs.parts.parts.Goals as goal

pub loaded_between-requires-clause-loaded : goal.loaded_between-requires-clause-loaded
loaded_between-requires-clause-loaded c = let is = c.requires.table.1 in (_, _, subst (AreLoaded _ _) (sym c.deref.ensures.value) is.loaded)

pub returns-in-Some-clause-range : goal.returns-in-Some-clause-range
returns-in-Some-clause-range c = λ next is.
    let t = c.args.table.now in
    let b : Test = c.in-Some.before.now in
    let to = c.args.to in
    let given : now_if_any c.args.before ≡ Some b = ap now_if_any c.in-Some.is in
    let order = subst (λ o. IfSome o (λ x. x.range.to ≤ to)) given c.requires.order in
    let since = c.loaded_between.result.now in
    let cut = ap (λ ls. through b.range.to ls ++ since) (sym c.deref.ensures.value) ∙ c.loaded_between.ensures ∙ ap (through to) c.deref.ensures.value in
    lent_first b.range.delta (map single_delta since) (drop (b.range.to + 1 - start_in (meta_of next t)) (merged_singles (meta_of next t) to)) (since_lent next b.range.to to t since is order cut) ∙ ap (λ (o : Option Test). with_rows (parts_of (meta_of next t) o to)) (sym given)

pub returns-in-Some-clause-epochs : goal.returns-in-Some-clause-epochs
returns-in-Some-clause-epochs c = λ next epoch is all before.
    let u = meta_of next c.args.table.now in
    let o = now_if_any c.args.before in
    subst (AllByRecursion (λ (d : Delta). d.epoch ≤ epoch)) (sym (returns-in-Some-clause-range c next is)) (epochs_chosen epoch (parts_of u o c.args.to) (parts_epochs u o c.args.to epoch all before))

pub returns-in-None-clause-range : goal.returns-in-None-clause-range
returns-in-None-clause-range c = λ next is.
    c.singles_to.ensures.range next is ∙ ap (λ (o : Option Test). with_rows (parts_of (meta_of next c.args.table.now) o c.args.to)) (sym (ap now_if_any c.in-None.is))

pub returns-in-None-clause-epochs : goal.returns-in-None-clause-epochs
returns-in-None-clause-epochs c = λ next epoch is all before. c.singles_to.ensures.epochs next epoch is all
