use Rattle.std.proofs.Common.{ℕ, ◌++◌, ◌∙◌, ◌≤◌, ap, sym, subst, arith, rules}
use Rattle.std.specs.Prelude.{◌==◌, ◌&&◌, flat_map, nat_le, is_some, IfSome}
use Rattle.std.specs.List.{AllByRecursion, list_all}
use Rattle.std.proofs.lemmas.List.Sorted.{IsNonDecreasingBy-from_sort_by_key}
use Rattle.mesa_catalog_records.specs.mesa_store_spec.Fitting.{run_of_id}
use Rattle.mesa_catalog_records.specs.mesa_store_spec.Ids.{named, times}
use Rattle.mesa_catalog_records.specs.mesa_catalog_table.Meaning.{IsTable}
use Rattle.mesa_catalog_records.specs.mesa_catalog_table.Named.{table_ids}
use Rattle.mesa_catalog_records.specs.Meaning.{catalogue_of}
use Rattle.mesa_catalog.specs.Restored.{ids_rise}
use Rattle.mesa_catalog_records.proofs.Ids.{named_held}
use Rattle.mesa_catalog.proofs.RestoredIds.{ids_decided, ids_refused, if_then_some, some_then}
use Rattle.mesa_catalog.proofs.restored_ids.greatest_id.Goals as goal

pub push_ids-requires : goal.push_ids-requires
push_ids-requires c =
    let s = c.args.catalog_tables.now in
    let few = c.requires.most in
    (s.next, omega (arith, few), subst (AllByRecursion (IsTable s.next)) (sym c.deref.ensures.value) c.requires.tables)

pub returns-then-not-are_of_runs-clause-fits : goal.returns-then-not-are_of_runs-clause-fits
returns-then-not-are_of_runs-clause-fits c =
    let s = c.args.catalog_tables.now in
    let all = c.in_ok-push_ids.ensures ∙ (λ i. c.new-ids.ensures.items i ++ flat_map table_ids (c.deref.ensures.value i)) ∙ sym (named_held s) in
    let runs = ap (list_all (λ id. nat_le (run_of_id id) s.run)) (sym (c.deref-2.ensures.value ∙ all)) ∙ sym c.are_of_runs.ensures ∙ c.if-not-are_of_runs.true in
    ids_refused s.run (named (catalogue_of s)) runs

pub returns-clause-fits : goal.returns-clause-fits
returns-clause-fits c =
    let s = c.args.catalog_tables.now in
    let ids = c.push_ids.new.ids.items in
    let sorted = c.sort_unstable_by_key.new.self.items in
    let all = c.in_ok-push_ids.ensures ∙ (λ i. c.new-ids.ensures.items i ++ flat_map table_ids (c.deref.ensures.value i)) ∙ sym (named_held s) in
    let runs = ap (list_all (λ id. nat_le (run_of_id id) s.run)) (sym c.deref-2.ensures.value) ∙ sym c.are_of_runs.ensures ∙ c.if-not-are_of_runs.false in
    let order = IsNonDecreasingBy-from_sort_by_key (λ (id : ℕ). id) sorted c.sort_unstable_by_key.ensures.sorted (λ a r q k. search rules) in
    ap is_some c.then_some.ensures ∙ some_then c.rise.result _ ∙ c.rise.ensures ∙ ap ids_rise c.deref-4.ensures.value
    ∙ ids_decided s.run ids sorted c.sort_unstable_by_key.ensures.permutation order runs ∙ ap (λ ns. list_all (λ id. (times id ns == 1) && nat_le (run_of_id id) s.run) ns) all

pub returns-clause-most : goal.returns-clause-most
returns-clause-most c =
    let s = c.args.catalog_tables.now in
    let greatest = c.greatest_of-greatest.result in
    let all = c.in_ok-push_ids.ensures ∙ (λ i. c.new-ids.ensures.items i ++ flat_map table_ids (c.deref.ensures.value i)) ∙ sym (named_held s) in
    let most = subst (AllByRecursion (λ id. id ≤ greatest)) (c.deref-3.ensures.value ∙ all) c.greatest_of-greatest.ensures in
    let P = λ (most : ℕ). AllByRecursion (λ id. id ≤ most) (named (catalogue_of s)) in
    subst (λ o. IfSome o P) (sym c.then_some.ensures) (if_then_some c.rise.result greatest P most)
