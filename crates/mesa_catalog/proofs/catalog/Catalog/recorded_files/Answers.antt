use Rattle.std.proofs.Common.{List, ◌++◌, ◌∙◌, sym, subst, map, rules}
use Rattle.std.specs.Prelude.{flat_map, IsPermutation}
use Rattle.std.specs.List.{AllByRecursion}
use Rattle.std.proofs.lemmas.List.Sorted.{IsNonDecreasingBy-from_sort_by_key}
use Rattle.mesa_catalog_records.specs.mesa_store_spec.Fitting.{meta_live}
use Rattle.mesa_catalog_records.specs.mesa_catalog_table.declared.recorded.Recorded.{Recorded}
use Rattle.mesa_catalog_records.specs.mesa_catalog_table.declared.table.Table.{Table}
use Rattle.mesa_catalog_records.specs.mesa_catalog_table.Files.{AreRecorded, recorded_id, recorded_of}
use Rattle.mesa_catalog_records.specs.mesa_catalog_table.Meaning.{IsTable, meta_of}
use Rattle.mesa_catalog.specs.Kept.{Reserved}
use Rattle.mesa_catalog_records.specs.Meaning.{catalogue_of}
use Rattle.mesa_catalog.proofs.Sorting.{recorded_tables, sorted_recorded}
use Rattle.mesa_catalog.proofs.catalog.Catalog.recorded_files.Goals as goal

pub push_recorded-requires : goal.push_recorded-requires
push_recorded-requires c =
    let s = c.self.inside.catalog_tables in
    (s.next, subst (AllByRecursion (IsTable s.next)) (sym c.deref.ensures.value) c.self.invariant.catalog_tables.tables)

pub returns : goal.returns
returns c =
    let s = c.self.inside.catalog_tables in
    let files = c.sort_unstable_by_key.new.self.items in
    let all = c.in_ok-push_recorded.ensures s.next
    ∙ (λ i. c.new-files.ensures.items i ++ flat_map (λ (t : Table). map recorded_of (meta_live (meta_of s.next t))) (c.deref.ensures.value i)) ∙ sym (recorded_tables s) in
    let moved = subst (λ (old : List Recorded). IsPermutation old files) all c.sort_unstable_by_key.ensures.permutation in
    let sorted = IsNonDecreasingBy-from_sort_by_key recorded_id files c.sort_unstable_by_key.ensures.sorted (λ a r q k. search rules) in
    let recorded = sorted_recorded (catalogue_of s) files moved sorted c.self.invariant.once in
    subst (λ (k : Reserved). AreRecorded k.catalogue files) c.self.view_is recorded
