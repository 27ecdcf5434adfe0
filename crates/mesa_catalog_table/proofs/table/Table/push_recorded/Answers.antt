use Rattle.std.proofs.Common.{◌++◌, ◌∙◌, ap, sym, append_assoc, map}
use Rattle.std.specs.Prelude.{flat_map, option_map}
use Rattle.mesa_schema.specs.Changes.{Lineage}
use Rattle.mesa_store_spec.specs.Fitting.{base_deltas, delta_live}
use Rattle.mesa_catalog_table.specs.Files.{recorded_of, recorded_shared, recorded_single}
use Rattle.mesa_catalog_table.specs.Meaning.{ending_of}
use Rattle.mesa_catalog_table.proofs.Named.{recorded_held}
use Rattle.mesa_catalog_table.proofs.Pushes.{on_ok}
use Rattle.mesa_catalog_table.proofs.table.Table.push_recorded.Goals as goal

pub returns : goal.returns
returns c =
    let t = c.args.self.now in
    let l = t.evolving.value in
    let old = c.args.files.now.items in
    let bases = map recorded_of (flat_map (delta_live l) (base_deltas (option_map ending_of t.base))) in
    let cumulatives = flat_map (recorded_shared l) t.cumulatives.items in
    let singles = flat_map (recorded_single l) t.loaded.items in
    let first = c.in_ok-push_base.ensures ∙ ap (λ (k : Lineage). old ++ map recorded_of (flat_map (delta_live k) (base_deltas (option_map ending_of t.base)))) c.deref.ensures in
    let second = c.in_ok-push_cumulatives.ensures ∙ (λ i. c.push_base.new.files.items ++ flat_map (recorded_shared (c.deref-2.ensures i)) (c.deref-3.ensures.value i)) in
    on_ok c.push_loaded.result _ _ (λ more. λ next.
    more ∙ (λ i. c.push_cumulatives.new.files.items ++ flat_map (recorded_single (c.deref-4.ensures i)) (c.deref-5.ensures.value i))
    ∙ ap (λ files. files ++ singles) (second ∙ ap (λ files. files ++ cumulatives) first)
    ∙ append_assoc (old ++ bases) cumulatives singles ∙ append_assoc old bases (cumulatives ++ singles)
    ∙ ap (λ files. old ++ files) (sym (recorded_held next t))) c.push_loaded.ensures
