use Rattle.std.proofs.Common.{◌++◌, ◌∷◌, [], ◌∙◌, ap, sym, append_assoc, map}
use Rattle.std.proofs.lemmas.Simd.{map-map}
use Rattle.mesa_store_spec.specs.Fitting.{LiveFile, view_live}
use Rattle.mesa_schema.specs.Changes.{columns_at}
use Rattle.mesa_catalog_table.specs.Files.{recorded_of, recorded_view}
use Rattle.mesa_catalog_table.proofs.Pushes.{on_ok}
use Rattle.mesa_catalog_table.proofs.recording.push_files.Goals as goal

pub returns : goal.returns
returns c =
    let l = c.args.evolving.now in
    let f = c.args.own.now in
    let old = c.args.files.now.items in
    let own : LiveFile = record { columns = columns_at l c.args.epoch; file = f.file } in
    let first = c.in_ok-push.ensures.items ∙ ap (λ r. old ++ r ∷ []) (c.recorded.ensures (columns_at l c.args.epoch) c.count_columns-columns.ensures) in
    on_ok c.push_views.result _ _ (λ more.
    more ∙ (λ i. first i ++ map (recorded_view l) (c.as_slice.ensures i)) ∙ append_assoc old (recorded_of own ∷ []) (map (recorded_view l) f.views)
    ∙ ap (λ rs. old ++ recorded_of own ∷ rs) (sym (map-map recorded_of (view_live l) f.views))) c.push_views.ensures
