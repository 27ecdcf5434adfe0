use Rattle.std.proofs.Common.{◌≡◌, ◌∙◌, ap, sym, Some}
use Rattle.std.specs.Prelude.{◌&&◌}
use Rattle.mesa_schema.specs.Changes.{Lineage}
use Rattle.mesa_schema.specs.Recasts.{recast_lineage}
use Rattle.mesa_catalog_table.specs.mesa_store_spec.Catalog.{Delta, recast_in}
use Rattle.mesa_catalog_table.specs.mesa_store_spec.Fitting.{files_fit, files_renewed}
use Rattle.mesa_catalog_table.specs.mesa_store_spec.SameFiles.{same_views}
use Rattle.mesa_table_records.proofs.renewing.renews_delta.Goals as goal

pub returns-in-Some-new-2 : goal.returns-in-Some-new-2
returns-in-Some-new-2 c =
    let k = c.args.k.now in
    let old = c.in-Some.old in
    let new = c.in-Some-new-2.new in
    let held : c.args.delta.now.files ≡ Some old = ap (λ (d : Delta). d.files) (sym c.delta.view_is) ∙ c.in-Some.is in
    c.renews_files.ensures
    ∙ ap (λ (l : Lineage). same_views old.views new.views && files_fit (recast_lineage l (recast_in k)) k.epoch new) c.deref.ensures
    ∙ (λ i. files_renewed (recast_lineage c.args.t.now.evolving.value (recast_in k)) k.epoch (sym held i) (sym c.in-Some-new-2.is i))
