use Rattle.std.proofs.Common.{◌≡◌, ◌∙◌, ap, sym, length, true, false, arith}
use Rattle.std.specs.Prelude.{◌==◌, ◌&&◌}
use Rattle.std.specs.List.{list_all}
use Rattle.std.proofs.lemmas.Bool.Decides.{nat_tests}
use Rattle.mesa_schema.specs.Changes.{columns_at}
use Rattle.mesa_schema.specs.Recasts.{recast_lineage}
use Rattle.mesa_catalog_table.specs.mesa_store_spec.Catalog.{recast_in}
use Rattle.mesa_catalog_table.specs.mesa_store_spec.Fitting.{is_view_ref}
use Rattle.mesa_table_records.proofs.Renewed.{recast_width, views_counted}
use Rattle.mesa_table_records.proofs.renewing.counts_new.Goals as goal

pub returns-then-len : goal.returns-then-len
returns-then-len c =
    let l = c.args.evolving.now in
    let k = c.args.k.now in
    let f = c.args.files.now in
    let m = recast_lineage l (recast_in k) in
    let count : length f.file.aggregates ≡ length (columns_at m k.epoch).values = sym c.len.ensures ∙ c.if-len.true ∙ c.len-2.ensures ∙ sym (recast_width l (recast_in k) k.epoch c.requires) in
    let same : (length f.file.aggregates == length (columns_at m k.epoch).values) ≡ true = grind (arith, nat_tests) in
    c.counts_views.ensures ∙ ap (list_all (is_view_ref l)) c.as_slice.ensures
    ∙ sym (views_counted l (recast_in k) f.views c.present.ensures.rules c.requires) ∙ ap (λ b. b && list_all (is_view_ref m) f.views) (sym same)

pub returns-else-len : goal.returns-else-len
returns-else-len c =
    let l = c.args.evolving.now in
    let k = c.args.k.now in
    let f = c.args.files.now in
    let m = recast_lineage l (recast_in k) in
    let width = c.len-2.ensures ∙ sym (recast_width l (recast_in k) k.epoch c.requires) in
    let test : (c.len.result == c.len-2.result) ≡ false = grind (arith, nat_tests) in
    let same : (length f.file.aggregates == length (columns_at m k.epoch).values) ≡ false = (λ i. sym c.len.ensures i == sym width i) ∙ test in
    test ∙ ap (λ b. b && list_all (is_view_ref m) f.views) (sym same)
