use Rattle.std.proofs.Common.{◌≡◌, ◌∙◌, ap, sym, map, arith, false}
use Rattle.std.specs.Prelude.{◌==◌, ◌||◌}
use Rattle.std.specs.List.{list_any}
use Rattle.std.proofs.lemmas.Bool.Decides.{nat_tests}
use Rattle.mesa_record.specs.declared.record.ViewRef.{ViewRef}
use Rattle.mesa_store_spec.specs.Fitting.{has_number}
use Rattle.mesa_catalog_table.specs.Named.{view_id}
use Rattle.mesa_catalog_table.proofs.Named.{any-map}
use Rattle.mesa_catalog_table.proofs.naming.files_name.Goals as goal

pub returns-else-id-number : goal.returns-else-id-number
returns-else-id-number c =
    let id = c.args.id in
    let f = c.args.files.now in
    let other : (id == f.file.id) ≡ false = grind (arith, nat_tests) in
    c.views_name.ensures ∙ ap (list_any (λ (v : ViewRef). id == v.file.id)) c.as_slice.ensures
    ∙ sym (any-map (λ n. id == n) view_id f.views) ∙ ap (λ b. b || has_number id (map view_id f.views)) (sym other)
