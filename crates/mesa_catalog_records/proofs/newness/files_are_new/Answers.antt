use Rattle.std.proofs.Common.{ℕ, ◌∙◌, ap, sym, map, Bool}
use Rattle.std.specs.Prelude.{◌&&◌}
use Rattle.std.specs.List.{list_all}
use Rattle.mesa_table_records.specs.mesa_record.declared.record.ViewRef.{ViewRef}
use Rattle.mesa_table_records.specs.mesa_catalog_table.Named.{view_id}
use Rattle.mesa_catalog_records.specs.Named.{held_ids, ids_brought, is_once_new}
use Rattle.mesa_catalog_records.proofs.Ids.{all-map}
use Rattle.mesa_catalog_records.proofs.newness.files_are_new.Goals as goal

pub returns-then-is_new : goal.returns-then-is_new
returns-then-is_new c =
    let s = c.args.catalog_tables.now in
    let f = c.args.files.now in
    let test : ℕ → Bool = is_once_new s.run (held_ids s) (ids_brought c.args.r.now) in
    c.views_are_new.ensures ∙ ap (list_all (λ (v : ViewRef). test v.file.id)) c.as_slice.ensures ∙ sym (all-map test view_id f.views)
    ∙ ap (λ b. b && list_all test (map view_id f.views)) (sym c.if-is_new.true ∙ c.is_new.ensures ∙ ap test c.number.ensures)
