use Rattle.std.proofs.Common.{List, ℕ, ◌∙◌, ap, sym}
use Rattle.std.specs.Prelude.{flat_map, is_some, not}
use Rattle.std.proofs.lemmas.List.{map-id}
use Rattle.mesa_table_records.specs.mesa_columns.Names.{repeated}
use Rattle.mesa_catalog_records.specs.Names.{table_names}
use Rattle.mesa_catalog_records.proofs.Relations.{turned}
use Rattle.mesa_catalog_records.proofs.Names.{names_held, none_not}
use Rattle.mesa_catalog_records.proofs.catalog_tables.CatalogTables.names_differ.Goals as goal

pub returns : goal.returns
returns c =
    let s = c.args.self.now in
    let names = c.in_ok-names.names.items in
    let all = map-id c.deref-2.result.now ∙ c.deref-2.ensures.value ∙ c.in_ok-names.ensures ∙ ap (flat_map table_names) c.deref.ensures.value ∙ sym (names_held s.next s.tables.items) in
    turned _ _ c.is_none.ensures ∙ ap not (c.repeated_place.ensures.found ∙ ap (λ (ns : List (List ℕ)). is_some (repeated ns)) all) ∙ none_not _
