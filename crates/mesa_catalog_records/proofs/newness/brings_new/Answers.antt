use Rattle.std.proofs.Common.{ℕ, ◌∙◌, ap, sym, Bool}
use Rattle.std.specs.List.{list_all}
use Rattle.mesa_table_records.specs.mesa_record.declared.record.Part.{Part}
use Rattle.mesa_table_records.specs.mesa_catalog_table.Named.{file_ids, ids_if_any}
use Rattle.mesa_catalog_records.specs.Named.{held_ids, ids_brought, is_once_new, part_ids}
use Rattle.mesa_catalog_records.proofs.Ids.{all-flat_map, new_each}
use Rattle.mesa_catalog_records.proofs.newness.brings_new.Goals as goal

pub returns-in-Publish : goal.returns-in-Publish
returns-in-Publish c =
    let s = c.args.catalog_tables.now in
    let ids = ids_brought c.args.r.now in
    let test : ℕ → Bool = is_once_new s.run (held_ids s) ids in
    c.parts_are_new.ensures ∙ ap (list_all (λ (p : Part). list_all test (file_ids p.files))) c.as_slice.ensures
    ∙ sym (all-flat_map test part_ids c.in-Publish.parts) ∙ ap (list_all test) (sym (ap ids_brought c.in-Publish.is)) ∙ sym (new_each s.run (held_ids s) ids)

pub returns-in-Recast : goal.returns-in-Recast
returns-in-Recast c =
    let s = c.args.catalog_tables.now in
    let ids = ids_brought c.args.r.now in
    let test : ℕ → Bool = is_once_new s.run (held_ids s) ids in
    c.recast_is_new.ensures ∙ ap (list_all test) (sym (ap ids_brought c.in-Recast.is)) ∙ sym (new_each s.run (held_ids s) ids)

pub returns-in-Some : goal.returns-in-Some
returns-in-Some c =
    let s = c.args.catalog_tables.now in
    let ids = ids_brought c.args.r.now in
    let test : ℕ → Bool = is_once_new s.run (held_ids s) ids in
    c.files_are_new.ensures ∙ ap (list_all test) (sym (ap ids_brought c.in-Swap.is ∙ ap ids_if_any c.in-Some.is)) ∙ sym (new_each s.run (held_ids s) ids)
