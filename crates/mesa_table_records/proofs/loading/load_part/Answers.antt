use Rattle.std.proofs.Common.{◌∙◌, ap, sym, subst}
use Rattle.std.specs.Prelude.{Option, option_map, IfSome}
use Rattle.mesa_catalog_table.specs.mesa_store_spec.Catalog.{meta_loaded}
use Rattle.mesa_table_records.specs.declared.ready.ReadyPart.{ReadyPart}
use Rattle.mesa_catalog_table.specs.Meaning.{meta_of}
use Rattle.mesa_table_records.specs.Readied.{IsPartOf, part_in}
use Rattle.mesa_table_records.proofs.Loads.{loaded_nothing, loaded_part, table_next, table_part}
use Rattle.mesa_table_records.proofs.loading.load_part.Goals as goal

pub returns-in-Some-clause-loaded : goal.returns-in-Some-clause-loaded
returns-in-Some-clause-loaded c =
    let t = c.args.table.now in
    let part = subst (λ (p : Option ReadyPart). IfSome p (IsPartOf t)) c.in-Some.is c.requires.part in
    loaded_part c.args.version t c.in-Some.part c.push_reserved.new.self c.requires.table part c.push_reserved.ensures.items
    ∙ ap (λ (p : Option ReadyPart). meta_loaded (meta_of c.args.version t) (option_map part_in p)) (sym c.in-Some.is)

pub returns-in-Some-clause-table : goal.returns-in-Some-clause-table
returns-in-Some-clause-table c = table_part c.args.version c.args.table.now c.in-Some.part c.push_reserved.new.self c.requires.table c.push_reserved.ensures.items

pub returns-in_default-clause-loaded : goal.returns-in_default-clause-loaded
returns-in_default-clause-loaded c =
    let t = c.args.table.now in
    loaded_nothing c.args.version t c.requires.table ∙ ap (λ (p : Option ReadyPart). meta_loaded (meta_of c.args.version t) (option_map part_in p)) (sym c.in_default.is)

pub returns-in_default-clause-table : goal.returns-in_default-clause-table
returns-in_default-clause-table c = table_next c.args.version c.args.table.now c.requires.table
