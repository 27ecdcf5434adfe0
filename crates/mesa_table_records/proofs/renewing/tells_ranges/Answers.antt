use Rattle.std.proofs.Common.{◌∙◌, ap, sym}
use Rattle.std.specs.Prelude.{◌&&◌}
use Rattle.mesa_schema.specs.Recasts.{recast_lineage}
use Rattle.mesa_catalog_table.specs.mesa_store_spec.Catalog.{recast_in, start_in}
use Rattle.mesa_catalog_table.specs.mesa_store_spec.Checkpoint.{stating_singles}
use Rattle.mesa_catalog_table.specs.mesa_store_spec.Fitting.{singles_renewed}
use Rattle.mesa_catalog_table.specs.Meaning.{singles_from, start_of_base, meta_of}
use Rattle.mesa_table_records.proofs.Stated.{singles_stated}
use Rattle.mesa_catalog_table.proofs.Works.{starts}
use Rattle.mesa_table_records.proofs.renewing.tells_ranges.Goals as goal

pub returns-then-tells_base : goal.returns-then-tells_base
returns-then-tells_base c = λ next table.
    let t = c.args.t.now in
    let k = c.args.k.now in
    let u = meta_of next t in
    let m = recast_lineage t.evolving.value (recast_in k) in
    let held =
    sym (singles_stated (start_of_base t.base) next t.loaded.items table.loaded)
    ∙ ap (λ from. stating_singles from (singles_from (start_of_base t.base) next t.loaded.items)) (sym (starts next t)) in
    c.tells_loaded.ensures ∙ ap (λ olds. singles_renewed m k.epoch olds k.singles) held
    ∙ ap (λ b. b && singles_renewed m k.epoch (stating_singles (start_in u) u.singles) k.singles) (sym c.if-tells_base.true ∙ c.tells_base.ensures)

pub returns-else-tells_base : goal.returns-else-tells_base
returns-else-tells_base c = λ next table.
    let k = c.args.k.now in
    let u = meta_of next c.args.t.now in
    let m = recast_lineage c.args.t.now.evolving.value (recast_in k) in
    c.if-tells_base.false ∙ ap (λ b. b && singles_renewed m k.epoch (stating_singles (start_in u) u.singles) k.singles) (sym c.if-tells_base.false ∙ c.tells_base.ensures)
