use Rattle.std.proofs.Common.{◌∙◌, ap, map, refl}
use Rattle.mesa_catalog_table.specs.declared.table.Table.{Table}
use Rattle.mesa_catalog_table.specs.Copied.{loaded_as, value_in}
use Rattle.mesa_catalog_table.proofs.Copies.{shared_meta, shared_table}
use Rattle.mesa_catalog_table.proofs.copying.share_table.Goals as goal

pub returns-clause-same : goal.returns-clause-same
returns-clause-same c = λ next.
    let new : Table = record { name = c.in_ok-name.name; evolving = c.in_ok-evolving.evolving; widths = c.in_ok-widths.widths; totals = c.in_ok-totals.totals; oldest = c.args.table.now.oldest; base = c.in_ok-base.base; cumulatives = c.in_ok-cumulatives.cumulatives; loaded = c.in_ok-loaded.loaded } in
    shared_meta next c.args.table.now new (record {
      name = c.in_ok-name.ensures;
      evolving = c.in_ok-evolving.ensures.cases;
      widths = c.in_ok-widths.ensures;
      totals = c.in_ok-totals.ensures;
      oldest = refl;
      base = c.in_ok-base.ensures;
      cumulatives = c.in_ok-cumulatives.ensures ∙ ap (map value_in) c.deref.ensures.value;
      loaded = c.in_ok-loaded.ensures ∙ ap (map loaded_as) c.deref-2.ensures.value;
    })

pub returns-clause-table : goal.returns-clause-table
returns-clause-table c = λ next table.
    let new : Table = record { name = c.in_ok-name.name; evolving = c.in_ok-evolving.evolving; widths = c.in_ok-widths.widths; totals = c.in_ok-totals.totals; oldest = c.args.table.now.oldest; base = c.in_ok-base.base; cumulatives = c.in_ok-cumulatives.cumulatives; loaded = c.in_ok-loaded.loaded } in
    shared_table next c.args.table.now new (record {
      name = c.in_ok-name.ensures;
      evolving = c.in_ok-evolving.ensures.cases;
      widths = c.in_ok-widths.ensures;
      totals = c.in_ok-totals.ensures;
      oldest = refl;
      base = c.in_ok-base.ensures;
      cumulatives = c.in_ok-cumulatives.ensures ∙ ap (map value_in) c.deref.ensures.value;
      loaded = c.in_ok-loaded.ensures ∙ ap (map loaded_as) c.deref-2.ensures.value;
    }) table
