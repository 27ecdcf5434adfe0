use Rattle.std.proofs.Common.{◌++◌, ◌-◌, ◌^◌, ◌∙◌, ap, sym, subst, arith}
use Rattle.mesa_catalog_records.specs.mesa_catalog_table.Meaning.{IsTable}
use Rattle.mesa_catalog_records.specs.mesa_catalog_table.Named.{table_ids}
use Rattle.mesa_catalog_records.proofs.mesa_catalog_table.Pushes.{pushed_more}
use Rattle.mesa_catalog_records.proofs.Dropped.{all_held}
use Rattle.mesa_catalog_records.proofs.TableMetas.{all_at}
use Rattle.mesa_catalog.proofs.files.push_ids.Goals as goal

pub loop-table-preserved : goal.loop-table-preserved
loop-table-preserved c =
    let tables = c.args.tables.now in
    let i = c.loop-table.table-index in
    let t = c.table-item.result in
    let next = c.requires.0 in
    let few = c.requires.1 in
    let table = subst (IsTable next) (sym c.table-item.is) (all_at (IsTable next) tables i t c.requires.2 c.loop-table-test.true) in
    pushed_more table_ids _ _ _ tables i t c.loop-table-test.true c.table-item.is c.loop-table.invariant
    (c.in_ok-push_ids.ensures ∙ ap (λ ids. c.loop-table.ids.items ++ ids) (all_held next (2 ^ 32 - 1) t (omega (arith, few)) table))
