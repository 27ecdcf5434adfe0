use Rattle.std.proofs.Common.{◌++◌, ◌∷◌, [], ◌∙◌, ap, sym, subst, map}
use Rattle.std.proofs.lemmas.List.{take_all}
use Rattle.mesa_catalog_records.specs.mesa_store_spec.Checkpoint.{stating_table}
use Rattle.mesa_catalog_records.specs.mesa_catalog_table.Meaning.{IsTable, meta_of}
use Rattle.mesa_catalog.proofs.Restored.{mapped_more}
use Rattle.mesa_catalog_records.proofs.TableMetas.{all_at}
use Rattle.mesa_catalog.proofs.stating.state_tables.Goals as goal

pub state-requires : goal.state-requires
state-requires c =
    let next = c.requires.0 in
    (next, c.requires.1, subst (IsTable next) (sym c.table-item.is) (all_at (IsTable next) c.args.tables.now c.loop-table.table-index c.table-item.result c.requires.2 c.loop-table-test.true))

pub loop-table-preserved : goal.loop-table-preserved
loop-table-preserved c = λ next all.
    let tables = c.args.tables.now in
    let i = c.loop-table.table-index in
    let t = c.table-item.result in
    let table = subst (IsTable next) (sym c.table-item.is) (all_at (IsTable next) tables i t all c.loop-table-test.true) in
    c.in_ok-push.ensures.items ∙ (λ k. c.loop-table.invariant next all k ++ c.in_ok-state.ensures next table k ∷ [])
    ∙ sym (mapped_more (meta_of next) stating_table tables i t c.loop-table-test.true c.table-item.is)

pub returns : goal.returns
returns c = λ next all. c.loop-table.invariant next all ∙ ap (λ ts. map stating_table (map (meta_of next) ts)) (take_all c.loop-table.table-index c.args.tables.now c.loop-table-test.false)
