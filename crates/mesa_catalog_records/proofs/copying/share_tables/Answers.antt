use Rattle.std.proofs.Common.{◌++◌, ◌∷◌, [], ◌∙◌, ap, sym, subst, map}
use Rattle.std.specs.List.{AllByRecursion}
use Rattle.std.proofs.lemmas.List.{map_push, take_all}
use Rattle.mesa_table_records.specs.mesa_catalog_table.Meaning.{IsTable, meta_of}
use Rattle.mesa_catalog_records.proofs.Ids.{take_each}
use Rattle.mesa_catalog_records.proofs.TableMetas.{all_at, all_pushed}
use Rattle.mesa_catalog_records.proofs.copying.share_tables.Goals as goal

pub loop-table-preserved : goal.loop-table-preserved
loop-table-preserved c =
    let tables = c.args.tables.now in
    let i = c.loop-table.table-index in
    let t = c.table-item.result in
    record {
      same = λ next.
          ap (map (meta_of next)) c.in_ok-push.ensures.items ∙ map_push (meta_of next) c.loop-table.shared.items _
          ∙ (λ j. c.loop-table.invariant.same next j ++ c.in_ok-share_table.ensures.same next j ∷ []) ∙ sym (take_each (meta_of next) tables i t c.loop-table-test.true c.table-item.is);
      tables = λ next all.
          let table = subst (IsTable next) (sym c.table-item.is) (all_at (IsTable next) tables i t all c.loop-table-test.true) in
          subst (AllByRecursion (IsTable next)) (sym c.in_ok-push.ensures.items)
          (all_pushed (IsTable next) c.loop-table.shared.items _ (c.loop-table.invariant.tables next all) (c.in_ok-share_table.ensures.table next table));
    }

pub returns-clause-same : goal.returns-clause-same
returns-clause-same c = λ next. c.loop-table.invariant.same next ∙ ap (map (meta_of next)) (take_all c.loop-table.table-index c.args.tables.now c.loop-table-test.false)

pub returns-clause-tables : goal.returns-clause-tables
returns-clause-tables c = λ next all. c.loop-table.invariant.tables next all
