use Rattle.std.proofs.Common.{◌∙◌, ap, map}
use Rattle.mesa_batch.specs.Glance.{columns_in}
use Rattle.mesa_batch.specs.Numbers.{known_of}
use Rattle.mesa_batch.proofs.SharedColumns.{shared-more, shared_all}
use Rattle.mesa_batch.proofs.glance.Glance.columns.Goals as goal

pub tables-preserved : goal.tables-preserved
tables-preserved c = shared-more c.deref-table-items.result.now c.tables.columns c.push.new.self c.tables.table-index c.table-item.result c.in_ok-clone.field-0 c.tables-test.true c.table-item.is c.in_ok-clone.ensures.cases c.in_ok-push.ensures.ok c.tables.invariant

pub returns : goal.returns
returns c =
    shared_all c.deref-table-items.result.now c.tables.columns c.tables.table-index c.tables-test.false c.tables.invariant
    ∙ ap (λ tables. columns_in (record { generation = c.self.inside.generation; tables = map known_of tables })) c.deref-table-items.ensures.value ∙ ap columns_in c.self.view_is
