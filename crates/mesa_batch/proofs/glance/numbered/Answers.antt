use Rattle.std.proofs.Common.{◌∙◌, ap, sym, take, map}
use Rattle.std.specs.Option.{option_or}
use Rattle.std.specs.Bool.{then_some}
use Rattle.mesa_list.specs.Bytes.{same_bytes}
use Rattle.mesa_schema.specs.mesa_columns.Columns.{place_of}
use Rattle.mesa_batch.specs.declared.glance.Glanced.{Glanced}
use Rattle.mesa_batch.proofs.NameNumbers.{names_next}
use Rattle.mesa_batch.proofs.glance.numbered.Goals as goal

pub tables-preserved : goal.tables-preserved
tables-preserved c = λ q.
    c.in_ok-number_name.ensures q
    ∙ ap (λ o. option_or o (then_some (same_bytes q c.bytes.result.now) c.tables.number)) (c.tables.invariant q)
    ∙ ap (λ n. option_or (place_of q (take c.tables.number (map (λ (t : Glanced). t.name) c.args.tables.now))) (then_some (same_bytes q n) c.tables.number)) c.bytes.ensures.same
    ∙ sym (names_next c.args.tables.now c.tables.number c.index-tables-number.result c.tables-test.true c.index-tables-number.is q)
