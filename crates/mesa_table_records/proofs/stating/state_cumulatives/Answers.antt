use Rattle.std.proofs.Common.{◌≡◌, ◌+◌, ◌-◌, ◌++◌, ◌∷◌, [], ◌∙◌, ap, sym, arith}
use Rattle.mesa_catalog_table.specs.mesa_span.Ranges.{end_of}
use Rattle.mesa_catalog_table.specs.mesa_store_spec.Catalog.{Delta}
use Rattle.mesa_catalog_table.specs.mesa_store_spec.Checkpoint.{stating_range}
use Rattle.mesa_table_records.proofs.Stated.{ten_stated}
use Rattle.mesa_table_records.proofs.stating.state_cumulatives.Goals as goal

pub loop-delta-preserved : goal.loop-delta-preserved
loop-delta-preserved c =
    let inv = c.loop-delta.invariant in
    let i = c.loop-delta.delta-index in
    let to = c.loop-delta.behind + 10 - 1 in
    let end : to ≡ end_of c.args.start i = omega (arith, inv.behind) in
    let one = c.in_ok-state_range.ensures ∙ ap (λ (d : Delta). stating_range (record { to = to; delta = d })) c.deref.ensures in
    record {
      behind = omega (arith, inv.behind);
      stated = c.in_ok-push.ensures.items ∙ (λ k. inv.stated k ++ one k ∷ []) ∙ sym (ten_stated c.args.start to c.args.cumulatives.now i c.delta-item.result c.loop-delta-test.true c.delta-item.is end);
    }
