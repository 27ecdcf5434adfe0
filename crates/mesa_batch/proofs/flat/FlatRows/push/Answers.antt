use Rattle.std.proofs.Common.{◌≡◌, ◌<◌, ◌^◌, ◌∙◌, ◌++◌, ◌∷◌, [], ◌+◌, ap, arith, length}
use Rattle.mesa_schema.specs.mesa_columns.Lent.{lent}
use Rattle.mesa_batch.proofs.Flats.{flat_more, row_pushed}
use Rattle.mesa_batch.proofs.flat.FlatRows.push.Goals as goal

pub invariant_of-self-2 : goal.invariant_of-self-2
invariant_of-self-2 c =
    let r = c.self.inside in
    let end : c.saturating_add-end.result ≡ length r.values.items + length c.args.row.values.now = omega (arith, r.values.ok.0) in
    let few : length r.tables.items + 1 < 2 ^ 32 = omega (arith, r.tables.ok.0) in
    rw (c.push_reserved.ensures.items, c.reserve.ensures.items, c.in_ok-push.ensures.ok, c.in_default.ensures.items, c.push_reserved-2.ensures.items, c.reserve-2.ensures.items)
    (flat_more r.tables.items r.keys r.values.items r.ends.items c.args.table c.args.row.key.now c.args.row.values.now c.saturating_add-end.result c.self.invariant end few)

pub returns-clause-ok : goal.returns-clause-ok
returns-clause-ok c =
    let r = c.self.inside in
    let end : c.saturating_add-end.result ≡ length r.values.items + length c.args.row.values.now = omega (arith, r.values.ok.0) in
    rw (c.push_reserved.ensures.items, c.reserve.ensures.items, c.in_ok-push.ensures.ok, c.in_default.ensures.items, c.push_reserved-2.ensures.items, c.reserve-2.ensures.items)
    (row_pushed r.tables.items r.keys r.values.items r.ends.items c.self.invariant c.args.table c.args.row.key.now c.args.row.values.now c.saturating_add-end.result end
    ∙ ap (λ rows. rows ++ record { table = c.args.table; row = lent c.args.row } ∷ []) c.self.view_is)
