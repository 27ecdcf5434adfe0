use Rattle.std.proofs.Common.{◌<◌, ◌≤◌, ◌∙◌, ap, sym, arith, length}
use Rattle.std.proofs.Math.ListN.{get_or-eq_default}
use Rattle.std.proofs.lemmas.List.{get_or_read}
use Rattle.mesa_batch.specs.Flat.{placed_at}
use Rattle.mesa_batch.proofs.Flats.{table_is}
use Rattle.mesa_batch.proofs.flat.FlatRows.table.Goals as goal

pub returns-then-place-len : goal.returns-then-place-len
returns-then-place-len c =
    let r = c.self.inside in
    let is = ap (λ rows. (placed_at rows c.args.place).table) (sym c.self.view_is) ∙ table_is r.tables.items r.keys r.values.items r.ends.items c.self.invariant c.args.place in
    let within : c.args.place < length r.tables.items = omega (arith, r.tables.ok.0) in
    get_or_read r.tables.items _ _ within c.index.ensures 0 ∙ sym is

pub returns-else-place-len : goal.returns-else-place-len
returns-else-place-len c =
    let r = c.self.inside in
    let is = ap (λ rows. (placed_at rows c.args.place).table) (sym c.self.view_is) ∙ table_is r.tables.items r.keys r.values.items r.ends.items c.self.invariant c.args.place in
    let behind : length r.tables.items ≤ c.args.place = omega (arith, r.tables.ok.0) in
    sym (is ∙ get_or-eq_default r.tables.items 0 behind)
