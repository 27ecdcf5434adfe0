use Rattle.std.proofs.Common.{◌∙◌, ap, sym, []}
use Rattle.std.proofs.Math.ListN.{get_or-eq_default}
use Rattle.std.proofs.lemmas.List.{get_or_default}
use Rattle.mesa_batch.specs.Flat.{placed_at}
use Rattle.mesa_batch.proofs.Flats.{key_is}
use Rattle.mesa_batch.proofs.LoadedRows.{none_at, some_at}
use Rattle.mesa_batch.proofs.flat.FlatRows.key.Goals as goal

pub returns-in-Some : goal.returns-in-Some
returns-in-Some c =
    let r = c.self.inside in
    let is = ap (λ rows. (placed_at rows c.args.place).row.key) (sym c.self.view_is) ∙ key_is r.tables.items r.keys r.values.items r.ends.items c.self.invariant c.args.place in
    let found = some_at r.keys c.args.place c.in-Some.key.now c.in-Some.ensures in
    found.1 ∙ get_or_default r.keys c.args.place c.in-Some.key.now [] found.0 ∙ sym is

pub returns-in-None : goal.returns-in-None
returns-in-None c =
    let r = c.self.inside in
    let is = ap (λ rows. (placed_at rows c.args.place).row.key) (sym c.self.view_is) ∙ key_is r.tables.items r.keys r.values.items r.ends.items c.self.invariant c.args.place in
    sym (is ∙ get_or-eq_default r.keys [] (none_at r.keys c.args.place c.in-None.ensures))
