use Rattle.std.proofs.Common.{◌≡◌, refl, arith, rules, ◌∙◌, ap, length}
use Rattle.std.proofs.lemmas.List.{take_at}
use Rattle.mesa_columns.specs.Columns.{aggs_of}
use Rattle.mesa_columns.specs.Lent.{lent}
use Rattle.mesa_delta_format.specs.Totals.{added}
use Rattle.mesa_delta_format.proofs.Adding.{goes_on}
use Rattle.mesa_delta_format.proofs.tally.Tally.go_on.Goals as goal

pub returns : goal.returns
returns c =
    let len : length c.add_values.new.totals ≡ c.args.self.now.totals.len = omega (arith, c.add_values.ensures.len, ap length c.deref_mut.ensures.value, c.args.self.now.totals.ok) in
    let is : c.add_values.new.totals ≡ added (aggs_of c.args.schema.now) c.args.self.now.totals.items c.args.row.values.now = search rules in
    λ rows h. goes_on c.args.schema.now c.args.self.now _ (lent c.args.row) rows c.requires.values c.requires.later (search rules) refl (search rules) (take_at c.add_values.new.totals _ c.args.self.now.totals.len len ∙ is) h
