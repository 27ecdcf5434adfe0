use Rattle.std.proofs.Common.{◌≡◌, refl, arith, rules, ◌∙◌, ap, length}
use Rattle.std.proofs.lemmas.List.{take_at}
use Rattle.mesa_open_files.specs.mesa_columns.Columns.{aggs_of}
use Rattle.mesa_open_files.specs.mesa_delta_format.Totals.{added}
use Rattle.mesa_examine.proofs.Tallying.{ends_more}
use Rattle.mesa_examine.proofs.tally.Ends.go_on.Goals as goal

pub returns : goal.returns
returns c =
    let len : length c.add_values.new.aggregates ≡ c.args.self.now.aggregates.len = omega (arith, c.add_values.ensures.len, ap length c.deref_mut.ensures.value, c.args.self.now.aggregates.ok) in
    let is : c.add_values.new.aggregates ≡ added (aggs_of c.args.schema.now) c.args.self.now.aggregates.items c.args.row.now.values = search rules in
    λ rows h. ends_more c.args.schema.now c.args.self.now _ c.args.row.now rows c.requires.values c.requires.later (search rules) refl (search rules) (take_at c.add_values.new.aggregates _ c.args.self.now.aggregates.len len ∙ is) h
