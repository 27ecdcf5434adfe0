use Rattle.std.proofs.Common.{◌∙◌, ap, sym}
use Rattle.std.specs.Option.{option_copied, option_or}
use Rattle.mesa_catalog_table.specs.Meaning.{meta_of}
use Rattle.mesa_catalog_table.specs.Ranged.{single_at}
use Rattle.mesa_catalog_table.proofs.table.Table.delta.Goals as goal

pub returns-in-Some-cumulative : goal.returns-in-Some-cumulative
returns-in-Some-cumulative c =
    let base = sym (ap option_copied c.in_default.is) ∙ c.base_delta.ensures in
    let cumulative = sym (ap option_copied c.in-Some-cumulative.is) ∙ c.cumulative.ensures c.args.next in
    λ i. option_or (base i) (option_or (cumulative i) (single_at (meta_of c.args.next c.args.self.now) c.args.from c.args.to))

pub returns : goal.returns
returns c =
    let base = sym (ap option_copied c.in_default.is) ∙ c.base_delta.ensures in
    let cumulative = sym (ap option_copied c.in_default-cumulative.is) ∙ c.cumulative.ensures c.args.next in
    λ i. option_or (base i) (option_or (cumulative i) (c.single.ensures i))
