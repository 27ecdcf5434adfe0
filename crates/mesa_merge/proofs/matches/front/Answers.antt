use Rattle.std.proofs.Common.{◌∙◌, ap, arith}
use Rattle.std.specs.Int.{w128, from_be_bytes}
use Rattle.mesa_merge.proofs.Fronts.{short_bytes}
use Rattle.mesa_merge.proofs.matches.front.Goals as goal

pub returns : goal.returns
returns c = record {
  bytes = short_bytes c.args.key.now (λ i. omega (arith, c.type_inv.key i));
  is = c.from_be_bytes.ensures ∙ ap (from_be_bytes w128) c.short.ensures;
}
