use Rattle.std.proofs.Common.{arith}
use Rattle.mesa_key.proofs.Eights.{eights_decide}
use Rattle.mesa_key.proofs.order.compare_eights.Goals as goal

pub returns : goal.returns
returns c =
    eights_decide c.args.a.now c.args.b.now c.first_eight.result c.first_eight-2.result c.cmp.result c.requires.a c.requires.b (λ i. omega (arith, c.type_inv.a i)) (λ i. omega (arith, c.type_inv.b i)) c.first_eight.ensures c.first_eight-2.ensures c.cmp.ensures
