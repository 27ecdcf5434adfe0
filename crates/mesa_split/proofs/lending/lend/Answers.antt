use Rattle.std.proofs.Common.{◌≡◌, ◌+◌, ◌++◌, [], ◌∷◌, List, length, set, refl, sym, ap, subst, ◌∙◌, arith, length-append}
use Rattle.mesa_split.specs.Lending.{AreLent, lists_in, lists_of}
use Rattle.mesa_split.specs.declared.parts.Part.{Part}
use Rattle.mesa_split.proofs.Loans.{lend_step}
use Rattle.mesa_split.proofs.lending.lend.Goals as goal

pub spares-init : goal.spares-init
spares-init g c =
    let items : c.push_reserved.new.self.items ≡ c.part_of.result ∷ [] = c.push_reserved.ensures.items ∙ ap (λ (ps : List (Part g.row.R.Denot)). ps ++ c.part_of.result ∷ []) c.in-Ok.ensures.items in
    record {
      count = ap length items;
      lent = subst (λ (ps : List (Part g.row.R.Denot)). AreLent (lists_of c.args.inputs.now c.args.spare.now) (lists_of c.part_of.new.inputs c.args.spare.now) (lists_in ps)) (sym items) (c.part_of.ensures.lent, c.part_of.ensures.empty, refl);
      room = c.push_reserved.ensures.capacity ∙ c.in-Ok.ensures.exact;
    }

pub spares-preserved : goal.spares-preserved
spares-preserved g c =
    let inv = c.spares.invariant in
    let i = c.spares.i in
    let d = c.index-spare-i.result in
    let own = c.args.inputs.now in
    let now = c.part_of.new.inputs in
    let items : c.push_reserved-in-spares.new.self.items ≡ c.spares.parts.items ++ c.spare_part.result ∷ [] = c.push_reserved-in-spares.ensures.items in
    record {
      count = ap length items ∙ length-append c.spares.parts.items (c.spare_part.result ∷ []) ∙ ap (λ n. n + 1) inv.count;
      lent = subst (λ (ps : List (Part g.row.R.Denot)). AreLent (lists_of own c.args.spare.now) (lists_of now (set c.spares.spare i c.spare_part.new.spare)) (lists_in ps)) (sym items)
          (lend_step own now c.args.spare.now c.spares.spare c.spares.parts.items i c.spare_part.result c.spare_part.new.spare d inv.lent inv.count (omega (arith, c.spares-test.true, c.requires)) c.spares.auto.spare c.spare_part.ensures.lent c.spare_part.ensures.empty);
      room = c.push_reserved-in-spares.ensures.capacity ∙ inv.room;
    }
