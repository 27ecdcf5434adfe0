use Rattle.std.proofs.Common.{◌≡◌, ◌+◌, ◌∷◌, List, drop, map, take, sym, ap, ◌∙◌, arith, add-one}
use Rattle.mesa_open_files.specs.declared.merging.Spare.{Spare}
use Rattle.mesa_compact.proofs.Viewing.{drop_some}
use Rattle.mesa_split.specs.Lending.{lists_in, lists_of, returned}
use Rattle.mesa_split.specs.declared.parts.Part.{Part}
use Rattle.mesa_split.proofs.Loans.{give_empty, give_step, list_at, lists_count, parts_count, returned_none}
use Rattle.mesa_split.proofs.lending.give_back.Goals as goal

pub spares-init : goal.spares-init
spares-init g c =
    let rest : List (Part g.row.R.Denot) = c.pop_front.new.self.items in
    let whole : c.in-Some.first ∷ rest ≡ c.args.parts.items = sym c.in-Some.ensures.items ∙ c.from_vec-left.ensures.items in
    let spares = lists_of c.args.inputs.now c.args.spare.now in
    record {
      left = ap (drop 1) whole;
      lists = (λ k. c.put_back.ensures k ∷ sym (returned_none (map (λ (s : Spare g.row.R.Denot). s.inputs) c.args.spare.now)) k) ∙ ap (λ (ps : List (Part g.row.R.Denot)). returned spares (take 1 (lists_in ps))) whole;
    }

pub spare_put_back-requires-after_bounds : goal.spare_put_back-requires-after_bounds
spare_put_back-requires-after_bounds g c κs within =
    give_empty (lists_of c.args.inputs.now c.args.spare.now) (lists_in c.args.parts.items) c.put_back.new.inputs c.spares.spare (c.args.further + 1) c.spares.i c.index-spare-i.result c.spares.invariant.lists c.requires.empty (omega (arith, c.spares-test.true)) (omega (arith, c.spares-test.true, c.requires.few, c.spares.auto.spare))

pub spares-preserved : goal.spares-preserved
spares-preserved g c =
    let inv = c.spares.invariant in
    let i = c.spares.i in
    let d = c.index-spare-i.result in
    let parts : List (Part g.row.R.Denot) = c.args.parts.items in
    let part : Part g.row.R.Denot = c.in-Some-pop_front.part in
    let own = c.args.inputs.now in
    let ss : List (Spare g.row.R.Denot) = c.args.spare.now in
    let next = drop_some parts c.pop_front-in-spares.new.self.items (i + 1) part (sym inv.left ∙ c.in-Some-pop_front.ensures.items) in
    let t : Spare g.row.R.Denot = c.spare_put_back.new.spare in
    record {
      left = sym next.1 ∙ ap (λ n. drop n parts) (sym (add-one (i + 1)));
      lists = give_step (lists_of own ss) (lists_in parts) c.put_back.new.inputs c.spares.spare i t inv.lists
          (omega (arith, c.spares-test.true, c.requires.few, lists_count own ss)) (omega (arith, c.spares-test.true, c.requires.count, parts_count parts))
          (c.spare_put_back.ensures ∙ list_at parts (i + 1) part t.inputs next.0);
    }
