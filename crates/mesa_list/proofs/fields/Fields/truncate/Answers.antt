use Rattle.std.proofs.Common.{◌≡◌, ◌≤◌, length, take, arith, ap, sym, ◌∙◌, length-take-le}
use Rattle.std.proofs.lemmas.List.{take_all}
use Rattle.mesa_list.specs.Pieces.{last_end}
use Rattle.mesa_list.proofs.Pieces.{count_of_pieces, pieces_cut, pieces_take, rise_take}
use Rattle.mesa_list.proofs.fields.Fields.truncate.Goals as goal

pub invariant_of-self : goal.invariant_of-self
invariant_of-self c =
    let front = rise_take 0 c.self.inside.ends.items c.args.len c.self.invariant.0 in
    let end : c.begin_of-end.result ≡ last_end 0 (take c.args.len c.self.inside.ends.items) = rw c.deref.ensures.value at c.begin_of-end.ensures in
    let cut : length (take c.begin_of-end.result c.self.inside.bytes.items) ≡ c.begin_of-end.result = length-take-le c.begin_of-end.result c.self.inside.bytes.items (omega (arith, front.1, c.self.invariant.1)) in
    rw (c.truncate.ensures.items, c.truncate-then-len.ensures.items) (front.0, omega arith, omega arith)

pub returns-then-len : goal.returns-then-len
returns-then-len c =
    let front = rise_take 0 c.self.inside.ends.items c.args.len c.self.invariant.0 in
    let end : c.begin_of-end.result ≡ last_end 0 (take c.args.len c.self.inside.ends.items) = rw c.deref.ensures.value at c.begin_of-end.ensures in
    rw (c.truncate.ensures.items, c.truncate-then-len.ensures.items, ← c.self.view_is)
    (pieces_cut c.self.inside.bytes.items 0 (take c.args.len c.self.inside.ends.items) c.begin_of-end.result front.0 (omega arith)
    ∙ pieces_take c.self.inside.bytes.items 0 c.self.inside.ends.items c.args.len)

pub returns-else-len : goal.returns-else-len
returns-else-len c =
    let few : length c.args.self.now ≤ c.args.len = omega (arith, c.len.ensures, ap length c.self.view_is, count_of_pieces c.self.inside.bytes.items 0 c.self.inside.ends.items) in
    sym (take_all c.args.len c.args.self.now few)
