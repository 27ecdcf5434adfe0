use Rattle.mesa_delta.proofs.mesa_block.Made.{not_none, over_room, row_there, within_keys}
use Rattle.mesa_split.proofs.flat.FlatRows.row.Goals as goal

pub values_at-requires : goal.values_at-requires
values_at-requires c =
    let b = c.self.inside in
    rw c.deref.ensures.value (over_room b.count c.args.i b.keys b.values.items c.self.invariant (within_keys b.count c.args.i b.keys b.values.items c.args.self.now c.self.view_is c.requires))

pub unreachable-requires : goal.unreachable-requires
unreachable-requires c =
    let b = c.self.inside in
    not_none b.keys c.args.i (within_keys b.count c.args.i b.keys b.values.items c.args.self.now c.self.view_is c.requires) c.in-None.ensures

pub returns : goal.returns
returns c =
    let b = c.self.inside in
    row_there b.count c.args.i b.keys b.values.items c.values_at.result.now c.args.self.now c.in-Some.key.now c.self.view_is c.self.invariant c.requires c.in-Some.ensures (rw c.deref.ensures.value at c.values_at.ensures)
