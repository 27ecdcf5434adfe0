use Rattle.std.proofs.Common.{◌∙◌, ◌<◌, ap, sym, arith, length}
use Rattle.std.specs.Prelude.{slice_get}
use Rattle.mesa_list.proofs.Pieces.{place_rises}
use Rattle.mesa_batch.proofs.LoadedRows.{row_at, row_count}
use Rattle.mesa_batch.proofs.loading.LoadRows.row.Goals as goal

pub begin_of-start-requires : goal.begin_of-start-requires
begin_of-start-requires c = omega (arith, ap length c.as_slice-ends.ensures.value, ap length c.self.view_is, row_count c.self.inside.words c.self.inside.ends.items)

pub bounds-ends-i : goal.bounds-ends-i
bounds-ends-i c = omega (arith, ap length c.as_slice-ends.ensures.value, ap length c.self.view_is, row_count c.self.inside.words c.self.inside.ends.items)

pub offset_bounds-ends-i : goal.offset_bounds-ends-i
offset_bounds-ends-i c =
    let within : c.args.i < length c.as_slice-ends.result.now = omega (arith, ap length c.as_slice-ends.ensures.value, ap length c.self.view_is, row_count c.self.inside.words c.self.inside.ends.items) in
    omega arith

pub range-requires-clause-order : goal.range-requires-clause-order
range-requires-clause-order c =
    let within : c.args.i < length c.self.inside.ends.items = omega (arith, ap length c.self.view_is, row_count c.self.inside.words c.self.inside.ends.items) in
    rw (c.begin_of-start.ensures, c.as_slice-ends.ensures.value) (place_rises 0 c.self.inside.ends.items c.args.i c.self.invariant.0 within).0

pub range-requires-clause-within : goal.range-requires-clause-within
range-requires-clause-within c =
    let within : c.args.i < length c.self.inside.ends.items = omega (arith, ap length c.self.view_is, row_count c.self.inside.words c.self.inside.ends.items) in
    rw (c.as_slice-ends.ensures.value, ← c.self.invariant.1) (place_rises 0 c.self.inside.ends.items c.args.i c.self.invariant.0 within).1

pub returns : goal.returns
returns c =
    let within : c.args.i < length c.self.inside.ends.items = omega (arith, ap length c.self.view_is, row_count c.self.inside.words c.self.inside.ends.items) in
    let there = row_at c.self.inside.words c.self.inside.ends.items c.args.i within in
    rw (c.of.ensures, c.range.ensures, c.begin_of-start.ensures, c.as_slice-ends.ensures.value) (ap (λ rows. slice_get rows c.args.i) (sym c.self.view_is) ∙ there)
