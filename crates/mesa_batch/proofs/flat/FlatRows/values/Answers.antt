use Rattle.std.proofs.Common.{◌<◌, ◌≤◌, ◌∙◌, ap, sym, arith, rules, length, get_or}
use Rattle.mesa_list.proofs.Pieces.{place_rises}
use Rattle.mesa_batch.specs.Flat.{placed_at}
use Rattle.mesa_batch.proofs.Flats.{no_values, values_are}
use Rattle.mesa_batch.proofs.flat.FlatRows.values.Goals as goal

pub returns-then-place-ends : goal.returns-then-place-ends
returns-then-place-ends c =
    let r = c.self.inside in
    let behind : length r.ends.items ≤ c.args.place = omega (arith, ap length c.as_slice-ends.ensures.value) in
    sym (ap (λ rows. (placed_at rows c.args.place).row.values) (sym c.self.view_is) ∙ no_values r.tables.items r.keys r.values.items r.ends.items c.self.invariant c.args.place behind)

pub slice_bounds-result-count : goal.slice_bounds-result-count
slice_bounds-result-count c =
    let r = c.self.inside in
    let within : c.args.place < length r.ends.items = omega (arith, ap length c.as_slice-ends.ensures.value) in
    rw (c.begin_of-start.ensures, c.as_slice-ends.ensures.value) (place_rises 0 r.ends.items c.args.place c.self.invariant.rise within).0

pub slice_bounds-result-end-2 : goal.slice_bounds-result-end-2
slice_bounds-result-end-2 c =
    let r = c.self.inside in
    let within : c.args.place < length r.ends.items = omega (arith, ap length c.as_slice-ends.ensures.value) in
    let low : c.begin_of-start.result ≤ get_or c.as_slice-ends.result.now c.args.place 0 = rw (c.begin_of-start.ensures, c.as_slice-ends.ensures.value) (place_rises 0 r.ends.items c.args.place c.self.invariant.rise within).0 in
    let high : get_or c.as_slice-ends.result.now c.args.place 0 ≤ length c.deref.result.now = rw (c.as_slice-ends.ensures.value, c.deref.ensures.value, ← c.self.invariant.whole) (place_rises 0 r.ends.items c.args.place c.self.invariant.rise within).1 in
    search rules

pub slice_bounds-result-start : goal.slice_bounds-result-start
slice_bounds-result-start c =
    let r = c.self.inside in
    let within : c.args.place < length r.ends.items = omega (arith, ap length c.as_slice-ends.ensures.value) in
    let low : c.begin_of-start.result ≤ get_or c.as_slice-ends.result.now c.args.place 0 = rw (c.begin_of-start.ensures, c.as_slice-ends.ensures.value) (place_rises 0 r.ends.items c.args.place c.self.invariant.rise within).0 in
    let high : get_or c.as_slice-ends.result.now c.args.place 0 ≤ length c.deref.result.now = rw (c.as_slice-ends.ensures.value, c.deref.ensures.value, ← c.self.invariant.whole) (place_rises 0 r.ends.items c.args.place c.self.invariant.rise within).1 in
    search rules

pub returns : goal.returns
returns c =
    let r = c.self.inside in
    let within : c.args.place < length r.ends.items = omega (arith, ap length c.as_slice-ends.ensures.value) in
    rw (c.begin_of-start.ensures, c.as_slice-ends.ensures.value, c.deref.ensures.value)
    (sym (ap (λ rows. (placed_at rows c.args.place).row.values) (sym c.self.view_is) ∙ values_are r.tables.items r.keys r.values.items r.ends.items c.self.invariant c.args.place within))
