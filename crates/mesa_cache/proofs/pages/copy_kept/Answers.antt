use Rattle.std.proofs.Common.{◌≡◌, ◌-◌, ◌≤◌, ◌+◌, length, sym, arith}
use Rattle.mesa_cache.proofs.Kept.{found_is_kept, promoted_among}
use Rattle.mesa_cache.proofs.pages.copy_kept.Goals as goal

pub overflow_add-offset : goal.overflow_add-offset
overflow_add-offset c =
    let within : c.args.offset + length c.args.piece.now ≤ length c.in-Some.page.now = c.requires c.in-Some.page.now (found_is_kept _ _ _ (sym c.in-Some.ensures.value)) in search (arith, within)

pub slice_bounds-copy_from_slice-end : goal.slice_bounds-copy_from_slice-end
slice_bounds-copy_from_slice-end c =
    let within : c.args.offset + length c.args.piece.now ≤ length c.in-Some.page.now = c.requires c.in-Some.page.now (found_is_kept _ _ _ (sym c.in-Some.ensures.value)) in search (arith, within)

pub returns-in-Some-clause-found : goal.returns-in-Some-clause-found
returns-in-Some-clause-found c = λ _.
    let count : c.args.offset + length c.args.piece.now - c.args.offset ≡ length c.args.piece.now = omega arith in
    (c.in-Some.page.now, found_is_kept _ _ _ (sym c.in-Some.ensures.value), rw (count, c.as_slice.ensures) at c.copy_from_slice.ensures.after)

pub returns-in-Some-clause-among : goal.returns-in-Some-clause-among
returns-in-Some-clause-among c = rw c.get.follows.holds-at-none (promoted_among c.args.number c.args.pages.now.entries)

pub returns-in-None-clause-among : goal.returns-in-None-clause-among
returns-in-None-clause-among c = rw c.get.follows.holds-at-none (promoted_among c.args.number c.args.pages.now.entries)
