use Rattle.std.proofs.Common.{◌≡◌, ◌+◌, ◌-◌, ◌/◌, ◌≤◌, ◌<◌, length, sym, ◌∙◌, arith, get_or, ap, List, ℕ, [], zero, suc, ◌∷◌, refl}
use Rattle.std.specs.Ordering.{is_le}
use Rattle.std.proofs.lemmas.List.{length-map}
use Rattle.mesa_block.specs.mesa_key.Order.{byte_cmp}
use Rattle.mesa_delta_format.specs.declared.place.Entry.{Entry}
use Rattle.mesa_delta_format.specs.Places.{shorts_of, short_of}
use Rattle.mesa_delta_format.proofs.Searching.{above, below, within}
use Rattle.mesa_delta_format.proofs.seeking.seek.Goals as goal

pub loop-high-init : goal.loop-high-init
loop-high-init c =
    record { order = omega arith; small = omega arith; least = omega arith; less = omega (arith, within c.short-key.result (shorts_of c.args.entries.now), length-map c.args.entries.now short_of) }

at_short : (es : List Entry) (i : ℕ) (d : Entry) → i < length es → get_or (shorts_of es) i [] ≡ (get_or es i d).short
at_short [] i d lt = absurd (omega arith)
at_short (e ∷ es) zero d lt = refl
at_short (e ∷ es) (suc i) d lt = at_short es i d (omega arith)

pub loop-high-preserved-then-is_at_most : goal.loop-high-preserved-then-is_at_most
loop-high-preserved-then-is_at_most c =
    let l = c.loop-high in
    let es = c.args.entries.now in
    let middle = l.low + (l.high - l.low) / 2 in
    let some : 1 ≤ middle = omega (arith, c.loop-high-test.true) in
    let inside : middle < length es = omega (arith, c.loop-high-test.true, l.invariant.small) in
    let found = below c.short-key.result (shorts_of es) middle [] some (omega (arith, inside, length-map es short_of)) (ap (λ s. is_le (byte_cmp c.short-key.result s)) (at_short es middle _ inside) ∙ sym c.is_at_most.ensures ∙ c.if-is_at_most.true) in
    record { order = omega arith; small = omega (arith, inside); least = l.invariant.least; less = omega (arith, found) }

pub loop-high-preserved : goal.loop-high-preserved
loop-high-preserved c =
    let l = c.loop-high in
    let es = c.args.entries.now in
    let middle = l.low + (l.high - l.low) / 2 in
    let inside : middle < length es = omega (arith, c.loop-high-test.true, l.invariant.small) in
    record {
      order = omega (arith, l.invariant.order);
      small = l.invariant.small;
      least = above c.short-key.result (shorts_of es) middle [] c.requires (omega (arith, inside, length-map es short_of)) (ap (λ s. is_le (byte_cmp c.short-key.result s)) (at_short es middle _ inside) ∙ sym c.is_at_most.ensures ∙ c.if-is_at_most.false);
      less = l.invariant.less;
    }
