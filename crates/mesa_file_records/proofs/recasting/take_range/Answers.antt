use Rattle.std.proofs.Common.{◌≡◌, ◌<◌, refl, sym, subst, arith}
use Rattle.std.proofs.lemmas.List.{nil_from_length}
use Rattle.mesa_file_records.proofs.Takes.{IsTurned, never_empty, dropped_once, steps_to, taken_now, turned_nearer, turned_once, unturned}
use Rattle.mesa_file_records.proofs.recasting.take_range.Goals.{then-range-from-via-then-range-from, then-range-from-via-else-range-from+then-range-to}
use Rattle.mesa_file_records.proofs.recasting.take_range.Goals as goal

pub turns-init : goal.turns-init
turns-init g c = unturned c.args.left.now.items c.args.from c.args.to c.requires.there

-- another range goes to the end
pub turns-preserved-then-range-from : goal.turns-preserved-then-range-from
turns-preserved-then-range-from g c =
    let old = c.args.left.now.items in
    let x = c.in-Some.range in
    let other : (x.from ≡ c.args.from) → (x.to ≡ c.args.to) → ⊥ = elim c.then-range-from.branch [
      | then-range-from-via-then-range-from w ↦ λ from to. w.if-range-from.true from
      | then-range-from-via-else-range-from+then-range-to w ↦ λ from to. w.if-range-to.true to
    ] in
    subst (λ now. IsTurned old now c.args.from c.args.to) (sym c.in_ok-push_back.ensures.items)
    (turned_once old c.args.from c.args.to c.turns.left.items x c.pop_front.new.self.items c.in-Some.ensures.items c.turns.invariant other)

pub turns-smaller-then-range-from : goal.turns-smaller-then-range-from
turns-smaller-then-range-from g c =
    let old = c.args.left.now.items in
    let x = c.in-Some.range in
    let other : (x.from ≡ c.args.from) → (x.to ≡ c.args.to) → ⊥ = elim c.then-range-from.branch [
      | then-range-from-via-then-range-from w ↦ λ from to. w.if-range-from.true from
      | then-range-from-via-else-range-from+then-range-to w ↦ λ from to. w.if-range-to.true to
    ] in
    subst (λ now. steps_to c.args.from c.args.to now < steps_to c.args.from c.args.to c.turns.left.items) (sym c.in_ok-push_back.ensures.items)
    (turned_nearer old c.args.from c.args.to c.turns.left.items x c.pop_front.new.self.items c.in-Some.ensures.items c.turns.invariant other)

-- one without a file goes
pub turns-preserved : goal.turns-preserved
turns-preserved g c = dropped_once c.args.left.now.items c.args.from c.args.to c.turns.left.items c.in-Some.range c.pop_front.new.self.items c.in-Some.ensures.items c.turns.invariant c.in_default-file.is

pub returns-in-Some-file : goal.returns-in-Some-file
returns-in-Some-file g c = record {
  taken = (
    record { range = c.in-Some.range; file = c.in-Some-file.made },
    taken_now c.args.left.now.items c.args.from c.args.to c.turns.left.items c.in-Some.range c.pop_front.new.self.items c.in-Some.ensures.items c.turns.invariant c.in-Some-file.made c.if-range-from.false c.if-range-to.false c.in-Some-file.is,
    refl,
    c.if-range-from.false,
    c.if-range-to.false,
    refl,
  );
}

pub unreachable-requires : goal.unreachable-requires
unreachable-requires g c = never_empty c.args.left.now.items c.args.from c.args.to c.turns.left.items (nil_from_length c.turns.left.items (omega (arith, c.turns.left.ok.0, c.in_default.ensures.cases.0))) c.turns.invariant
