-- Calls that move no image, one after another, and what they count.
use Rattle.std.proofs.Common.{◌≡◌, ◌+◌, ◌≤◌, Bool, false, refl, ◌∙◌, arith}
use Rattle.mesa_disk.specs.Story.{Story, Unmoved}
use Rattle.mesa_open_files.specs.Opening.{Counted, one_if}

pub unmoved_none : (s : Story) → Unmoved s s
unmoved_none s = record { told = refl; len = λ a. refl; moment = refl; may_leave = λ c. (λ x. x, λ x. x); may_have_left = λ t c. (λ x. x, λ x. x) }

pub unmoved_more : (a b d : Story) → Unmoved a b → Unmoved b d → Unmoved a d
unmoved_more a b d one two = record {
  told = two.told ∙ one.told;
  len = λ x. two.len x ∙ one.len x;
  moment = two.moment ∙ one.moment;
  may_leave = λ c. (λ x. (one.may_leave c).0 ((two.may_leave c).0 x), λ x. (two.may_leave c).1 ((one.may_leave c).1 x));
  may_have_left = λ t c. (λ x. (one.may_have_left t c).0 ((two.may_have_left t c).0 x), λ x. (two.may_have_left t c).1 ((one.may_have_left t c).1 x));
}

pub counted_none : (s : Story) → Counted s s false
counted_none s = record { faults = omega arith; read_faults = omega arith; both = λ a b. omega arith; quiet = λ no. (refl, refl) }

-- a call without a fault, and then one with or without
pub counted_more : (a b d : Story) (x : Bool) → Counted a b false → Counted b d x → Counted a d x
counted_more a b d x one two =
    let none = one.quiet refl in
    record {
      faults = omega (arith, one.faults, two.faults);
      read_faults = omega (arith, one.read_faults, two.read_faults);
      both = λ low lower. (let g : b.faults + b.read_faults + one_if x ≤ d.faults + d.read_faults = two.both low lower in omega (arith, g, none.0, none.1));
      quiet = λ no. ((two.quiet no).0 ∙ none.0, (two.quiet no).1 ∙ none.1);
    }

-- and then readers that have not failed are given back
pub counted_then : (a b d : Story) (x : Bool) → Counted a b x → d.faults ≡ b.faults → d.read_faults ≡ b.read_faults → Counted a d x
counted_then a b d x one same none = record {
  faults = omega (arith, one.faults, same);
  read_faults = omega (arith, one.read_faults, none);
  both = λ low lower. (let g : a.faults + a.read_faults + one_if x ≤ b.faults + b.read_faults = one.both (omega (arith, low, same)) (omega (arith, lower, none)) in omega (arith, g, same, none));
  quiet = λ no. (same ∙ (one.quiet no).0, none ∙ (one.quiet no).1);
}
