-- A text behind lines, byte by byte.
use Rattle.std.proofs.Common.{◌≡◌, length, ℕ, zero, suc, ◌<◌, ◌≤◌, ◌-◌, List, [], ◌∷◌, Bool, sym, ap, ◌∙◌, arith, refl, eq-eqb, ne_eqb}
use Rattle.std.specs.Prelude.{if◌then◌else◌}
use Rattle.mesa_generate.specs.Lines.{behind_lines}

pub behind_nothing : (n : ℕ) → behind_lines n [] ≡ []
unfolding behind_lines
behind_nothing zero = refl
behind_nothing (suc n) = refl

-- a break ends a line
pub behind_break : (n : ℕ) (b : ℕ) (text : List ℕ) → 0 < n → b ≡ 10 → behind_lines (n - 1) text ≡ behind_lines n (b ∷ text)
unfolding behind_lines
behind_break zero b text some is = absurd (omega (arith, some))
behind_break (suc n) b text some is =
    ap (λ m. behind_lines m text) (omega arith) ∙ ap (λ (t : Bool). if t then behind_lines n text else behind_lines (suc n) text) (sym (eq-eqb b 10 is))

-- any other byte doesn't
pub behind_other : (n : ℕ) (b : ℕ) (text : List ℕ) → 0 < n → (b ≡ 10 → ⊥) → behind_lines n text ≡ behind_lines n (b ∷ text)
unfolding behind_lines
behind_other zero b text some is = absurd (omega (arith, some))
behind_other (suc n) b text some is = ap (λ (t : Bool). if t then behind_lines n text else behind_lines (suc n) text) (sym (ne_eqb b 10 is))

-- behind no line stands the text
pub behind_all : (n : ℕ) (text : List ℕ) → n ≤ 0 → text ≡ behind_lines n text
unfolding behind_lines
behind_all zero text none = refl
behind_all (suc n) text none = absurd (omega (arith, none))

-- nothing is left of the text
pub behind_end : (n : ℕ) (text : List ℕ) → length text ≡ 0 → text ≡ behind_lines n text
behind_end n [] is = sym (behind_nothing n)
behind_end n (b ∷ text) is = absurd (omega (arith, is))
