-- Texts without a line break.
use Rattle.std.proofs.Common.{◌≡◌, ℕ, zero, suc, ◌+◌, ◌==◌, ◌||◌, ◌&&◌, ◌/◌, ◌%◌, List, [], ◌∷◌, ◌++◌, Bool, true, false, refl, ◌∙◌, ap, arith, subst, ne_eqb, nat_lt}
use Rattle.std.specs.Prelude.{if◌then◌else◌}
use Rattle.std.specs.Fmt.{decimal, digit_glyph, digits, digits_onto}
use Rattle.std.specs.List.{list_all}
use Rattle.std.proofs.lemmas.Bool.{and_parts}
use Rattle.mesa_generate.specs.Lines.{IsUnbroken, has_break}
use Rattle.mesa_invariant_spec.specs.mesa_columns.Names.{is_lower, is_name, is_name_byte}

none_of : (a b : Bool) → (a || b) ≡ false → (a ≡ false) × (b ≡ false)
none_of true b is = absurd (cc is)
none_of false b is = (refl, is)

pub unbroken_parts : (b : ℕ) (text : List ℕ) → IsUnbroken (b ∷ text) → ((b == 10) ≡ false) × IsUnbroken text
unbroken_parts b text is = none_of (b == 10) (has_break text) is

pub unbroken_more : (b : ℕ) (text : List ℕ) → (b == 10) ≡ false → IsUnbroken text → IsUnbroken (b ∷ text)
unbroken_more b text not is = ap (λ (t : Bool). t || has_break text) not ∙ is

pub unbroken_both : (a b : List ℕ) → IsUnbroken a → IsUnbroken b → IsUnbroken (a ++ b)
unbroken_both [] b none is = is
unbroken_both (x ∷ a) b none is = let parts = unbroken_parts x a none in unbroken_more x (a ++ b) parts.0 (unbroken_both a b parts.1 is)

-- ---- numbers

glyph_unbroken : (d : ℕ) → (digit_glyph false d == 10) ≡ false
glyph_unbroken d = elim (nat_lt d 10) as (λ b. ((if b then 48 + d else 87 + d) == 10) ≡ false) [
  | true ↦ ne_eqb (48 + d) 10 (λ e. omega (arith, e))
  | false ↦ ne_eqb (87 + d) 10 (λ e. omega (arith, e))
]

digits_unbroken : (k n : ℕ) (behind : List ℕ) → IsUnbroken behind → IsUnbroken (digits_onto k 10 false n behind)
digits_unbroken zero n behind is = is
digits_unbroken (suc k) n behind is =
    let more = unbroken_more (digit_glyph false (n % 10)) behind (glyph_unbroken (n % 10)) is in
    elim (n / 10 == 0) as (λ b. IsUnbroken (if b then digit_glyph false (n % 10) ∷ behind else digits_onto k 10 false (n / 10) (digit_glyph false (n % 10) ∷ behind))) [
      | true ↦ more
      | false ↦ digits_unbroken k (n / 10) (digit_glyph false (n % 10) ∷ behind) more
    ]

pub decimal_unbroken : (n : ℕ) → IsUnbroken (decimal n)
unfolding digits
decimal_unbroken n = digits_unbroken 64 n [] refl

-- ---- names

byte_unbroken : (b : ℕ) → is_name_byte b ≡ true → (b == 10) ≡ false
byte_unbroken b is = ne_eqb b 10 (λ e. (let no : is_name_byte 10 ≡ true = subst (λ x. is_name_byte x ≡ true) e is in cc no))

bytes_unbroken : (text : List ℕ) → list_all is_name_byte text ≡ true → IsUnbroken text
bytes_unbroken [] is = refl
bytes_unbroken (b ∷ text) is = let parts = and_parts (is_name_byte b) (list_all is_name_byte text) is in unbroken_more b text (byte_unbroken b parts.0) (bytes_unbroken text parts.1)

lower_unbroken : (b : ℕ) → is_lower b ≡ true → (b == 10) ≡ false
lower_unbroken b is = ne_eqb b 10 (λ e. (let no : is_lower 10 ≡ true = subst (λ x. is_lower x ≡ true) e is in cc no))

first_of : (a b c : Bool) → (a && b && c) ≡ true → (a ≡ true) × (b ≡ true)
first_of true true c is = (refl, refl)
first_of true false c is = absurd (cc is)
first_of false b c is = absurd (cc is)

pub name_unbroken : (name : List ℕ) → is_name name ≡ true → IsUnbroken name
name_unbroken [] is = refl
name_unbroken (b ∷ text) is = let parts = first_of (is_lower b) (list_all is_name_byte text) _ is in unbroken_more b text (lower_unbroken b parts.0) (bytes_unbroken text parts.1)
