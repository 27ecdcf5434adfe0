-- The bytes of keys are bytes, and their hexadecimal is read back.
use Rattle.std.proofs.Common.{◌≡◌, ℕ, zero, suc, ◌+◌, ◌-◌, ◌*◌, ◌/◌, ◌%◌, ◌<◌, List, [], ◌∷◌, refl, sym, ◌∙◌, ap, subst, arith, Bool, true, false, cond, ◌&&◌, nat_lt, nat_le, inl, inr, Some, None, Option}
use Rattle.std.specs.List.{AllByRecursion}
use Rattle.std.specs.Int.{byte_at, bytes_high_first}
use Rattle.std.proofs.lemmas.Bool.{and_parts, cases_lt, le-ltb, lt-ltb, le-leb, lt-leb}
use Rattle.std.proofs.lemmas.Str.{IsUtf8-from_is_utf8}
use lib.Utf8.{encode, encodes, next, scalar, scalars, scalar_cases}
use Rattle.mesa_history_spec.specs.mesa_key.declared.KeyType.{KeyType}
use Rattle.mesa_history_spec.specs.mesa_key.declared.KeyType.TheVariants as kind
use Rattle.mesa_history_spec.specs.mesa_key.declared.KeyValue.{KeyValue}
use Rattle.mesa_history_spec.specs.mesa_key.declared.KeyValue.TheVariants as value
use Rattle.mesa_history_spec.specs.mesa_key.Text.{is_key_text}
use Rattle.mesa_history_spec.specs.mesa_key.Spelling.{IsKey, IsValue, key_spelling, value_spelling}
use Rattle.mesa_history_spec.specs.mesa_filter.Hex.{bytes_of_hex, hex_digit, hex_of, hex_value, with_byte}
use Rattle.mesa_history_spec.proofs.mesa_columns.Lists.{all_append}

-- all are bytes
abbrev pub Bytes : List ℕ → Type 0
Bytes bytes = AllByRecursion (λ b. b < 256) bytes

-- ---- keys

encode_bytes : (c : ℕ) → scalar c ≡ true → Bytes (encode c)
unfolding encode
encode_bytes c is =
    let B : Bool → Bool → Bool → Type 0 = λ (x y z : Bool). Bytes (cond x (c ∷ []) (cond y ((192 + c / 64) ∷ next c ∷ []) (cond z ((224 + c / 4096) ∷ next (c / 64) ∷ next c ∷ []) ((240 + c / 262144) ∷ next (c / 4096) ∷ next (c / 64) ∷ next c ∷ [])))) in
    let top : c < 1114112 = elim (scalar_cases c is) [ inl low ↦ omega (arith, low) | inr high ↦ high.1 ] in
    elim (cases_lt c 128) as (λ _. B (nat_lt c 128) (nat_lt c 2048) (nat_lt c 65536)) [
      | inl one ↦ subst (λ b. B b (nat_lt c 2048) (nat_lt c 65536)) (sym (lt-ltb c 128 one)) (omega (arith, one), tt)
      | inr more ↦ subst (λ b. B b (nat_lt c 2048) (nat_lt c 65536)) (sym (le-ltb c 128 more)) (elim (cases_lt c 2048) as (λ _. B false (nat_lt c 2048) (nat_lt c 65536)) [
        | inl two ↦ subst (λ b. B false b (nat_lt c 65536)) (sym (lt-ltb c 2048 two)) (omega (arith, two), (omega arith, tt))
        | inr more ↦ subst (λ b. B false b (nat_lt c 65536)) (sym (le-ltb c 2048 more)) (elim (cases_lt c 65536) as (λ _. B false false (nat_lt c 65536)) [
          | inl three ↦ subst (B false false) (sym (lt-ltb c 65536 three)) (omega (arith, three), (omega arith, (omega arith, tt)))
          | inr more ↦ subst (B false false) (sym (le-ltb c 65536 more)) (omega (arith, top), (omega arith, (omega arith, (omega arith, tt))))
        ])
      ])
    ]

encodes_bytes : (cs : List ℕ) → scalars cs ≡ true → Bytes (encodes cs)
encodes_bytes [] is = tt
encodes_bytes (c ∷ cs) is =
    let parts = and_parts (scalar c) (scalars cs) is in
    all_append (λ b. b < 256) (encode c) (encodes cs) (encode_bytes c parts.0) (encodes_bytes cs parts.1)

text_bytes : (bytes : List ℕ) → is_key_text bytes ≡ true → Bytes bytes
text_bytes bytes is =
    let utf8 = IsUtf8-from_is_utf8 bytes (and_parts _ _ is).1 in
    subst Bytes utf8.1.1 (encodes_bytes utf8.0 utf8.1.0)

high_bytes : (k n : ℕ) → Bytes (bytes_high_first k n)
high_bytes zero n = tt
high_bytes (suc k) n = (byte_fits k n, high_bytes k n)
  where
    byte_fits : (k n : ℕ) → byte_at k n < 256
    byte_fits zero n = omega arith
    byte_fits (suc k) n = omega arith

value_bytes : (t : KeyType) (v : KeyValue) → IsValue t v → Bytes (value_spelling v)
value_bytes kind.Int (value.Int z) is = high_bytes 8 _
value_bytes kind.Int (value.Text bytes) is = absurd is
value_bytes kind.Text (value.Int z) is = absurd is
value_bytes kind.Text (value.Text bytes) is = all_append (λ b. b < 256) bytes (0 ∷ []) (text_bytes bytes is) (omega arith, tt)

-- The bytes of a key are bytes.
pub key_bytes : (types : List KeyType) (key : List KeyValue) → IsKey types key → Bytes (key_spelling key)
key_bytes [] [] is = tt
key_bytes [] (v ∷ key) is = absurd is
key_bytes (t ∷ types) [] is = absurd is
key_bytes (t ∷ types) (v ∷ key) is = all_append (λ b. b < 256) (value_spelling v) (key_spelling key) (value_bytes t v is.0) (key_bytes types key is.1)

-- ---- hexadecimal

digit_read : (n : ℕ) → n < 16 → hex_value (hex_digit n) ≡ Some n
digit_read n lt = elim (cases_lt n 10) [
  | inl low ↦
      let back : 48 + n - 48 ≡ n = omega arith in
      let other : Option ℕ = cond (nat_le 97 (48 + n) && nat_le (48 + n) 102) (Some (48 + n - 87)) None in
      ap (λ b. hex_value (cond b (48 + n) (87 + n))) (lt-ltb n 10 low)
      ∙ (λ i. cond (le-leb 48 (48 + n) (omega arith) i && le-leb (48 + n) 57 (omega (arith, low)) i) (Some (48 + n - 48)) other) ∙ ap Some back
  | inr high ↦
      let back : 87 + n - 87 ≡ n = omega arith in
      let other : Option ℕ = cond (nat_le 97 (87 + n) && nat_le (87 + n) 102) (Some (87 + n - 87)) None in
      ap (λ b. hex_value (cond b (48 + n) (87 + n))) (le-ltb n 10 high)
      ∙ (λ i. cond (le-leb 48 (87 + n) (omega arith) i && lt-leb (87 + n) 57 (omega (arith, high)) i) (Some (87 + n - 48)) other)
      ∙ (λ i. cond (le-leb 97 (87 + n) (omega (arith, high)) i && le-leb (87 + n) 102 (omega (arith, lt)) i) (Some (87 + n - 87)) None) ∙ ap Some back
]

-- The bytes that were written are read.
pub hex_read : (bytes : List ℕ) → Bytes bytes → bytes_of_hex (hex_of bytes) ≡ Some bytes
hex_read [] all = refl
hex_read (b ∷ bytes) all =
    let high : b / 16 < 16 = omega (arith, all.0) in
    let low : b % 16 < 16 = omega arith in
    let whole : 16 * (b / 16) + b % 16 ≡ b = omega arith in
    (λ i. with_byte (digit_read (b / 16) high i) (digit_read (b % 16) low i) (hex_read bytes all.1 i)) ∙ ap (λ x. Some (x ∷ bytes)) whole
