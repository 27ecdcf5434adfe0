-- What `{:016x}` writes.
use Rattle.std.specs.Prelude.{◌≡◌, ℕ, zero, suc, ◌+◌, ◌-◌, ◌/◌, ◌%◌, ◌^◌, ◌<◌, ◌≤◌, Bool, true, false, cond, List, [], ◌∷◌, ◌++◌, length, replicate, drop, Result, Ok, Err, refl}
use Rattle.std.specs.List.{list_all}
use Rattle.std.specs.Result.{OkIff}
use Rattle.std.specs.Char.{digit_value}
use Rattle.std.specs.Str.Parse.{AllDigits, IsNumeral, ParsesUnsigned, digits_value, without_leading_plus}
use Rattle.std.specs.Fmt.{char_count, digit_glyph, digits, digits_onto, format_spec, padded_integral}
use Rattle.std.proofs.Common.{ap, arith, eq-eqb, eqb, ltb, ltb-false, ltb-true, ne_eqb, subst, sym, ◌∙◌}
use Rattle.std.proofs.Math.Nat.{pow-suc, pow-zero}
use Rattle.std.proofs.lemmas.Fmt.{digits_is_IsNumeral}
use Rattle.std.proofs.lemmas.Grind.{common_steps}
use Rattle.std.proofs.lemmas.List.{length-append, length-replicate}
use Rattle.std.proofs.lemmas.List.Folds.{list_all-append}
use Rattle.mesa_dir.specs.Paths.{id_digits, is_lower_hex}

pub sixteen_wide : (shown : List ℕ) → padded_integral (format_spec 32 0 4 16 (2 ^ 64 - 1)) false [] shown ≡ replicate (16 - length shown) 48 ++ shown
unfolding padded_integral char_count
sixteen_wide shown = grind (arith, common_steps)

zero_hex : (k : ℕ) → list_all is_lower_hex (replicate k 48) ≡ true
zero_hex zero = refl
zero_hex (suc k) = zero_hex k

zero_digits : (k : ℕ) (ds : List ℕ) → AllDigits 16 ds → AllDigits 16 (replicate k 48 ++ ds)
zero_digits zero ds all = all
zero_digits (suc k) ds all = (omega arith, zero_digits k ds all)

-- leading zeros don't count
zero_value : (k : ℕ) (ds : List ℕ) → digits_value 16 (replicate k 48 ++ ds) ≡ digits_value 16 ds
zero_value zero ds = refl
zero_value (suc k) ds = zero_value k ds

glyph_hex : (d : ℕ) → d < 16 → is_lower_hex (digit_glyph false d) ≡ true
glyph_hex d small = by (ltb d 10) refl
  where
    by : (t : Bool) → ltb d 10 ≡ t → is_lower_hex (cond t (48 + d) (87 + d)) ≡ true
    by true e = let l = ltb-true d 10 e in grind (arith, common_steps)
    by false e = let l = ltb-false d 10 e in grind (arith, common_steps)

either_hex : (t : Bool) (a b : List ℕ) → list_all is_lower_hex a ≡ true → list_all is_lower_hex b ≡ true → list_all is_lower_hex (cond t a b) ≡ true
either_hex true a b p q = p
either_hex false a b p q = q

onto_hex : (k n : ℕ) (acc : List ℕ) → list_all is_lower_hex acc ≡ true → list_all is_lower_hex (digits_onto k 16 false n acc) ≡ true
onto_hex zero n acc all = all
onto_hex (suc k) n acc all =
    let more : list_all is_lower_hex (digit_glyph false (n % 16) ∷ acc) ≡ true = cc (glyph_hex (n % 16) (omega arith)) in
    either_hex (eqb (n / 16) 0) _ _ more (onto_hex k (n / 16) (digit_glyph false (n % 16) ∷ acc) more)

onto_len : (k j n : ℕ) (acc : List ℕ) → n < 16 ^ suc j → length (digits_onto k 16 false n acc) ≤ suc j + length acc
onto_len zero j n acc small = omega arith
onto_len (suc k) j n acc small = by (λ i. onto_len k i (n / 16) (digit_glyph false (n % 16) ∷ acc)) (eqb (n / 16) 0) refl
  where
    later : List ℕ
    later = digits_onto k 16 false (n / 16) (digit_glyph false (n % 16) ∷ acc)

    More : Type 0
    More = (i : ℕ) → n / 16 < 16 ^ suc i → length later ≤ suc i + length (digit_glyph false (n % 16) ∷ acc)

    rest : More → (i : ℕ) → n < 16 ^ suc i → (n / 16 ≡ 0 → ⊥) → length later ≤ suc i + length acc
    rest more zero l some = absurd (omega (arith, pow-suc 16 0, pow-zero 16, some))
    rest more (suc i) l some = omega (arith, more i (omega (arith, pow-suc 16 (suc i))))

    by : More → (t : Bool) → eqb (n / 16) 0 ≡ t → length (cond t (digit_glyph false (n % 16) ∷ acc) later) ≤ suc j + length acc
    by more true e = omega arith
    by more false e = rest more j small (λ z. let l : eqb (n / 16) 0 ≡ true = eq-eqb _ 0 z in cc)

digits_onto-nil : (n : ℕ) → digits_onto 64 16 false n [] ≡ digits 16 false n
unfolding digits
digits_onto-nil n = refl

digits_hex : (n : ℕ) → list_all is_lower_hex (digits 16 false n) ≡ true
digits_hex n = ap (list_all is_lower_hex) (sym (digits_onto-nil n)) ∙ onto_hex 64 n [] refl

digits_len : (n : ℕ) → n < 2 ^ 64 → length (digits 16 false n) ≤ 16
digits_len n small = omega (arith, ap length (digits_onto-nil n), onto_len 64 15 n [] (omega arith))

module _ (id : ℕ) (small : id < 2 ^ 64) where
  pub id_len : length (id_digits id) ≡ 16
  unfolding id_digits
  id_len = omega (arith, digits_len id small, length-append (replicate (16 - length (digits 16 false id)) 48) (digits 16 false id), length-replicate {A = ℕ} (16 - length (digits 16 false id)) 48)

  pub id_hex : list_all is_lower_hex (id_digits id) ≡ true
  unfolding id_digits
  id_hex = list_all-append is_lower_hex (replicate (16 - length (digits 16 false id)) 48) (digits 16 false id) ∙ cc (zero_hex (16 - length (digits 16 false id)), digits_hex id)

  id_spelled : AllDigits 16 (id_digits id) × (digits_value 16 (id_digits id) ≡ id)
  unfolding id_digits
  id_spelled =
      let own = digits_is_IsNumeral 16 false (omega arith) (omega arith) id (omega arith) in
      (zero_digits (16 - length (digits 16 false id)) _ own.0.1, zero_value (16 - length (digits 16 false id)) _ ∙ own.1)

  -- the digits of an id are read as its number
  pub id_read : {E : Type 0} (bs : List ℕ) (r : Result ℕ E) → bs ≡ id_digits id → ParsesUnsigned 64 16 bs r → r ≡ Ok id
  id_read {E} bs r is h = by r (subst (λ (l : List ℕ). OkIff r (IsNumeral 16 l × (digits_value 16 l < 2 ^ 64)) (digits_value 16 l)) (ap without_leading_plus is ∙ no_plus (id_digits id) id_spelled.0) h)
    where
      no_plus : (ds : List ℕ) → AllDigits 16 ds → without_leading_plus ds ≡ ds
      no_plus [] all = refl
      no_plus (c ∷ cs) all = ap (λ (b : Bool). drop (cond b 1 0) (c ∷ cs)) (ne_eqb c 43 (λ e. let k : digit_value 43 < 16 = subst (λ (x : ℕ). digit_value x < 16) e all.0 in omega arith))

      by : (q : Result ℕ E) → OkIff q (IsNumeral 16 (id_digits id) × (digits_value 16 (id_digits id) < 2 ^ 64)) (digits_value 16 (id_digits id)) → q ≡ Ok id
      by (Ok x) p = ap (λ (m : ℕ). Ok m) (p.1 ∙ id_spelled.1)
      by (Err d) p = absurd (p ((omega (arith, id_len), id_spelled.0), subst (λ (m : ℕ). m < 2 ^ 64) (sym id_spelled.1) small))
