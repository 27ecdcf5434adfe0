-- What std's parsing says in the words of signed numbers.
use Rattle.std.proofs.Common.{◌≡◌, ℕ, zero, suc, ◌+◌, ◌-◌, ◌*◌, ◌<◌, ℤ, pos, negsuc, neg_ℤ, List, [], ◌∷◌, drop, get_or, Bool, true, false, cond, refl, sym, ◌∙◌, ap, arith, subst, Option, Some, None, Result, Ok, Err, MatchOption, rules, lit<}
use Rattle.std.specs.Prelude.{◌&&◌, ◌==◌, FitsSigned, option_map, option_and_then}
use Rattle.std.specs.Bool.{then_some}
use Rattle.std.specs.List.{list_all}
use Rattle.std.specs.Int.{w64, w128}
use Rattle.std.specs.Result.{OkIff, result_ok}
use Rattle.std.specs.Str.{IsUtf8, IsAscii}
use Rattle.std.specs.Str.Parse.{AllDigits, IsNumeral, ParsesSigned, digits_value, signed_digits_value, without_leading_sign}
use Rattle.std.proofs.lemmas.Bool.{eqb-true}
use Rattle.std.proofs.lemmas.Int.{ints}
use Rattle.std.proofs.lemmas.Bool.Decides.{nat_tests}
use Rattle.std.proofs.lemmas.Str.Parse.{IsNumeralModel, digit_from_value, numerals_by_fold}
use Rattle.std.proofs.lemmas.Str.{IsUtf8-from_ascii}
use Rattle.mesa_key.specs.mesa_value.declared.Agg.{Agg}
use Rattle.mesa_key.specs.mesa_value.declared.Agg.TheVariants as agg
use Rattle.mesa_columns.specs.Names.{is_digit}
use Rattle.mesa_columns.specs.Numbers.{amount_of, any_signed, digits_from, is_i64, is_i128, number_of, signed_of}

-- the number that digits go on from n, whatever they are
abbrev read_on : ℕ → List ℕ → ℕ
read_on n [] = n
read_on n (c ∷ cs) = read_on (10 * n + (c - 48)) cs

own : IsNumeralModel (λ ds. list_all is_digit ds ≡ true) (read_on 0)
own = numerals_by_fold _ (search rules) read_on (search rules)

-- digits give their number, and anything else none
digits_read : (n : ℕ) (ds : List ℕ) → digits_from n ds ≡ cond (list_all is_digit ds) (Some (read_on n ds)) None
digits_read n [] = refl
digits_read n (d ∷ ds) = elim (is_digit d) as (λ t. cond t (digits_from (10 * n + (d - 48)) ds) None ≡ cond (t && list_all is_digit ds) (Some (read_on (10 * n + (d - 48)) ds)) None) [
  | true ↦ digits_read (10 * n + (d - 48)) ds
  | false ↦ refl
]

-- A reading gives a numeral's value, or none where there is no numeral.
abbrev Reads : Option ℕ → List ℕ → Type 0
Reads o ds = MatchOption o (¬ (IsNumeral 10 ds)) (λ n. IsNumeral 10 ds × (n ≡ digits_value 10 ds))

reads_digits : (d : ℕ) (ds : List ℕ) (t : Bool) → list_all is_digit (d ∷ ds) ≡ t → Reads (cond t (Some (read_on 0 (d ∷ ds))) None) (d ∷ ds)
reads_digits d ds true e = let digits : AllDigits 10 (d ∷ ds) = own.to (d ∷ ds) e in ((omega arith, digits), own.same (d ∷ ds) digits)
reads_digits d ds false e = λ h. let same : list_all is_digit (d ∷ ds) ≡ true = own.from (d ∷ ds) h.1 in cc

reads : (ds : List ℕ) → Reads (number_of ds) ds
reads [] = λ h. omega (arith, h.0)
reads (d ∷ ds) = subst (λ o. Reads o (d ∷ ds)) (sym (digits_read 0 (d ∷ ds))) (reads_digits d ds (list_all is_digit (d ∷ ds)) refl)

pub is_i64-fits : (z : ℤ) → is_i64 z ≡ true → FitsSigned w64 z
is_i64-fits (pos n) h = grind (arith, ints, nat_tests)
is_i64-fits (negsuc n) h = grind (arith, ints, nat_tests)

pub fits-is_i64 : (z : ℤ) → FitsSigned w64 z → is_i64 z ≡ true
fits-is_i64 (pos n) h = grind (arith, ints, nat_tests)
fits-is_i64 (negsuc n) h = grind (arith, ints, nat_tests)

is_i128-fits : (z : ℤ) → is_i128 z ≡ true → FitsSigned w128 z
is_i128-fits (pos n) h = grind (arith, ints, nat_tests)
is_i128-fits (negsuc n) h = grind (arith, ints, nat_tests)

fits-is_i128 : (z : ℤ) → FitsSigned w128 z → is_i128 z ≡ true
fits-is_i128 (pos n) h = grind (arith, ints, nat_tests)
fits-is_i128 (negsuc n) h = grind (arith, ints, nat_tests)

-- a test that holds of the numbers that fit
record Decides (test : ℤ → Bool) (Fits : ℤ → Type 0) : Type 0 where
  to : (z : ℤ) → test z ≡ true → Fits z
  from : (z : ℤ) → Fits z → test z ≡ true

decides_i64 : Decides is_i64 (FitsSigned w64)
decides_i64 = record { to = is_i64-fits; from = fits-is_i64 }

decides_i128 : Decides is_i128 (FitsSigned w128)
decides_i128 = record { to = is_i128-fits; from = fits-is_i128 }

-- a number of 64 bits is one of 128
widened : (z : ℤ) → is_i64 z ≡ true → is_i128 z ≡ true
widened (pos n) h = grind (arith, ints, nat_tests)
widened (negsuc n) h = grind (arith, ints, nat_tests)

widened_at : (y z : ℤ) (t : Bool) → is_i64 y ≡ t → Some z ≡ then_some t y → Some z ≡ then_some (is_i128 y) y
widened_at y z true e h = h ∙ ap (λ t. then_some t y) (sym (widened y e))
widened_at y z false e h = absurd (grind arith)

-- what a number of 64 bits says, a sum's field says too
widened_in : (o : Option ℤ) (z : ℤ) → Some z ≡ option_and_then (λ z. then_some (is_i64 z) z) o → Some z ≡ option_and_then (λ z. then_some (is_i128 z) z) o
widened_in None z h = h
widened_in (Some y) z h = widened_at y z (is_i64 y) refl h

pub amount_small : (a : Agg) (bs : List ℕ) (z : ℤ) → Some z ≡ signed_of bs → Some z ≡ amount_of a bs
amount_small agg.Sum bs z h = widened_in (any_signed bs) z h
amount_small agg.Min bs z h = h
amount_small agg.Max bs z h = h
amount_small agg.Replace bs z h = h

-- the same of a number with a sign
mapped : (f : ℕ → ℤ) (o : Option ℕ) (ds : List ℕ) → Reads o ds → MatchOption (option_map f o) (¬ (IsNumeral 10 ds)) (λ z. IsNumeral 10 ds × (z ≡ f (digits_value 10 ds)))
mapped f None ds h = h
mapped f (Some n) ds h = (h.0, ap f h.1)

-- with a plus, a minus or none of the two in front
reads_sign : (b : ℕ) (bytes : List ℕ) (plus minus : Bool) → (b == 43) ≡ plus → (b == 45) ≡ minus
    → MatchOption (cond plus (option_map pos (number_of bytes)) (cond minus (option_map (λ n. neg_ℤ (pos n)) (number_of bytes)) (option_map pos (number_of (b ∷ bytes)))))
    (¬ (IsNumeral 10 (cond minus bytes (drop (cond plus 1 0) (b ∷ bytes)))))
    (λ z. IsNumeral 10 (cond minus bytes (drop (cond plus 1 0) (b ∷ bytes))) × (z ≡ cond minus (neg_ℤ (pos (digits_value 10 (cond minus bytes (drop (cond plus 1 0) (b ∷ bytes)))))) (pos (digits_value 10 (cond minus bytes (drop (cond plus 1 0) (b ∷ bytes)))))))
reads_sign b bytes true true e f = absurd (omega (arith, eqb-true b 43 e, eqb-true b 45 f))
reads_sign b bytes true false e f = mapped pos (number_of bytes) bytes (reads bytes)
reads_sign b bytes false true e f = mapped (λ n. neg_ℤ (pos n)) (number_of bytes) bytes (reads bytes)
reads_sign b bytes false false e f = mapped pos (number_of (b ∷ bytes)) (b ∷ bytes) (reads (b ∷ bytes))

signed_reads : (bs : List ℕ) → MatchOption (any_signed bs) (¬ (IsNumeral 10 (without_leading_sign bs))) (λ z. IsNumeral 10 (without_leading_sign bs) × (z ≡ signed_digits_value 10 bs))
signed_reads [] = λ h. omega (arith, h.0)
signed_reads (b ∷ bytes) = reads_sign b bytes (b == 43) (b == 45) refl refl

-- a number that doesn't fit is none
unfitting : (test : ℤ → Bool) (Fits : ℤ → Type 0) → Decides test Fits → (z : ℤ) (t : Bool) → test z ≡ t → (Fits z → ⊥) → None ≡ then_some t z
unfitting test Fits d z true e f = absurd (f (d.to z e))
unfitting test Fits d z false e f = refl

-- a number that fits is what std's parsing gives, and nothing else
fitting : {E : Type 0} (test : ℤ → Bool) (Fits : ℤ → Type 0) → Decides test Fits
    → (z v : ℤ) (P : Type 0) (r : Result ℤ E) → P → z ≡ v → OkIff r (P × Fits v) v → result_ok r ≡ then_some (test z) z
fitting test Fits d z v P (Ok x) p e h = ap Some (h.1 ∙ sym e) ∙ ap (λ t. then_some t z) (sym (d.from z (subst Fits (sym e) h.0.1)))
fitting test Fits d z v P (Err _) p e h = unfitting test Fits d z (test z) refl (λ f. h (p, subst Fits e f))

parsed_from : {E : Type 0} (test : ℤ → Bool) (Fits : ℤ → Type 0) → Decides test Fits
    → (o : Option ℤ) (P : Type 0) (v : ℤ) (r : Result ℤ E) → MatchOption o (¬ P) (λ z. P × (z ≡ v)) → OkIff r (P × Fits v) v
    → result_ok r ≡ option_and_then (λ z. then_some (test z) z) o
parsed_from test Fits d None P v (Ok x) m h = absurd (m h.0.0)
parsed_from test Fits d None P v (Err _) m h = refl
parsed_from test Fits d (Some z) P v r m h = fitting test Fits d z v P r m.0 m.1 h

pub parsed : {E : Type 0} (bs : List ℕ) (r : Result ℤ E) → ParsesSigned w64 10 bs r → result_ok r ≡ signed_of bs
parsed bs r h = parsed_from is_i64 (FitsSigned w64) decides_i64 (any_signed bs) (IsNumeral 10 (without_leading_sign bs)) (signed_digits_value 10 bs) r (signed_reads bs) h

pub parsed_wide : {E : Type 0} (bs : List ℕ) (r : Result ℤ E) → ParsesSigned w128 10 bs r → result_ok r ≡ amount_of agg.Sum bs
parsed_wide bs r h = parsed_from is_i128 (FitsSigned w128) decides_i128 (any_signed bs) (IsNumeral 10 (without_leading_sign bs)) (signed_digits_value 10 bs) r (signed_reads bs) h

-- digits are ASCII, and so are signs
digits_ascii : (ds : List ℕ) → AllDigits 10 ds → (i : ℕ) → get_or ds i 0 < 128
digits_ascii [] h i = lit< tt
digits_ascii (d ∷ ds) h zero = let digit = digit_from_value d h.0 in omega (arith, digit)
digits_ascii (d ∷ ds) h (suc i) = digits_ascii ds h.1 i

sign_ascii : (b : ℕ) (bytes : List ℕ) → b < 128 → AllDigits 10 bytes → IsAscii (b ∷ bytes)
sign_ascii b bytes l h zero = l
sign_ascii b bytes l h (suc i) = digits_ascii bytes h i

signed_ascii : (b : ℕ) (bytes : List ℕ) (plus minus : Bool) → (b == 43) ≡ plus → (b == 45) ≡ minus → IsNumeral 10 (cond minus bytes (drop (cond plus 1 0) (b ∷ bytes))) → IsAscii (b ∷ bytes)
signed_ascii b bytes true true e f h = absurd (omega (arith, eqb-true b 43 e, eqb-true b 45 f))
signed_ascii b bytes true false e f h = sign_ascii b bytes (omega (arith, eqb-true b 43 e)) h.1
signed_ascii b bytes false true e f h = sign_ascii b bytes (omega (arith, eqb-true b 45 f)) h.1
signed_ascii b bytes false false e f h = digits_ascii (b ∷ bytes) h.1

numeral_ascii : (bs : List ℕ) → IsNumeral 10 (without_leading_sign bs) → IsAscii bs
numeral_ascii [] h = absurd (omega (arith, h.0))
numeral_ascii (b ∷ bytes) h = signed_ascii b bytes (b == 43) (b == 45) refl refl h

none_read : (test : ℤ → Bool) (bs : List ℕ) (o : Option ℤ) → MatchOption o (¬ (IsNumeral 10 (without_leading_sign bs))) (λ z. IsNumeral 10 (without_leading_sign bs) × (z ≡ signed_digits_value 10 bs)) → (IsUtf8 bs → ⊥) → option_and_then (λ z. then_some (test z) z) o ≡ None
none_read test bs None m h = refl
none_read test bs (Some z) m h = absurd (h (IsUtf8-from_ascii bs (numeral_ascii bs m.0)))

-- what is no text is no number
pub unreadable : (bs : List ℕ) → (IsUtf8 bs → ⊥) → signed_of bs ≡ None
unreadable bs h = none_read is_i64 bs (any_signed bs) (signed_reads bs) h

pub unreadable_wide : (bs : List ℕ) → (IsUtf8 bs → ⊥) → amount_of agg.Sum bs ≡ None
unreadable_wide bs h = none_read is_i128 bs (any_signed bs) (signed_reads bs) h
