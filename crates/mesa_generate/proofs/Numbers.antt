-- Numbers in shortest form are read back.
use Rattle.std.proofs.Common.{◌≡◌, ℕ, ◌+◌, ◌-◌, ◌*◌, ◌^◌, ◌≤◌, ◌<◌, List, [], ◌∷◌, length, Bool, true, false, cond, refl, ◌∙◌, ap, arith, rules, Option, Some, None, Ok}
use Rattle.std.specs.Prelude.{nat_le, ◌&&◌}
use Rattle.std.specs.Fmt.{decimal}
use Rattle.std.specs.List.{list_all}
use Rattle.std.specs.Option.{ok_or}
use Rattle.std.proofs.lemmas.Bool.{le-leb}
use Rattle.std.proofs.lemmas.Fmt.{decimal_is_IsNumeral, digits_decimal, digits_value-decimal}
use Rattle.std.proofs.lemmas.Str.Parse.{IsNumeralModel, numerals_by_fold}
use Rattle.mesa_invariant_spec.specs.mesa_list.Checks.{◌>>=◌, ◌>>◌, refuse_unless}
use Rattle.mesa_invariant_spec.specs.mesa_columns.Names.{is_digit}
use Rattle.mesa_invariant_spec.specs.mesa_columns.Numbers.{digits_from, number_of}
use Rattle.mesa_invariant_spec.specs.mesa_script.declared.script.Reason.TheVariants as reason
use Rattle.mesa_invariant_spec.specs.mesa_script.Records.{is_between}
use Rattle.mesa_invariant_spec.specs.mesa_script.Words.{max_number, number_in}

-- the number that digits go on from n, whatever they are
abbrev read_on : ℕ → List ℕ → ℕ
read_on n [] = n
read_on n (c ∷ cs) = read_on (10 * n + (c - 48)) cs

own : IsNumeralModel (λ ds. list_all is_digit ds ≡ true) (read_on 0)
own = numerals_by_fold _ (search rules) read_on (search rules)

-- digits give their number, and anything else none
digits_read : (n : ℕ) (ds : List ℕ) → digits_from n ds ≡ cond (list_all is_digit ds) (Some (read_on n ds)) None
digits_read n [] = refl
digits_read n (d ∷ ds) = elim (is_digit d) as (λ t. cond t (digits_from (10 * n + (d - 48)) ds) None ≡ cond (t && list_all is_digit ds) (Some (read_on (10 * n + (d - 48)) ds)) None) [
  | true ↦ digits_read (10 * n + (d - 48)) ds
  | false ↦ refl
]

some_digits : (ds : List ℕ) (n : ℕ) → (ds ≡ [] → ⊥) → list_all is_digit ds ≡ true → read_on 0 ds ≡ n → number_of ds ≡ Some n
some_digits [] n some all is = absurd (some refl)
some_digits (d ∷ ds) n some all is = digits_read 0 (d ∷ ds) ∙ ap (λ (t : Bool). cond t (Some (read_on 0 (d ∷ ds))) None) all ∙ ap (λ (k : ℕ). Some k) is

in_range : (n : ℕ) → n ≤ max_number → is_between 0 max_number n ≡ true
in_range n le = ap (λ (b : Bool). b && nat_le n max_number) (le-leb 0 n (omega arith)) ∙ le-leb n max_number le

pub number_back : (n : ℕ) → n ≤ max_number → number_in 0 max_number (decimal n) ≡ Ok n
number_back n le =
    let wide : n < 2 ^ 64 = omega (arith, le) in
    let read = some_digits (decimal n) n (λ none. let long = (decimal_is_IsNumeral n wide).0.0 in let short = ap length none in omega (arith, long, short)) (digits_decimal own n wide) (digits_value-decimal own n wide) in
    ap (λ (o : Option ℕ). ok_or o reason.Number >>= (λ m. refuse_unless (is_between 0 max_number m) reason.Number >> Ok m)) read
    ∙ ap (λ (b : Bool). refuse_unless b reason.Number >> Ok n) (in_range n le)
