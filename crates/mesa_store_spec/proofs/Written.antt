-- What was written from one version to another, where the versions rise.
use Rattle.std.proofs.Common.{◌≡◌, ⊎_elim, ℕ, ◌+◌, ◌<◌, ◌≤◌, List, [], ◌∷◌, ◌++◌, map, filter, true, false, Bool, cond, ◌&&◌, nat_le, refl, sym, ◌∙◌, ap, arith}
use Rattle.std.proofs.lemmas.Bool.{cases_lt}
use Rattle.std.proofs.lemmas.Bool.Decides.{nat_tests}
use Rattle.std.proofs.lemmas.List.{append-nil, map-append}
use Rattle.std.specs.List.{AllByRecursion}
use Rattle.mesa_history_spec.specs.Sources.{Written, source_written, sources_from, version_written}
use Rattle.mesa_history_spec.specs.mesa_span.Ranges.{Rise}

abbrev pub is_within : ℕ → ℕ → Written → Bool
is_within from to w = nat_le from w.version && nat_le w.version to

abbrev pub From : ℕ → ℕ → List Written → List Written
From from to written = filter (is_within from to) written

le_true : (a b : ℕ) → a ≤ b → nat_le a b ≡ true
le_true a b le = grind (arith, nat_tests)

le_false : (a b : ℕ) → b < a → nat_le a b ≡ false
le_false a b lt = grind (arith, nat_tests)

and_false : (a b : Bool) → b ≡ false → (a && b) ≡ false
and_false true b e = e
and_false false b e = refl

-- the next one passes or not
next_in : (from to : ℕ) (w : Written) (written : List Written) → is_within from to w ≡ true → From from to (w ∷ written) ≡ w ∷ From from to written
next_in from to w written e = ap (λ b. cond b (w ∷ From from to written) (From from to written)) e

next_out : (from to : ℕ) (w : Written) (written : List Written) → is_within from to w ≡ false → From from to (w ∷ written) ≡ From from to written
next_out from to w written e = ap (λ b. cond b (w ∷ From from to written) (From from to written)) e

-- none is in a range that ends before all
pub none_before : (from to least : ℕ) (written : List Written) → Rise least (map version_written written) → to < least → From from to written ≡ []
none_before from to least [] rise lt = refl
none_before from to least (w ∷ written) rise lt =
    let le = rise.0 in
    next_out from to w written (and_false (nat_le from w.version) (nat_le w.version to) (le_false w.version to (omega (arith, le, lt))))
    ∙ none_before from to (w.version + 1) written rise.1 (omega (arith, le, lt))

-- nor in one that begins behind all
pub none_behind : (from to : ℕ) (written : List Written) → AllByRecursion (λ (w : Written). w.version < from) written → From from to written ≡ []
none_behind from to [] all = refl
none_behind from to (w ∷ written) all = next_out from to w written (ap (λ b. b && nat_le w.version to) (le_false from w.version all.0)) ∙ none_behind from to written all.1

-- nor in one that is empty
pub none_between : (from to : ℕ) (written : List Written) → to < from → From from to written ≡ []
none_between from to [] lt = refl
none_between from to (w ∷ written) lt = ⊎_elim
    (λ behind. next_out from to w written (and_false (nat_le from w.version) (nat_le w.version to) (le_false w.version to behind)) ∙ none_between from to written lt)
    (λ before. (let out : w.version < from = omega (arith, lt, before) in next_out from to w written (ap (λ b. b && nat_le w.version to) (le_false from w.version out)) ∙ none_between from to written lt))
    (cases_lt to w.version)

-- a range is its front and what is behind it
module _ (from middle to : ℕ) (w : Written) (written : List Written) (rise : Rise (w.version + 1) (map version_written written)) (le : from ≤ middle + 1) (more : middle ≤ to) (rest : From from to written ≡ From from middle written ++ From (middle + 1) to written) where
  joined : (b : Bool) (xs ys : List Written) → cond b (w ∷ (xs ++ ys)) (xs ++ ys) ≡ cond b (w ∷ xs) xs ++ ys
  joined true xs ys = refl
  joined false xs ys = refl

  early : w.version ≤ middle → From from to (w ∷ written) ≡ From from middle (w ∷ written) ++ From (middle + 1) to (w ∷ written)
  early before =
      let second : is_within (middle + 1) to w ≡ false = ap (λ b. b && nat_le w.version to) (le_false (middle + 1) w.version (omega (arith, before))) in
      let same : is_within from to w ≡ is_within from middle w = ap (λ b. nat_le from w.version && b) (le_true w.version to (omega (arith, before, more)) ∙ sym (le_true w.version middle before)) in
      (λ i. cond (same i) (w ∷ rest i) (rest i))
      ∙ joined (is_within from middle w) (From from middle written) (From (middle + 1) to written)
      ∙ ap (λ xs. From from middle (w ∷ written) ++ xs) (sym (next_out (middle + 1) to w written second))

  late : middle < w.version → From from to (w ∷ written) ≡ From from middle (w ∷ written) ++ From (middle + 1) to (w ∷ written)
  late behind =
      let first : is_within from middle w ≡ false = and_false (nat_le from w.version) (nat_le w.version middle) (le_false w.version middle behind) in
      let none : From from middle written ≡ [] = none_before from middle (w.version + 1) written rise (omega (arith, behind)) in
      let same : is_within from to w ≡ is_within (middle + 1) to w = ap (λ b. b && nat_le w.version to) (le_true from w.version (omega (arith, le, behind)) ∙ sym (le_true (middle + 1) w.version (omega (arith, behind)))) in
      let all : From from to written ≡ From (middle + 1) to written = rest ∙ ap (λ xs. xs ++ From (middle + 1) to written) none in
      (λ i. cond (same i) (w ∷ all i) (all i)) ∙ ap (λ xs. xs ++ From (middle + 1) to (w ∷ written)) (sym (next_out from middle w written first ∙ none))

split_at : (from middle to least : ℕ) (written : List Written) → Rise least (map version_written written) → from ≤ middle + 1 → middle ≤ to → From from to written ≡ From from middle written ++ From (middle + 1) to written
split_at from middle to least [] rise le more = refl
split_at from middle to least (w ∷ written) rise le more =
    let rest = split_at from middle to (w.version + 1) written rise.1 le more in
    ⊎_elim (late from middle to w written rise.1 le more rest) (early from middle to w written rise.1 le more rest) (cases_lt middle w.version)

pub sources_split : (from middle to : ℕ) (written : List Written) → Rise 0 (map version_written written) → from ≤ middle + 1 → middle ≤ to → sources_from from to written ≡ sources_from from middle written ++ sources_from (middle + 1) to written
sources_split from middle to written rise le more = ap (map source_written) (split_at from middle to 0 written rise le more) ∙ map-append source_written (From from middle written) (From (middle + 1) to written)

from_append : (from to : ℕ) (xs ys : List Written) → From from to (xs ++ ys) ≡ From from to xs ++ From from to ys
from_append from to [] ys = refl
from_append from to (w ∷ xs) ys = by (is_within from to w) (from_append from to xs ys)
  where
    by : (b : Bool) → From from to (xs ++ ys) ≡ From from to xs ++ From from to ys → cond b (w ∷ From from to (xs ++ ys)) (From from to (xs ++ ys)) ≡ cond b (w ∷ From from to xs) (From from to xs) ++ From from to ys
    by true rest = ap (λ ws. w ∷ ws) rest
    by false rest = rest

-- what is written later isn't in an earlier range
pub sources_push : (from to : ℕ) (written : List Written) (w : Written) → to < w.version → sources_from from to (written ++ w ∷ []) ≡ sources_from from to written
sources_push from to written w lt =
    ap (map source_written) (from_append from to written (w ∷ [])
    ∙ ap (λ ws. From from to written ++ ws) (next_out from to w [] (and_false (nat_le from w.version) (nat_le w.version to) (le_false w.version to lt)))
    ∙ append-nil (From from to written))

-- one version that was written among others
pub sources_one : (before behind : List Written) (w : Written) → AllByRecursion (λ (x : Written). x.version < w.version) before → Rise (w.version + 1) (map version_written behind) → sources_from w.version w.version (before ++ w ∷ behind) ≡ w.source ∷ []
sources_one before behind w all rise =
    let here : is_within w.version w.version w ≡ true = (λ i. le_true w.version w.version (omega arith) i && le_true w.version w.version (omega arith) i) in
    ap (map source_written) (from_append w.version w.version before (w ∷ behind)
    ∙ ap (λ ws. ws ++ From w.version w.version (w ∷ behind)) (none_behind w.version w.version before all)
    ∙ next_in w.version w.version w behind here
    ∙ ap (λ ws. w ∷ ws) (none_before w.version w.version (w.version + 1) behind rise (omega arith)))

-- what stands to the first of them
pub sources_first : (behind : List Written) (w : Written) → Rise (w.version + 1) (map version_written behind) → sources_from 0 w.version (w ∷ behind) ≡ w.source ∷ []
sources_first behind w rise =
    let here : is_within 0 w.version w ≡ true = (λ i. le_true 0 w.version (omega arith) i && le_true w.version w.version (omega arith) i) in
    ap (map source_written) (next_in 0 w.version w behind here ∙ ap (λ ws. w ∷ ws) (none_before 0 w.version (w.version + 1) behind rise (omega arith)))

-- versions rise with a later one
pub rise_push : (least : ℕ) (written : List Written) (w : Written) → Rise least (map version_written written) → AllByRecursion (λ (x : Written). x.version < w.version) written → least ≤ w.version → Rise least (map version_written (written ++ w ∷ []))
rise_push least [] w rise all le = (le, tt)
rise_push least (x ∷ written) w rise all le = (let lt = all.0 in (rise.0, rise_push (x.version + 1) written w rise.1 all.1 (omega (arith, lt))))
