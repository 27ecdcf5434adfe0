-- Which cumulatives are compared, by the tests of a table's ranges.
use Rattle.std.proofs.Common.{◌≡◌, ℕ, zero, suc, ◌+◌, ◌≤◌, ◌<◌, List, [], ◌∷◌, ◌++◌, length, get_or, map, take, drop, refl, sym, ◌∙◌, ap, arith, append_assoc, Bool, true, false, cond, not, ◌&&◌}
use Rattle.std.specs.Prelude.{flat_map, nat_le, nat_lt, ◌||◌, None, Some}
use Rattle.std.specs.List.{AllByRecursion, list_all}
use Rattle.std.proofs.lemmas.Bool.Decides.{nat_tests}
use Rattle.std.proofs.lemmas.List.{append-nil}
use Rattle.std.proofs.lemmas.List.Sums.{sum_by-append}
use Rattle.mesa_disk.specs.Image.{Image}
use Rattle.mesa_pick_files.specs.mesa_columns.declared.rows.Row.{Row}
use Rattle.mesa_schema.specs.Changes.{Lineage, columns_of}
use Rattle.mesa_pick_files.specs.mesa_columns.Columns.{Columns, aggs_of}
use Rattle.mesa_schema.proofs.mesa_columns.Lists.{all_so}
use Rattle.mesa_batch.specs.Totals.{abs_total, sum_bound, sum_places}
use Rattle.mesa_store_spec.specs.Contents.{present}
use Rattle.mesa_store_spec.proofs.Lists.{both_true}
use Rattle.mesa_catalog_table.specs.declared.table.Table.{Table}
use Rattle.mesa_catalog_table.specs.Meaning.{IsTable, meta_of}
use Rattle.mesa_catalog_table.proofs.Singles.{flat_map-append}
use Rattle.mesa_check.specs.Found.{Found, rows_found}
use Rattle.mesa_check.specs.Faults.{is_asked, is_found, keep_bound}
use Rattle.mesa_check.specs.Counted.{is_single, rows_where}
use Rattle.mesa_check.specs.Held.{delta_of, held_ranges, range_in}
use Rattle.mesa_check.specs.Parts.{IsAskedBelow}
use Rattle.mesa_check.specs.Shown.{tested_range}
use Rattle.mesa_check.specs.Tested.{IsRead, range_of}
use Rattle.mesa_check.specs.declared.testing.Test.{Test}
use Rattle.mesa_check.proofs.Held.{is_up_to}
use Rattle.mesa_check.proofs.Lists.{one_fails}
use Rattle.mesa_check.proofs.Ordered.{EndsBefore, ahead, behind, single_tests}
use Rattle.mesa_check.proofs.Standing.{front_keeps, less_keeps}
use Rattle.mesa_check.proofs.Told.{found_tested, rows_single}

-- ---- one range more

pub next_keeps : (single f : Bool) (s : Columns) (before rows : List Row) → (not single || (f && keep_bound s (before ++ rows))) ≡ true → keep_bound s before ≡ true → keep_bound s (before ++ cond single rows []) ≡ true
next_keeps true f s before rows so keeps = (both_true f (keep_bound s (before ++ rows)) so).1
next_keeps false f s before rows so keeps = ap (keep_bound s) (append-nil before) ∙ keeps

pub next_found : (single f k : Bool) → (not single || (f && k)) ≡ true → single ≡ true → f ≡ true
next_found true f k so is = (both_true f k so).0
next_found false f k so is = absurd cc

ends_here : (single f k : Bool) → (not single || (f && k)) ≡ false → (single ≡ true) × ((f && k) ≡ false)
ends_here true f k so = (refl, so)
ends_here false f k so = absurd cc

none_bounded : (places : List ℕ) → list_all (λ total. nat_lt total sum_bound) (map (λ c. abs_total c []) places) ≡ true
none_bounded [] = refl
none_bounded (c ∷ places) = none_bounded places

pub none_keeps : (s : Columns) → keep_bound s [] ≡ true
none_keeps s = none_bounded (sum_places 0 (aggs_of s))

-- ---- lists

parted : {X : Type 0} (xs : List X) (n : ℕ) (x : X) → n < length xs → x ≡ get_or xs n x → take n xs ++ x ∷ drop (n + 1) xs ≡ xs
parted [] n x h is = absurd (omega (arith, h))
parted (y ∷ xs) zero x h is = ap (λ z. z ∷ xs) is
parted (y ∷ xs) (suc n) x h is =
    let count : suc n + 1 ≡ suc (n + 1) = omega arith in
    ap (λ k. y ∷ (take n xs ++ x ∷ drop k (y ∷ xs))) count ∙ ap (λ ys. y ∷ ys) (parted xs n x (omega (arith, h)) is)

flat_same : {X Y : Type 0} (f g : X → List Y) (xs : List X) → AllByRecursion (λ x. f x ≡ g x) xs → flat_map f xs ≡ flat_map g xs
flat_same f g [] all = refl
flat_same f g (x ∷ xs) all = λ k. all.0 k ++ flat_same f g xs all.1 k

flat_none : {X Y : Type 0} (f : X → List Y) (xs : List X) → AllByRecursion (λ x. f x ≡ []) xs → flat_map f xs ≡ []
flat_none f [] all = refl
flat_none f (x ∷ xs) all = λ k. all.0 k ++ flat_none f xs all.1 k

all_pass : {X : Type 0} (p : X → Bool) (xs : List X) → AllByRecursion (λ x. p x ≡ true) xs → list_all p xs ≡ true
all_pass p [] all = refl
all_pass p (x ∷ xs) all = λ k. all.0 k && all_pass p xs all.1 k

pass_both : {X : Type 0} (p : X → Bool) (xs ys : List X) → list_all p xs ≡ true → list_all p ys ≡ true → list_all p (xs ++ ys) ≡ true
pass_both p [] ys all more = more
pass_both p (x ∷ xs) ys all more = let parts = both_true (p x) (list_all p xs) all in λ k. parts.0 k && pass_both p xs ys parts.1 more k

last_false : (b : Bool) → (b && false) ≡ false
last_false true = refl
last_false false = refl

-- ---- singletons that are found, with rows that keep the bound

-- The singletons among tests are found, and their rows keep the bound.
pub record AllKeep (are : Found) (l : Lineage) (tests : List Test) : Type 0 where
  pub each : AllByRecursion (λ x. is_single (tested_range x) ≡ true → is_found are l (delta_of x.range) ≡ true) tests
  pub bound : keep_bound (columns_of l) (flat_map (λ x. rows_where are l is_single (tested_range x)) tests) ≡ true

module _ (found : Found) (l : Lineage) (to : ℕ) where
  -- the rows of those up to a version, and whether they are found
  abbrev rows_to : Test → List Row
  rows_to x = rows_where found l (is_up_to to) (tested_range x)

  abbrev rows_all : Test → List Row
  rows_all x = rows_where found l is_single (tested_range x)

  abbrev found_to : Test → Bool
  found_to x = not (is_up_to to (tested_range x)) || is_found found l (delta_of x.range)

  one_less : (c : ℕ) (single within : Bool) (rows : List Row) → abs_total c (cond (single && within) rows []) ≤ abs_total c (cond single rows [])
  one_less c true true rows = omega arith
  one_less c true false rows = omega arith
  one_less c false within rows = omega arith

  rows_less : (c : ℕ) (tests : List Test) → abs_total c (flat_map rows_to tests) ≤ abs_total c (flat_map rows_all tests)
  rows_less c [] = omega arith
  rows_less c (x ∷ tests) =
      let one = one_less c (is_single (tested_range x)) (nat_le x.range.to to) (present (rows_found found) l (delta_of x.range)) in
      let rest = rows_less c tests in
      let less : abs_total c (rows_to x ++ flat_map rows_to tests) ≡ abs_total c (rows_to x) + abs_total c (flat_map rows_to tests) = sum_by-append _ (rows_to x) (flat_map rows_to tests) in
      let more : abs_total c (rows_all x ++ flat_map rows_all tests) ≡ abs_total c (rows_all x) + abs_total c (flat_map rows_all tests) = sum_by-append _ (rows_all x) (flat_map rows_all tests) in
      omega (arith, one, rest, less, more)

  one_found : (single within f : Bool) → (single ≡ true → f ≡ true) → (not (single && within) || f) ≡ true
  one_found true true f holds = holds refl
  one_found true false f holds = refl
  one_found false within f holds = refl

  all_found : (tests : List Test) → AllByRecursion (λ x. is_single (tested_range x) ≡ true → is_found found l (delta_of x.range) ≡ true) tests → list_all found_to tests ≡ true
  all_found tests each = all_pass found_to tests (all_so _ (λ x. found_to x ≡ true) tests (λ x holds. one_found (is_single (tested_range x)) (nat_le x.range.to to) (is_found found l (delta_of x.range)) holds) each)

  -- what is asked, where no later singleton is up to the version
  asked_of : (tests : List Test) → AllKeep found l tests → (list_all found_to tests && keep_bound (columns_of l) (flat_map rows_to tests)) ≡ true
  asked_of tests keep =
      let bounded = less_keeps (columns_of l) (flat_map rows_to tests) (flat_map rows_all tests) (λ c. rows_less c tests) keep.bound in
      λ k. all_found tests keep.each k && bounded k

  -- ranges that aren't up to the version ask nothing
  out_found : (tests : List Test) → AllByRecursion (λ x. is_up_to to (tested_range x) ≡ false) tests → list_all found_to tests ≡ true
  out_found tests out = all_pass found_to tests (all_so (λ x. is_up_to to (tested_range x) ≡ false) (λ x. found_to x ≡ true) tests (λ x e. ap (λ b. not b || is_found found l (delta_of x.range)) e) out)

  out_rows : (tests : List Test) → AllByRecursion (λ x. is_up_to to (tested_range x) ≡ false) tests → flat_map rows_to tests ≡ []
  out_rows tests out = flat_none rows_to tests (all_so (λ x. is_up_to to (tested_range x) ≡ false) (λ x. rows_to x ≡ []) tests (λ x e. ap (λ b. cond b (present (rows_found found) l (delta_of x.range)) []) e) out)

  late : (single : Bool) (v w : ℕ) → to < v → (single ≡ true → v ≤ w) → (single && nat_le w to) ≡ false
  late true v w less ends = let le = ends refl in let e : nat_le w to ≡ false = grind (arith, nat_tests) in e
  late false v w less ends = refl

  early : (single : Bool) (v w : ℕ) → v ≤ to → (single ≡ true → w ≤ v) → (single && nat_le w to) ≡ single
  early true v w less ends = let le = ends refl in let e : nat_le w to ≡ true = grind (arith, nat_tests) in e
  early false v w less ends = refl

  -- ---- up to the first that isn't found or doesn't keep the bound

  module _ (tests : List Test) (n : ℕ) (x : Test) (h : n < length tests) (is : x ≡ get_or tests n x) (keep : AllKeep found l (take n tests)) (single : is_single (tested_range x) ≡ true)
      (ends : (is_found found l (delta_of x.range) && keep_bound (columns_of l) (flat_map rows_all (take n tests) ++ present (rows_found found) l (delta_of x.range))) ≡ false)
      (before : AllByRecursion (λ y. EndsBefore is_single (tested_range y) (tested_range x)) (take n tests)) (after : AllByRecursion (λ y. EndsBefore is_single (tested_range x) (tested_range y)) (drop (n + 1) tests)) where
    abbrev s : Columns
    s = columns_of l

    abbrev fronts : List Test
    fronts = take n tests

    abbrev rest : List Test
    rest = drop (n + 1) tests

    abbrev own : List Row
    own = present (rows_found found) l (delta_of x.range)

    rows_parted : flat_map rows_to tests ≡ flat_map rows_to (take n tests) ++ (rows_to x ++ flat_map rows_to (drop (n + 1) tests))
    rows_parted = ap (flat_map rows_to) (sym (parted tests n x h is)) ∙ flat_map-append rows_to fronts (x ∷ rest)

    -- below its version it is asked
    asked_below : to < x.range.to → (list_all found_to tests && keep_bound s (flat_map rows_to tests)) ≡ true
    asked_below less =
        let out : AllByRecursion (λ y. is_up_to to (tested_range y) ≡ false) (x ∷ rest) = (
          late (is_single (tested_range x)) x.range.to x.range.to less (λ _. (let le : x.range.to ≤ x.range.to = omega arith in le)),
          all_so (λ y. EndsBefore is_single (tested_range x) (tested_range y)) (λ y. is_up_to to (tested_range y) ≡ false) rest (λ y ends. late (is_single (tested_range y)) x.range.to y.range.to less (ends single)) after,
        ) in
        let all = ap (list_all found_to) (sym (parted tests n x h is)) ∙ pass_both found_to fronts (x ∷ rest) (all_found fronts keep.each) (out_found (x ∷ rest) out) in
        let rows : flat_map rows_to tests ≡ flat_map rows_to fronts = rows_parted ∙ ap (λ rs. flat_map rows_to fronts ++ rs) (out_rows (x ∷ rest) out) ∙ append-nil (flat_map rows_to fronts) in
        let bounded = ap (keep_bound s) rows ∙ less_keeps s (flat_map rows_to fronts) (flat_map rows_all fronts) (λ c. rows_less c fronts) keep.bound in
        λ k. all k && bounded k

    -- and from there on it isn't
    not_asked : x.range.to ≤ to → (list_all found_to tests && keep_bound s (flat_map rows_to tests)) ≡ false
    not_asked le = by (is_found found l (delta_of x.range)) refl ends
      where
        up_to : is_up_to to (tested_range x) ≡ true
        up_to = early (is_single (tested_range x)) x.range.to x.range.to le (λ _. (let same : x.range.to ≤ x.range.to = omega arith in same)) ∙ single

        fronts_same : flat_map rows_to (take n tests) ≡ flat_map rows_all (take n tests)
        fronts_same =
            flat_same rows_to rows_all fronts (all_so (λ y. EndsBefore is_single (tested_range y) (tested_range x)) (λ y. rows_to y ≡ rows_all y) fronts
            (λ y ends. ap (λ b. cond b (present (rows_found found) l (delta_of y.range)) []) (early (is_single (tested_range y)) x.range.to y.range.to le (λ e. ends e single))) before)

        rows : flat_map rows_to tests ≡ (flat_map rows_all (take n tests) ++ own) ++ flat_map rows_to (drop (n + 1) tests)
        rows =
            rows_parted ∙ (λ k. fronts_same k ++ (cond (up_to k) own [] ++ flat_map rows_to rest)) ∙ sym (append_assoc (flat_map rows_all fronts) own (flat_map rows_to rest))

        exceeds : (b : Bool) → keep_bound s (flat_map rows_to tests) ≡ b → keep_bound s (flat_map rows_all (take n tests) ++ own) ≡ false → keep_bound s (flat_map rows_to tests) ≡ false
        exceeds false e out = e
        exceeds true e out = absurd (let both : true ≡ false = sym (front_keeps s (flat_map rows_all fronts ++ own) (flat_map rows_to rest) (ap (keep_bound s) (sym rows) ∙ e)) ∙ out in cc)

        by : (f : Bool) → is_found found l (delta_of x.range) ≡ f → (f && keep_bound s (flat_map rows_all (take n tests) ++ own)) ≡ false → (list_all found_to tests && keep_bound s (flat_map rows_to tests)) ≡ false
        by true e out = ap (λ b. list_all found_to tests && b) (exceeds (keep_bound s (flat_map rows_to tests)) refl out) ∙ last_false (list_all found_to tests)
        by false e out = ap (λ b. b && keep_bound s (flat_map rows_to tests)) (sym (one_fails found_to tests n x h is (λ k. not (up_to k) || e k)))

-- ---- of a table

module _ (i : Image) (found : Found) (next : ℕ) (t : Table) (tests : List Test) (are : map range_in (map range_of tests) ≡ held_ranges t) (table : IsTable next t) (all : AllByRecursion (IsRead i found t.evolving.value) tests) where
  abbrev l : Lineage
  l = t.evolving.value

  asked_as : (to : ℕ) → is_asked found (meta_of next t) to ≡ (list_all (λ (x : Test). not (is_up_to to (tested_range x)) || is_found found t.evolving.value (delta_of x.range)) tests
      && keep_bound (columns_of t.evolving.value) (flat_map (λ (x : Test). rows_where found t.evolving.value (is_up_to to) (tested_range x)) tests))
  asked_as to = λ k. sym (found_tested i found next t tests are all table to) k && keep_bound (columns_of l) (sym (rows_single i found next t tests are all table to) k)

  pub always_asked : AllKeep found t.evolving.value tests → IsAskedBelow found (meta_of next t) None
  always_asked keep to = asked_as to ∙ asked_of found l to tests keep

  pub asked_up_to : (n : ℕ) (x : Test) → n < length tests → x ≡ get_or tests n x → AllKeep found t.evolving.value (take n tests)
      → (not (is_single (tested_range x)) || (is_found found t.evolving.value (delta_of x.range) && keep_bound (columns_of t.evolving.value) (flat_map (λ (y : Test). rows_where found t.evolving.value is_single (tested_range y)) (take n tests) ++ present (rows_found found) t.evolving.value (delta_of x.range)))) ≡ false
      → IsAskedBelow found (meta_of next t) (Some x.range.to)
  asked_up_to n x h is keep out to =
      let rows = flat_map (λ (y : Test). rows_where found l is_single (tested_range y)) (take n tests) ++ present (rows_found found) l (delta_of x.range) in
      let ends = ends_here (is_single (tested_range x)) (is_found found l (delta_of x.range)) (keep_bound (columns_of l) rows) out in
      let order = single_tests t tests are next table in
      let before = ahead is_single tests n x h is order in
      let after = behind is_single tests n x h is order in
      asked_as to ∙ by (nat_lt to x.range.to) refl ends before after
    where
      by : (b : Bool) → nat_lt to x.range.to ≡ b → (is_single (tested_range x) ≡ true) × ((is_found found l (delta_of x.range) && keep_bound (columns_of l) (flat_map (λ (y : Test). rows_where found l is_single (tested_range y)) (take n tests) ++ present (rows_found found) l (delta_of x.range))) ≡ false)
          → AllByRecursion (λ y. EndsBefore is_single (tested_range y) (tested_range x)) (take n tests) → AllByRecursion (λ y. EndsBefore is_single (tested_range x) (tested_range y)) (drop (n + 1) tests)
          → (list_all (λ (y : Test). not (is_up_to to (tested_range y)) || is_found found l (delta_of y.range)) tests && keep_bound (columns_of l) (flat_map (λ (y : Test). rows_where found l (is_up_to to) (tested_range y)) tests)) ≡ nat_lt to x.range.to
      by true e ends before after = asked_below found l to tests n x h is keep ends.0 ends.1 before after (let less : to < x.range.to = grind (arith, nat_tests) in less) ∙ sym e
      by false e ends before after = not_asked found l to tests n x h is keep ends.0 ends.1 before after (let le : x.range.to ≤ to = grind (arith, nat_tests) in le) ∙ sym e
