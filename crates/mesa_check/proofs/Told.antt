-- What the tests of a table's ranges tell of its faults.
use Rattle.std.proofs.Common.{◌≡◌, ℕ, ◌+◌, ◌≤◌, List, [], ◌∷◌, ◌++◌, map, refl, sym, ◌∙◌, ap, subst, arith, ◌-◌, Bool, true, false, not, cond, ◌&&◌}
use Rattle.std.specs.Prelude.{flat_map, find, is_some, option_map, slice_get, ◌==◌, ◌||◌, Option, None, Some}
use Rattle.std.specs.List.{AllByRecursion, list_all}
use Rattle.std.proofs.lemmas.Bool.Decides.{nat_tests}
use Rattle.mesa_disk.specs.Image.{Image}
use Rattle.mesa_schema.specs.Changes.{Lineage, columns_of, epoch_of}
use Rattle.mesa_pick_files.specs.mesa_columns.declared.rows.Row.{Row}
use Rattle.mesa_schema.specs.mesa_fold.Folded.{rows_of}
use Rattle.mesa_schema.proofs.mesa_columns.Lists.{all_both, all_map, all_so}
use Rattle.mesa_batch.specs.Totals.{abs_totals}
use Rattle.mesa_store_spec.specs.Catalog.{Delta, TableMeta, empty_delta, start_in}
use Rattle.mesa_store_spec.specs.Contents.{present}
use Rattle.mesa_store_spec.specs.Shape.{IsWithinBound}
use Rattle.mesa_store_spec.specs.Sound.{all_parts}
use Rattle.mesa_store_spec.specs.Fitting.{LiveFile, base_deltas, delta_in, delta_live, deltas_of, meta_live}
use Rattle.mesa_store_spec.proofs.Lists.{all_back, all_take, all_unflat, all_unmap}
use Rattle.mesa_catalog_table.specs.declared.table.Base.{Base as HeldBase}
use Rattle.mesa_catalog_table.specs.declared.table.Loaded.{Loaded}
use Rattle.mesa_catalog_table.specs.declared.table.Table.{Table}
use Rattle.mesa_catalog_table.specs.Meaning.{IsTable, ending_of, start_of_base, meta_of}
use Rattle.mesa_catalog_table.proofs.Named.{flat_map-map}
use Rattle.mesa_compare.specs.mesa_examine.Sums.{counted}
use Rattle.mesa_check.specs.Found.{AreFound, Found, IsFoundAs, rows_found}
use Rattle.mesa_check.specs.Faults.{exceeds_totals, fails, fault_of, has_false_totals, is_found, is_totalled, is_true, keys_shown, merged_key, merged_keys, merged_singles, range_faults, table_faults}
use Rattle.mesa_check.specs.Ranges.{Kind, Range, base_range, is_range, totals_range}
use Rattle.mesa_check.specs.Ranges.{Base, Single, Cumulative}
use Rattle.mesa_check.specs.Counted.{is_counted, rows_where, tells_of}
use Rattle.mesa_check.specs.Held.{IsHeld, delta_of, held_ranges, kind_in, loaded_range, range_in}
use Rattle.mesa_check.specs.Shown.{has_false_of, is_found_in, is_merged, is_sure, stands_of, tells_excess, tells_totals, tested_range}
use Rattle.mesa_check.specs.Tested.{HasRows, IsRead, IsTestOf, IsTested, range_of}
use Rattle.mesa_check.specs.declared.range.Held.{Held}
use Rattle.mesa_check.specs.declared.testing.Test.{Test}
use Rattle.mesa_check.proofs.Held.{is_up_to, files_held, found_held, found_to, held_all, held_files, find-map, if_passes, rows_held, rows_merged, sure_held, sure_of, totals_first, totals_held}
use Rattle.mesa_check.proofs.Walked.{IsAbsent, checked_held, single}

-- ---- a version that brought nothing has no fault

loaded_apart : (v : ℕ) (d : Delta) (ls : List Loaded) → IsAbsent v ls → is_range (slice_get (flat_map (λ (l : Loaded). if_passes tells_of (loaded_range l)) ls) 0) (single v d) ≡ false
loaded_apart v d [] absent = refl
loaded_apart v d (l ∷ ls) absent =
    elim (is_some l.delta.value.files) as (λ b. is_range (slice_get (cond b (loaded_range l ∷ []) [] ++ flat_map (λ (x : Loaded). if_passes tells_of (loaded_range x)) ls) 0) (single v d) ≡ false) [
      | true ↦ ap (λ b. b && b) absent.0
      | false ↦ loaded_apart v d ls absent.1
    ]

base_apart : (b : Option HeldBase) (v : ℕ) (d : Delta) (rest : List Range) → start_of_base b ≤ v → is_range (slice_get rest 0) (single v d) ≡ false → is_range (slice_get (base_range (option_map ending_of b) ++ rest) 0) (single v d) ≡ false
base_apart None v d rest h apart = apart
base_apart (Some b) v d rest h apart = let out : (b.to == v) ≡ false = grind (arith, nat_tests) in ap (λ x. (0 == v) && x) out ∙ last (0 == v)
  where
    last : (x : Bool) → (x && false) ≡ false
    last true = refl
    last false = refl

module _ (found : Found) (next : ℕ) (t : Table) (is : IsTable next t) where
  none_at : (v : ℕ) → start_of_base t.base ≤ v → IsAbsent v t.loaded.items → range_faults found (meta_of next t) (single v empty_delta) ≡ []
  none_at v low absent =
      let u = meta_of next t in
      let apart : is_range (totals_range u) (single v empty_delta) ≡ false = ap (λ o. is_range o (single v empty_delta)) (totals_first next t is) ∙ base_apart t.base v empty_delta (flat_map (λ (l : Loaded). if_passes tells_of (loaded_range l)) t.loaded.items) low (loaded_apart v empty_delta t.loaded.items absent) in
      λ i. map (fault_of u (single v empty_delta)) (cond (apart i && exceeds_totals found u) (None ∷ []) [] ++ [])

  -- the faults of a table are those of the ranges that it holds
  pub faults_held : table_faults found (meta_of next t) ≡ flat_map (range_faults found (meta_of next t)) (held_ranges t)
  faults_held = checked_held (range_faults found (meta_of next t)) next t is none_at

-- by their tests
pub faults_tested : (found : Found) (u : TableMeta) (t : Table) (tests : List Test) → map range_in (map range_of tests) ≡ held_ranges t → flat_map (λ (x : Test). range_faults found u (tested_range x)) tests ≡ flat_map (range_faults found u) (held_ranges t)
faults_tested found u t tests are =
    sym (flat_map-map (λ (r : Held). range_faults found u (range_in r)) range_of tests) ∙ sym (flat_map-map (range_faults found u) range_in (map range_of tests)) ∙ ap (flat_map (range_faults found u)) are

pub mapped_twice : (tests : List Test) → map tested_range tests ≡ map range_in (map range_of tests)
mapped_twice [] = refl
mapped_twice (x ∷ tests) = ap (λ rs. tested_range x ∷ rs) (mapped_twice tests)

-- the range that tells of the totals, by its test
pub told_as : (next : ℕ) (t : Table) (tests : List Test) → map range_in (map range_of tests) ≡ held_ranges t → IsTable next t → option_map tested_range (find tells_totals tests) ≡ totals_range (meta_of next t)
told_as next t tests are is = find-map tells_of tested_range tests ∙ ap (find tells_of) (mapped_twice tests ∙ are) ∙ sym (totals_held next t is)

-- a cumulative's keys, and those of the others
abbrev merged_by : Found → TableMeta → Range → Kind → List (List ℕ)
merged_by found u r Base = []
merged_by found u r Single = []
merged_by found u r Cumulative = merged_key found u r.to r.delta

abbrev is_merged_by : Kind → Bool
is_merged_by Base = false
is_merged_by Single = false
is_merged_by Cumulative = true

merged_at : (found : Found) (u : TableMeta) (r : Range) (k : Kind) → is_merged_by k ≡ true → merged_by found u r k ≡ merged_key found u r.to r.delta
merged_at found u r Base e = absurd cc
merged_at found u r Single e = absurd cc
merged_at found u r Cumulative e = refl

none_merged : (found : Found) (u : TableMeta) (r : Range) (k : Kind) → is_merged_by k ≡ false → merged_by found u r k ≡ []
none_merged found u r Base e = refl
none_merged found u r Single e = refl
none_merged found u r Cumulative e = absurd cc

pub merged_in : (found : Found) (u : TableMeta) (r : Range) → is_merged r ≡ true → merged_keys found u r ≡ merged_key found u r.to r.delta
merged_in found u r e = merged_at found u r r.kind e

pub merged_out : (found : Found) (u : TableMeta) (r : Range) → is_merged r ≡ false → merged_keys found u r ≡ []
merged_out found u r e = none_merged found u r r.kind e

-- ---- tests of all ranges

pub tests_all : (P : Range → Type 0) (t : Table) (tests : List Test) → map range_in (map range_of tests) ≡ held_ranges t → AllByRecursion P (held_ranges t) → AllByRecursion (λ (x : Test). P (tested_range x)) tests
tests_all P t tests are all = all_unmap (λ (r : Held). P (range_in r)) range_of tests (all_unmap P range_in (map range_of tests) (subst (AllByRecursion P) (sym are) all))

pub all_tests : (P : Range → Type 0) (t : Table) (tests : List Test) → map range_in (map range_of tests) ≡ held_ranges t → AllByRecursion (λ (x : Test). P (tested_range x)) tests → AllByRecursion P (held_ranges t)
all_tests P t tests are all = subst (AllByRecursion P) are (all_map P range_in (map range_of tests) (all_map (λ (r : Held). P (range_in r)) range_of tests all))

pub ranges_all : (P : Range → Type 0) (t : Table) (ranges : List Held) → map range_in ranges ≡ held_ranges t → AllByRecursion P (held_ranges t) → AllByRecursion (λ (r : Held). P (range_in r)) ranges
ranges_all P t ranges are all = all_unmap P range_in ranges (subst (AllByRecursion P) (sym are) all)

pub epochs_held : (next : ℕ) (t : Table) → IsHeld next t → AllByRecursion (λ (r : Range). r.delta.epoch ≤ epoch_of t.evolving.value) (held_ranges t)
epochs_held next t is = held_all (λ (d : Delta). d.epoch ≤ epoch_of t.evolving.value) next t is.shaped.epochs

pub within_held : (next : ℕ) (t : Table) → IsHeld next t → AllByRecursion (λ (r : Range). IsWithinBound r.delta) (held_ranges t)
within_held next t is = held_all IsWithinBound next t is.shaped.recorded

-- what is found of a table's files is what the tests say
pub all_read : (told : Option Image) (next : ℕ) (t : Table) (tests : List Test) (i : Image) (found : Found) → map range_in (map range_of tests) ≡ held_ranges t → AllByRecursion (IsTestOf told t.evolving.value) tests → told ≡ Some i → AreFound i found (meta_live (meta_of next t))
    → AllByRecursion (IsRead i found t.evolving.value) tests
all_read told next t tests i found are all is files =
    all_both (λ (x : Test). AreFound i found (delta_live t.evolving.value (delta_of x.range))) (IsTestOf told t.evolving.value) (IsRead i found t.evolving.value) tests (λ x its test. record { files = its; tested = test.tested i found is its })
    (tests_all (λ (r : Range). AreFound i found (delta_live t.evolving.value r.delta)) t tests are (held_files (λ (x : LiveFile). IsFoundAs i x (found x.file.id)) next t files)) all

-- where all files are the recorded ones, they have rows
pub all_have_rows : (told : Option Image) (next : ℕ) (t : Table) (tests : List Test) (i : Image) → map range_in (map range_of tests) ≡ held_ranges t → AllByRecursion (IsTestOf told t.evolving.value) tests → told ≡ Some i → AllByRecursion (λ x. is_found_in x ≡ true) tests
    → AllByRecursion (HasRows i) (meta_live (meta_of next t))
all_have_rows told next t tests i are all is holds =
    files_held (HasRows i) next t (all_tests (λ (r : Range). AllByRecursion (HasRows i) (delta_live t.evolving.value r.delta)) t tests are
    (all_both (IsTestOf told t.evolving.value) (λ x. is_found_in x ≡ true) (λ (x : Test). AllByRecursion (HasRows i) (delta_live t.evolving.value (delta_of x.range))) tests (λ x test so. test.there i is so) all holds))

-- ---- what no key shows

pub stands_as : (found : Found) (u : TableMeta) (x : Test) (over : Bool) → IsTested found u.lineage (delta_of x.range) x → over ≡ tells_excess found u (tested_range x) → stands_of x over ≡ fails found u (tested_range x)
stands_as found u x over tested is = by x.found refl
  where
    by : (b : Bool) → x.found ≡ b → stands_of x over ≡ fails found u (tested_range x)
    by true e =
        let totalled = tested.totalled e in
        λ i. not (tested.found i) || elim (kind_in x.range.kind) [ Base ↦ false | Single ↦ not (totalled i) | Cumulative ↦ false ] || is i
    by false e =
        ap (λ b. not b || has_false_of x || over) e
        ∙ sym (ap (λ b. not b || has_false_totals found u (tested_range x) || tells_excess found u (tested_range x)) (sym tested.found ∙ e))

pub found_where : (x : Test) (over : Bool) → stands_of x over ≡ false → x.found ≡ true
found_where x over e = by x.found refl e
  where
    by : (b : Bool) → x.found ≡ b → (not b || has_false_of x || over) ≡ false → x.found ≡ true
    by true is e = is
    by false is e = absurd cc

pub first_map : {A B : Type 0} (f : A → B) (xs : List A) → slice_get (map f xs) 0 ≡ option_map f (slice_get xs 0)
first_map f [] = refl
first_map f (x ∷ xs) = refl

-- the first fault of a range
pub fault_stands : (found : Found) (u : TableMeta) (r : Range) → fails found u r ≡ true → slice_get (range_faults found u r) 0 ≡ Some (fault_of u r None)
fault_stands found u r e = ap (λ b. slice_get (map (fault_of u r) (cond b (None ∷ []) [] ++ map Some (keys_shown found u r))) 0) e

pub fault_shown : (found : Found) (u : TableMeta) (r : Range) → fails found u r ≡ false → slice_get (range_faults found u r) 0 ≡ option_map (fault_of u r) (option_map Some (slice_get (keys_shown found u r) 0))
fault_shown found u r e =
    ap (λ b. slice_get (map (fault_of u r) (cond b (None ∷ []) [] ++ map Some (keys_shown found u r))) 0) e
    ∙ first_map (fault_of u r) (map Some (keys_shown found u r)) ∙ ap (option_map (fault_of u r)) (first_map Some (keys_shown found u r))

-- ---- rows that are added up

pub all_same : {A : Type 0} (P : A → Type 0) (p q : A → Bool) (xs : List A) → ((x : A) → P x → p x ≡ q x) → AllByRecursion P xs → list_all p xs ≡ list_all q xs
all_same P p q [] same all = refl
all_same P p q (x ∷ xs) same all = λ i. same x all.0 i && all_same P p q xs same all.1 i

pub all_mapped : {A B : Type 0} (p : B → Bool) (f : A → B) (xs : List A) → list_all (λ x. p (f x)) xs ≡ list_all p (map f xs)
all_mapped p f [] = refl
all_mapped p f (x ∷ xs) = ap (λ b. p (f x) && b) (all_mapped p f xs)

abbrev sure_by : Bool → Bool → Kind → Bool
sure_by a b Base = a
sure_by a b Single = a && b
sure_by a b Cumulative = true

abbrev counted_by : Kind → Bool
counted_by Base = true
counted_by Single = true
counted_by Cumulative = false

or_parts : (a b : Bool) → (not a || b) ≡ true → a ≡ true → b ≡ true
or_parts true b e is = e
or_parts false b e is = absurd cc

and_parts : (a b : Bool) → (a && b) ≡ true → (a ≡ true) × (b ≡ true)
and_parts true b e = (refl, e)
and_parts false b e = absurd cc

pub passed_all : {A : Type 0} (p : A → Bool) (xs : List A) → list_all p xs ≡ true → AllByRecursion (λ x. p x ≡ true) xs
passed_all p [] e = tt
passed_all p (x ∷ xs) e = let parts = and_parts (p x) (list_all p xs) e in (parts.0, passed_all p xs parts.1)

rows_sum : (found : Found) (l : Lineage) (x : Test) → IsTested found l (delta_of x.range) x → x.found ≡ true → is_counted (tested_range x) ≡ true → x.present ≡ counted (abs_totals (columns_of l) (rows_where found l is_counted (tested_range x)))
rows_sum found l x tested holds counts = tested.present holds ∙ ap (λ b. counted (abs_totals (columns_of l) (cond b (present (rows_found found) l (delta_of x.range)) []))) (sym counts)

-- of the tests and of the ranges
pub rows_tested : (f : Range → List Row) (t : Table) (tests : List Test) → map range_in (map range_of tests) ≡ held_ranges t → flat_map (λ (x : Test). f (tested_range x)) tests ≡ flat_map f (held_ranges t)
rows_tested f t tests are = sym (flat_map-map (λ (r : Held). f (range_in r)) range_of tests) ∙ sym (flat_map-map f range_in (map range_of tests)) ∙ ap (flat_map f) are

-- a range that is sure has files that are the recorded ones, where it is counted
sure_at : (x : Test) (k : Kind) → sure_by x.found x.totalled k ≡ true → counted_by k ≡ true → x.found ≡ true
sure_at x Base sure counts = sure
sure_at x Single sure counts = (and_parts x.found x.totalled sure).0
sure_at x Cumulative sure counts = absurd cc

sure_found : (x : Test) → is_sure x ≡ true → is_counted (tested_range x) ≡ true → x.found ≡ true
sure_found x sure counts = sure_at x (kind_in x.range.kind) sure counts

sure_as : (found : Found) (l : Lineage) (x : Test) → IsTested found l (delta_of x.range) x → is_sure x ≡ sure_of found l (tested_range x)
sure_as found l x tested = by x.found refl
  where
    kinds : (a b : Bool) → a ≡ is_found found l (delta_of x.range) → (a && b) ≡ is_true found l (delta_of x.range) → elim (kind_in x.range.kind) [ Base ↦ a | Single ↦ a && b | Cumulative ↦ true ] ≡ sure_of found l (tested_range x)
    kinds a b e f = λ i. elim (kind_in x.range.kind) [ Base ↦ e i | Single ↦ f i | Cumulative ↦ true ]

    by : (b : Bool) → x.found ≡ b → is_sure x ≡ sure_of found l (tested_range x)
    by true e = kinds x.found x.totalled tested.found (λ i. tested.found i && tested.totalled e i)
    by false e = kinds x.found x.totalled tested.found (ap (λ b. b && x.totalled) e ∙ sym (ap (λ b. b && is_totalled found l (delta_of x.range)) (sym tested.found ∙ e)))

module _ (i : Image) (found : Found) (next : ℕ) (t : Table) (tests : List Test) (are : map range_in (map range_of tests) ≡ held_ranges t) (all : AllByRecursion (IsRead i found t.evolving.value) tests) where
  abbrev l : Lineage
  l = t.evolving.value

  abbrev u : TableMeta
  u = meta_of next t

  -- all that are asked are sure
  pub sure_tested : list_all is_sure tests ≡ (list_all (is_found found t.evolving.value) (base_deltas (meta_of next t).base) && list_all (is_true found t.evolving.value) (meta_of next t).singles)
  sure_tested =
      all_same (IsRead i found l) is_sure (λ (x : Test). sure_of found l (tested_range x)) tests (λ x read. sure_as found l x read.tested) all
      ∙ all_mapped (λ (r : Held). sure_of found l (range_in r)) range_of tests ∙ all_mapped (sure_of found l) range_in (map range_of tests) ∙ ap (list_all (sure_of found l)) are ∙ sure_held found l next t

  pub sure_sums : list_all is_sure tests ≡ true → AllByRecursion (λ (x : Test). is_counted (tested_range x) ≡ true → x.present ≡ counted (abs_totals (columns_of t.evolving.value) (rows_where found t.evolving.value is_counted (tested_range x)))) tests
  sure_sums holds =
      all_both (λ x. is_sure x ≡ true) (IsRead i found l) (λ (x : Test). is_counted (tested_range x) ≡ true → x.present ≡ counted (abs_totals (columns_of l) (rows_where found l is_counted (tested_range x)))) tests
      (λ x sure read counts. rows_sum found l x read.tested (sure_found x sure counts) counts) (passed_all is_sure tests holds) all

  pub rows_sure : flat_map (λ (x : Test). rows_where found t.evolving.value is_counted (tested_range x)) tests ≡ rows_of (all_parts (rows_found found) (meta_of next t))
  rows_sure = rows_tested (rows_where found l is_counted) t tests are ∙ rows_held found l next t

  module _ (is : IsTable next t) (to : ℕ) where
    pub found_tested : list_all (λ (x : Test). not (is_up_to to (tested_range x)) || is_found found t.evolving.value (delta_of x.range)) tests ≡ list_all (is_found found t.evolving.value) (merged_singles (meta_of next t) to)
    found_tested = all_mapped (λ (r : Held). found_to found l to (range_in r)) range_of tests ∙ all_mapped (found_to found l to) range_in (map range_of tests) ∙ ap (list_all (found_to found l to)) are ∙ found_held found l next to t is

    pub rows_single : flat_map (λ (x : Test). rows_where found t.evolving.value (is_up_to to) (tested_range x)) tests ≡ rows_of (map (present (rows_found found) t.evolving.value) (merged_singles (meta_of next t) to))
    rows_single = rows_tested (rows_where found l (is_up_to to)) t tests are ∙ rows_merged found l next to t is

-- ---- files of a table

-- what was found of the ranges' files was found of the table's
pub meta_read : (i : Image) (found : Found) (next : ℕ) (t : Table) (tests : List Test) → map range_in (map range_of tests) ≡ held_ranges t → AllByRecursion (IsRead i found t.evolving.value) tests → AreFound i found (meta_live (meta_of next t))
meta_read i found next t tests are all =
    let Q = λ (x : LiveFile). IsFoundAs i x (found x.file.id) in
    files_held Q next t (all_tests (λ (r : Range). AllByRecursion Q (delta_live t.evolving.value r.delta)) t tests are
    (all_so (IsRead i found t.evolving.value) (λ (x : Test). AreFound i found (delta_live t.evolving.value (delta_of x.range))) tests (λ x read. read.files) all))

-- and so of its singletons'
pub singles_found : (i : Image) (found : Found) (u : TableMeta) (to : ℕ) → AreFound i found (meta_live u) → AllByRecursion (λ d. AreFound i found (delta_live u.lineage d)) (merged_singles u to)
singles_found i found u to files =
    let P = λ (d : Delta). AreFound i found (delta_live u.lineage d) in
    let deltas = all_unflat (λ (x : LiveFile). IsFoundAs i x (found x.file.id)) (delta_live u.lineage) (deltas_of u) files in
    all_take P (to + 1 - start_in u) u.singles (all_back P (map delta_in u.cumulatives) u.singles (all_back P (base_deltas u.base) (map delta_in u.cumulatives ++ u.singles) deltas))
