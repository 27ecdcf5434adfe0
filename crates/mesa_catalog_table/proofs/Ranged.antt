-- What is lent for a range of versions.
use Rattle.std.proofs.Common.{◌≡◌, ℕ, zero, suc, ◌+◌, ◌-◌, ◌*◌, ◌≤◌, ◌<◌, List, [], ◌∷◌, ◌++◌, length, refl, ◌∙◌, ap, arith, Bool, true, false, cond, ltb, get_or}
use Rattle.std.specs.Prelude.{replicate, find, nat_le, ◌==◌, ◌&&◌, Option, Some, None, option_map, slice_get}
use Rattle.std.specs.List.Sorted.{IsNonDecreasingBy, IsPartitionPoint}
use Rattle.std.specs.declared.alloc.Global.{Global}
use Rattle.std.specs.declared.sync.Arc.{Arc}
use Rattle.std.proofs.lemmas.Bool.Decides.{nat_tests}
use Rattle.std.proofs.lemmas.Option.{slice_get_past}
use Rattle.mesa_store_spec.specs.Catalog.{Delta, Ending, empty_delta}
use Rattle.mesa_store_spec.specs.Fitting.{delta_in}
use Rattle.mesa_catalog_table.specs.declared.table.Loaded.{Loaded}
use Rattle.mesa_catalog_table.specs.declared.table.Table.{Table}
use Rattle.mesa_catalog_table.specs.Copied.{value_in}
use Rattle.mesa_catalog_table.specs.Meaning.{AreLoaded, IsTable, singles_from, start_of_base, meta_of, tens_from}
use Rattle.mesa_catalog_table.specs.Ranged.{single_at}
use Rattle.mesa_catalog_table.proofs.Singles.{length-singles}
use Rattle.mesa_catalog_table.proofs.Works.{starts}

-- ---- cumulatives

abbrev pub ten_at : ℕ → ℕ → List (Arc Delta Global) → Option Delta
ten_at start to ds = option_map delta_in (find (λ (e : Ending). e.to == to) (tens_from start ds))

abbrev pub ten_if : ℕ → ℕ → Arc Delta Global → List (Arc Delta Global) → Bool → Option Delta
ten_if start to d ds b = option_map delta_in (cond b (Some (record { to = start + 9; delta = d.value })) (find (λ (e : Ending). e.to == to) (tens_from (start + 10) ds)))

-- the one that ends so many tens behind the start
pub ten_found : (start to k : ℕ) (ds : List (Arc Delta Global)) → to ≡ start + 10 * k + 9 → ten_at start to ds ≡ option_map value_in (slice_get ds k)
ten_found start to zero [] e = refl
ten_found start to (suc k) [] e = refl
ten_found start to zero (d ∷ ds) e = let here : (start + 9 == to) ≡ true = grind (arith, nat_tests) in ap (ten_if start to d ds) here
ten_found start to (suc k) (d ∷ ds) e = let here : (start + 9 == to) ≡ false = grind (arith, nat_tests) in ap (ten_if start to d ds) here ∙ ten_found (start + 10) to k ds (omega arith)

-- none ends before the first
pub none_early : (start to : ℕ) (ds : List (Arc Delta Global)) → to < start + 9 → ten_at start to ds ≡ None
none_early start to [] h = refl
none_early start to (d ∷ ds) h = let here : (start + 9 == to) ≡ false = grind (arith, nat_tests) in ap (ten_if start to d ds) here ∙ none_early (start + 10) to ds (omega arith)

-- none ends between two
pub none_between : (start to q r : ℕ) (ds : List (Arc Delta Global)) → to + 1 ≡ start + 10 * q + r → 0 < r → r < 10 → ten_at start to ds ≡ None
none_between start to zero r ds e low high = none_early start to ds (omega arith)
none_between start to (suc q) r [] e low high = refl
none_between start to (suc q) r (d ∷ ds) e low high = let here : (start + 9 == to) ≡ false = grind (arith, nat_tests) in ap (ten_if start to d ds) here ∙ none_between (start + 10) to q r ds (omega arith) low high

-- ---- singletons

abbrev pub version_of : Loaded → ℕ
version_of l = l.version

least_version : (start next : ℕ) (loaded : List Loaded) → AreLoaded start next loaded → (j : ℕ) (d : Loaded) → j < length loaded → start ≤ version_of (get_or loaded j d)
least_version start next [] are j d h = absurd (omega arith)
least_version start next (l ∷ loaded) are zero d h = are.0
least_version start next (l ∷ loaded) are (suc j) d h =
    let first : start ≤ l.version = are.0 in
    let later = least_version (l.version + 1) next loaded are.2 j d (omega arith) in
    omega arith

-- what is loaded stands by rising versions
pub versions_rise : (start next : ℕ) (loaded : List Loaded) → AreLoaded start next loaded → IsNonDecreasingBy version_of loaded
versions_rise start next [] are i j d le h = absurd (omega arith)
versions_rise start next (l ∷ loaded) are zero zero d le h = omega arith
versions_rise start next (l ∷ loaded) are zero (suc j) d le h =
    let later = least_version (l.version + 1) next loaded are.2 j d (omega arith) in
    omega arith
versions_rise start next (l ∷ loaded) are (suc i) zero d le h = absurd (omega arith)
versions_rise start next (l ∷ loaded) are (suc i) (suc j) d le h = versions_rise (l.version + 1) next loaded are.2 i j d (omega arith) (omega arith)

in_empties : (n i : ℕ) (ds : List Delta) → i < n → slice_get (replicate n empty_delta ++ ds) i ≡ Some empty_delta
in_empties zero i ds h = absurd (omega arith)
in_empties (suc n) zero ds h = refl
in_empties (suc n) (suc i) ds h = in_empties n i ds (omega arith)

only_empties : (n i : ℕ) → i < n → slice_get (replicate n empty_delta) i ≡ Some empty_delta
only_empties zero i h = absurd (omega arith)
only_empties (suc n) zero h = refl
only_empties (suc n) (suc i) h = only_empties n i (omega arith)

behind_empties : (n i k : ℕ) (ds : List Delta) → k ≡ n + i → slice_get (replicate n empty_delta ++ ds) k ≡ slice_get ds i
behind_empties zero i k ds e = let same : k ≡ i = omega arith in ap (slice_get ds) same
behind_empties (suc n) i zero ds e = absurd (omega arith)
behind_empties (suc n) i (suc k) ds e = behind_empties n i k ds (omega arith)

-- what a version brought, where this is the first that was loaded at it or behind it
abbrev pub brought_in : ℕ → Option Loaded → Delta
brought_in version None = empty_delta
brought_in version (Some l) = cond (l.version == version) l.delta.value empty_delta

pub single_found : (version from next : ℕ) (loaded : List Loaded) (i : ℕ) → AreLoaded from next loaded → from ≤ version → version < next
    → IsPartitionPoint (λ l. ltb (version_of l) version ≡ true) (λ l. ltb (version_of l) version ≡ false) loaded i
    → slice_get (singles_from from next loaded) (version - from) ≡ Some (brought_in version (slice_get loaded i))
single_found version from next [] zero are low high point = only_empties (next - from) (version - from) (omega arith)
single_found version from next [] (suc i) are low high point = only_empties (next - from) (version - from) (omega arith)
single_found version from next (l ∷ loaded) zero are low high point =
    let first : from ≤ l.version = are.0 in
    let late : ltb (version_of l) version ≡ false = point.1 0 l (omega arith) (omega arith) in
    let rest = l.delta.value ∷ singles_from (l.version + 1) next loaded in
    let Goal : Bool → Type 0 = λ b. (l.version == version) ≡ b → slice_get (replicate (l.version - from) empty_delta ++ rest) (version - from) ≡ Some (cond b l.delta.value empty_delta) in
    elim (l.version == version) as Goal [
      | true ↦ λ e. let same : l.version ≡ version = grind (arith, nat_tests) in behind_empties (l.version - from) 0 (version - from) rest (omega arith)
      | false ↦ λ e. let less : version < l.version = grind (arith, nat_tests) in in_empties (l.version - from) (version - from) rest (omega arith)
    ] refl
single_found version from next (l ∷ loaded) (suc i) are low high point =
    let first : from ≤ l.version = are.0 in
    let early : ltb (version_of l) version ≡ true = point.0 0 l (omega arith) (omega arith) in
    let less : l.version < version = grind (arith, nat_tests) in
    behind_empties (l.version - from) (suc (version - (l.version + 1))) (version - from) (l.delta.value ∷ singles_from (l.version + 1) next loaded) (omega arith)
    ∙ single_found version (l.version + 1) next loaded i are.2 (omega arith) high ((λ k d low high. point.0 (suc k) d (omega arith) (omega arith)), (λ k d low high. point.1 (suc k) d (omega arith) (omega arith)))

-- ---- the singleton of a range

abbrev pub single_if : ℕ → Table → ℕ → ℕ → Bool → Option Delta
single_if next t start from b = cond b (slice_get (singles_from (start_of_base t.base) next t.loaded.items) (from - start)) None

module _ (next : ℕ) (t : Table) (from to : ℕ) where
  -- by the start of what is held
  by_start : single_at (meta_of next t) from to ≡ single_if next t (start_of_base t.base) from ((from == to) && nat_le (start_of_base t.base) from)
  by_start = ap (λ start. single_if next t start from ((from == to) && nat_le start from)) (starts next t)

  pub none_where_they_differ : (from ≡ to → ⊥) → single_at (meta_of next t) from to ≡ None
  none_where_they_differ differ =
      let off : (from == to) ≡ false = grind (arith, nat_tests) in
      by_start ∙ ap (λ b. single_if next t (start_of_base t.base) from (b && nat_le (start_of_base t.base) from)) off

  pub none_before : from ≡ to → from < start_of_base t.base → single_at (meta_of next t) from to ≡ None
  none_before same before =
      let off : ((from == to) && nat_le (start_of_base t.base) from) ≡ false = grind (arith, nat_tests) in
      by_start ∙ ap (single_if next t (start_of_base t.base) from) off

  pub none_behind : IsTable next t → from ≡ to → start_of_base t.base ≤ from → next ≤ from → single_at (meta_of next t) from to ≡ None
  none_behind table same late past =
      let on : ((from == to) && nat_le (start_of_base t.base) from) ≡ true = grind (arith, nat_tests) in
      let tens = table.tens in
      let count = length-singles (start_of_base t.base) next t.loaded.items (omega arith) table.loaded in
      by_start ∙ ap (single_if next t (start_of_base t.base) from) on ∙ slice_get_past (singles_from (start_of_base t.base) next t.loaded.items) (from - start_of_base t.base) (omega arith)

  pub some_there : (d : Delta) → from ≡ to → start_of_base t.base ≤ from → slice_get (singles_from (start_of_base t.base) next t.loaded.items) (from - start_of_base t.base) ≡ Some d
      → single_at (meta_of next t) from to ≡ Some d
  some_there d same late found =
      let on : ((from == to) && nat_le (start_of_base t.base) from) ≡ true = grind (arith, nat_tests) in
      by_start ∙ ap (single_if next t (start_of_base t.base) from) on ∙ found
