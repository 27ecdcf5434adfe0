-- What is recorded of the files that a catalogue names.
use Rattle.std.proofs.Common.{◌≡◌, ℕ, zero, suc, ◌+◌, ◌≤◌, ◌<◌, List, [], ◌∷◌, length, map, get_or, refl, sym, ◌∙◌, ap, subst, arith, true, false, cond}
use Rattle.std.specs.Prelude.{◌==◌, flat_map, IsPermutation}
use Rattle.std.specs.List.Sorted.{IsNonDecreasingBy}
use Rattle.std.proofs.lemmas.Bool.Decides.{nat_tests}
use Rattle.std.proofs.lemmas.List.Sorted.{IsPermutation-map, sum_by-IsPermutation}
use Rattle.std.proofs.lemmas.Simd.{map-map}
use Rattle.mesa_catalog_records.specs.mesa_store_spec.Catalog.{Catalog}
use Rattle.mesa_catalog_records.specs.mesa_store_spec.Fitting.{live_files, meta_live}
use Rattle.mesa_catalog_records.specs.mesa_store_spec.Ids.{named, times}
use Rattle.mesa_catalog_records.specs.mesa_catalog_table.declared.recorded.Recorded.{Recorded}
use Rattle.mesa_catalog_records.specs.mesa_catalog_table.declared.table.Table.{Table}
use Rattle.mesa_catalog_records.specs.mesa_catalog_table.Files.{AreRecorded, RiseFrom, recorded_id, recorded_of}
use Rattle.mesa_catalog_records.specs.mesa_catalog_table.Meaning.{meta_of}
use Rattle.mesa_catalog_records.proofs.mesa_catalog_table.Named.{flat_map-map, map-flat_map}
use Rattle.mesa_catalog_records.specs.declared.catalog_tables.CatalogTables.{CatalogTables}
use Rattle.mesa_catalog_records.specs.Meaning.{catalogue_of}
use Rattle.mesa_catalog_records.proofs.Ids.{times_cons}

counted_at : {X : Type 0} (n : X → ℕ) (xs : List X) (i : ℕ) (d : X) → i < length xs → 0 < times (n (get_or xs i d)) (map n xs)
counted_at n [] i d h = absurd (omega arith)
counted_at n (x ∷ xs) zero d h = let split = times_cons (n x) (n x) (map n xs) in let itself : (n x == n x) ≡ true = grind (arith, nat_tests) in grind (arith, nat_tests)
counted_at n (x ∷ xs) (suc i) d h = let split = times_cons (n (get_or xs i d)) (n x) (map n xs) in let rest = counted_at n xs i d (omega arith) in omega (arith, split, rest)

-- sorted numbers none of which stands twice rise
pub rise_sorted : {X : Type 0} (n : X → ℕ) (least : ℕ) (xs : List X) → ((i : ℕ) (d : X) → i < length xs → least ≤ n (get_or xs i d)) → IsNonDecreasingBy n xs → ((id : ℕ) → times id (map n xs) ≤ 1) → RiseFrom least (map n xs)
rise_sorted n least [] low sorted once = tt
rise_sorted n least (x ∷ xs) low sorted once = (
  low 0 x (omega arith),
  rise_sorted n (n x + 1) xs
      (λ i d h.
      let y = n (get_or xs i d) in
      let more : n x ≤ y = sorted 0 (suc i) d (omega arith) (omega (arith, h)) in
      let there : 0 < times y (map n xs) = counted_at n xs i d h in
      let split = times_cons (n x) (n x) (map n xs) in
      let most = once (n x) in
      let itself : (n x == n x) ≡ true = grind (arith, nat_tests) in
      let one : times (n x) (n x ∷ map n xs) ≡ 1 + times (n x) (map n xs) = split ∙ ap (λ b. cond b 1 0 + times (n x) (map n xs)) itself in
      elim (n x == y) as (λ b. n x == y ≡ b → n x + 1 ≤ y) [
        | true ↦ λ e. let same : n x ≡ y = grind (arith, nat_tests) in let twice : 0 < times (n x) (map n xs) = subst (λ m. 0 < times m (map n xs)) (sym same) there in absurd (omega (arith, one, most, twice))
        | false ↦ λ e. grind (arith, nat_tests)
      ] refl)
      (λ i j d le lt. sorted (suc i) (suc j) d (omega (arith, le)) (omega (arith, lt)))
      (λ id. let split = times_cons id (n x) (map n xs) in let most = once id in omega (arith, split, most)),
)

pub times_moved : {X : Type 0} (n : X → ℕ) (xs ys : List X) (id : ℕ) → IsPermutation xs ys → times id (map n ys) ≡ times id (map n xs)
times_moved n xs ys id moved = sum_by-IsPermutation (λ m. cond (id == m) 1 0) (map n xs) (map n ys) (IsPermutation-map n xs ys moved)

-- what is recorded, table by table
pub recorded_tables : (s : CatalogTables) → map recorded_of (live_files (catalogue_of s)) ≡ flat_map (λ (t : Table). map recorded_of (meta_live (meta_of s.next t))) s.tables.items
recorded_tables s = map-flat_map recorded_of meta_live (map (meta_of s.next) s.tables.items) ∙ flat_map-map (λ t. map recorded_of (meta_live t)) (meta_of s.next) s.tables.items

-- sorted by ids, it is by rising ids
pub sorted_recorded : (c : Catalog) (files : List Recorded) → IsPermutation (map recorded_of (live_files c)) files → IsNonDecreasingBy recorded_id files → ((id : ℕ) → times id (named c) ≤ 1) → AreRecorded c files
sorted_recorded c files moved sorted once = record {
  rising = rise_sorted recorded_id 0 files (λ i d h. omega arith) sorted (λ id.
      let same = times_moved recorded_id (map recorded_of (live_files c)) files id moved ∙ ap (times id) (map-map recorded_id recorded_of (live_files c)) in
      let most = once id in
      omega (arith, same, most));
  same = moved;
}
