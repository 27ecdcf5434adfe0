-- Tables that are held, as tables of the catalogue.
use Rattle.std.proofs.Common.{◌≡◌, ℕ, zero, suc, ◌≤◌, ◌<◌, List, [], ◌∷◌, ◌++◌, length, map, arith, true, false, get_or, set}
use Rattle.std.specs.List.{AllByRecursion}
use Rattle.std.proofs.lemmas.Bool.Decides.{nat_tests}
use Rattle.std.proofs.lemmas.List.{length-map, get_or-map, map-set}
use Rattle.mesa_table_records.specs.mesa_store_spec.Catalog.{no_meta, meta_at, with_meta}
use Rattle.mesa_table_records.specs.mesa_store_spec.Fitting.{is_there}
use Rattle.mesa_table_records.specs.mesa_catalog_table.declared.table.Table.{Table}
use Rattle.mesa_catalog_records.specs.declared.catalog_tables.CatalogTables.{CatalogTables}
use Rattle.mesa_catalog_records.specs.Meaning.{catalogue_of}
use Rattle.mesa_table_records.specs.mesa_catalog_table.Meaning.{meta_of}

-- a table that is there
pub there : (s : CatalogTables) (i : ℕ) → i < length s.tables.items → is_there (catalogue_of s) i ≡ true
there s i h = let count = length-map s.tables.items (meta_of s.next) in grind (arith, nat_tests)

pub not_there : (s : CatalogTables) (i : ℕ) → length s.tables.items ≤ i → is_there (catalogue_of s) i ≡ false
not_there s i h = let count = length-map s.tables.items (meta_of s.next) in grind (arith, nat_tests)

pub there_within : (s : CatalogTables) (i : ℕ) → is_there (catalogue_of s) i ≡ true → i < length s.tables.items
there_within s i e = let count = length-map s.tables.items (meta_of s.next) in grind (arith, nat_tests)

-- the table of a number
pub meta_here : (s : CatalogTables) (i : ℕ) (t : Table) → i < length s.tables.items → meta_at (catalogue_of s) i ≡ meta_of s.next (get_or s.tables.items i t)
meta_here s i t h = get_or-map (meta_of s.next) s.tables.items i t no_meta h

pub all_at : {X : Type 0} (P : X → Type 0) (xs : List X) (i : ℕ) (d : X) → AllByRecursion P xs → i < length xs → P (get_or xs i d)
all_at P [] i d all h = absurd (omega arith)
all_at P (x ∷ xs) zero d all h = all.0
all_at P (x ∷ xs) (suc i) d all h = all_at P xs i d all.1 (omega arith)

pub all_set : {X : Type 0} (P : X → Type 0) (xs : List X) (i : ℕ) (y : X) → AllByRecursion P xs → P y → AllByRecursion P (set xs i y)
all_set P [] i y all h = tt
all_set P (x ∷ xs) zero y all h = (h, all.1)
all_set P (x ∷ xs) (suc i) y all h = (all.0, all_set P xs i y all.1 h)

pub all_pushed : {X : Type 0} (P : X → Type 0) (xs : List X) (y : X) → AllByRecursion P xs → P y → AllByRecursion P (xs ++ y ∷ [])
all_pushed P [] y all h = (h, tt)
all_pushed P (x ∷ xs) y all h = (all.0, all_pushed P xs y all.1 h)

-- a table put in the place of another
pub put_at : (s : CatalogTables) (i : ℕ) (t : Table) → map (meta_of s.next) (set s.tables.items i t) ≡ (with_meta (catalogue_of s) i (meta_of s.next t)).tables
put_at s i t = map-set (meta_of s.next) s.tables.items i t
