-- What is seen of a store's tables.
use Rattle.std.proofs.Common.{◌≡◌, ℕ, zero, suc, ◌+◌, ◌<◌, List, [], ◌∷◌, length, map, refl, sym, ap, subst, ◌∙◌, arith, Option, Some, None}
use Rattle.std.specs.Prelude.{option_and_then, option_map, slice_get, slice_index_or, IfSome}
use Rattle.std.proofs.lemmas.List.{length-map}
use Rattle.std.proofs.lemmas.Option.{slice_get-get_or}
use Rattle.mesa_answer.specs.mesa_columns.declared.rows.Row.{Row}
use Rattle.mesa_answer.specs.mesa_columns.Columns.{Columns, aggs_of}
use Rattle.mesa_schema.specs.Changes.{Lineage, columns_of}
use Rattle.mesa_batch.specs.Glance.{Known}
use Rattle.mesa_batch.specs.Totals.{abs_total, sum_bound, sum_places}
use Rattle.mesa_answer.specs.Answering.{KeepsSums}
use Rattle.mesa_model.specs.Warehouse.{Table, no_table, table_at}
use Rattle.mesa_oracle_tables.specs.declared.names.Place.{Place}
use Rattle.mesa_oracle_tables.specs.Found.{IsThere, known_at, no_known, relation_at, relation_seen}
use Rattle.mesa_oracle_tables.specs.Kept.{Contents, From, contents_in, table_in, tables_in, totals_in}
use Rattle.mesa_oracle_tables.specs.Sound.{AreHeld, HasTotals, HaveTotals, IsHeld}
use Rattle.mesa_oracle_tables.proofs.Bounds.{sum_at, sums_below_alone}
use Rattle.mesa_oracle_tables.proofs.OneVersion.{all_at, length-tables_in}
use Rattle.mesa_oracle_tables.proofs.Stores.{nothing_held}

-- the table of a number is the one that is kept for it
table_from : (from : From) (n : ℕ) (totals : List (List ℕ)) (versions : List Contents) (tables : List Known) (i : ℕ) → i < length tables → slice_index_or (tables_in from n totals versions tables) i no_table ≡ table_in from (n + i) totals versions (known_at i tables)
table_from from n totals versions [] i lt = absurd (omega (arith, lt))
table_from from n totals versions (k ∷ tables) zero lt = ap (λ m. table_in from m totals versions k) (omega arith)
table_from from n totals versions (k ∷ tables) (suc i) lt = table_from from (n + 1) totals versions tables i (omega (arith, lt)) ∙ ap (λ m. table_in from m totals versions (known_at i tables)) (omega arith)

pub table_kept : (totals : List (List ℕ)) (versions : List Contents) (tables : List Known) (from : From) (i : ℕ) → i < length tables
    → table_at (record { tables = tables_in from 0 totals versions tables; floor = from.floor }) i ≡ table_in from i totals versions (known_at i tables)
table_kept totals versions tables from i lt = table_from from 0 totals versions tables i lt ∙ ap (λ m. table_in from m totals versions (known_at i tables)) (omega arith)

-- and so is the relation at a place
pub relation_kept : (totals : List (List ℕ)) (versions : List Contents) (tables : List Known) (from : From) (place : Place) → place.table < length tables
    → relation_at from totals versions tables place ≡ relation_seen (record { tables = tables_in from 0 totals versions tables; floor = from.floor }) place
relation_kept totals versions tables from place lt =
    ap (λ (t : Table). record { number = place.table; table = t; view = option_and_then (slice_get t.lineage.views) place.view }) (sym (table_kept totals versions tables from place.table lt))

-- a content keeps the form of its columns, and its sums keep the bound
pub held_at : (tables : List Known) (totals : List (List ℕ)) (versions : List Contents) (i place : ℕ) → HaveTotals tables totals → AreHeld tables totals versions → i < length tables
    → IsHeld (columns_of (known_at i tables).lineage) (totals_in i totals) (slice_index_or (contents_in i versions) place [])
held_at tables totals versions i place have held lt =
    let there : slice_get tables i ≡ Some (known_at i tables) = slice_get-get_or tables i no_known lt in
    all_at (IsHeld (columns_of (known_at i tables).lineage) (totals_in i totals)) (contents_in i versions) place [] (held i (known_at i tables) there) (nothing_held (columns_of (known_at i tables).lineage) (totals_in i totals) (have i (known_at i tables) there))

pub keeps_sums : (s : Columns) (totals : List ℕ) (rows : List Row) → HasTotals s totals → IsHeld s totals rows → KeepsSums s rows
keeps_sums s totals rows has is c sum =
    subst (λ n. abs_total n rows < sum_bound) (omega arith) (sum_at (λ n. abs_total n rows < sum_bound) (aggs_of s) 0 c (sums_below_alone (λ n. abs_total n rows) (sum_places 0 (aggs_of s)) totals is.sums has.bound) sum)

-- ---- places

pub some_there : {X : Type 0} (xs : List X) (i : ℕ) → i < length xs → (x : X) × (slice_get xs i ≡ Some x)
some_there [] i lt = absurd (omega (arith, lt))
some_there (x ∷ xs) zero lt = (x, refl)
some_there (x ∷ xs) (suc i) lt = some_there xs i (omega (arith, lt))

some_is : {X : Type 0} (x y : X) → Some x ≡ Some y → x ≡ y
some_is x y h = cc

known_is : {X : Type 0} (f : X → Known) (xs : List X) (i : ℕ) (x : X) → slice_get xs i ≡ Some x → known_at i (map f xs) ≡ f x
known_is f [] i x there = absurd cc
known_is f (y ∷ xs) zero x there = ap f (some_is y x there)
known_is f (y ∷ xs) (suc i) x there = known_is f xs i x there

pub found_kept : (totals : List (List ℕ)) (versions : List Contents) (tables : List Known) (from : From) (found : Option Place) → IfSome found (λ place. place.table < length tables)
    → option_map (relation_at from totals versions tables) found ≡ option_map (relation_seen (record { tables = tables_in from 0 totals versions tables; floor = from.floor })) found
found_kept totals versions tables from None within = refl
found_kept totals versions tables from (Some place) within = ap Some (relation_kept totals versions tables from place within)

view_kept : {X : Type 0} (f : X → Known) (xs : List X) (totals : List (List ℕ)) (versions : List Contents) (from : From) (i : ℕ) (view : Option ℕ) → i < length xs
    → IfSome view (λ v. IfSome (slice_get xs i) (λ x. v < length (f x).lineage.views))
    → IfSome view (λ v. v < length (table_at (record { tables = tables_in from 0 totals versions (map f xs); floor = from.floor }) i).lineage.views)
view_kept f xs totals versions from i None lt within = tt
view_kept {X = X} f xs totals versions from i (Some v) lt within =
    let there = some_there xs i lt in
    let table : (table_at (record { tables = tables_in from 0 totals versions (map f xs); floor = from.floor }) i).lineage ≡ (f there.0).lineage =
    ap (λ (t : Table). t.lineage) (table_kept totals versions (map f xs) from i (omega (arith, lt, length-map xs f))) ∙ ap (λ (k : Known). k.lineage) (known_is f xs i there.0 there.1) in
    let here : v < length (f there.0).lineage.views = subst (λ o. IfSome o (λ x. v < length (f x).lineage.views)) there.1 within in
    rw table here

pub places_kept : {X : Type 0} (f : X → Known) (xs : List X) (totals : List (List ℕ)) (versions : List Contents) (from : From) (found : Option Place)
    → IfSome found (λ place. place.table < length xs)
    → IfSome found (λ place. IfSome place.view (λ v. IfSome (slice_get xs place.table) (λ x. v < length (f x).lineage.views)))
    → IfSome found (IsThere (record { tables = tables_in from 0 totals versions (map f xs); floor = from.floor }))
places_kept f xs totals versions from None within view = tt
places_kept f xs totals versions from (Some place) within view = record {
  table = omega (arith, within, length-map xs f, length-tables_in from 0 totals versions (map f xs));
  view = view_kept f xs totals versions from place.table place.view within view;
}

pub within_known : {X : Type 0} (f : X → Known) (xs ys : List X) (found : Option Place) → xs ≡ ys → IfSome found (λ place. place.table < length xs) → IfSome found (λ place. place.table < length (map f ys))
within_known f xs ys None same within = tt
within_known f xs ys (Some place) same within = omega (arith, within, ap length same, length-map ys f)

-- a part of a table
part_kept : {X T : Type 0} (f : X → Known) (of_item : X → T) (of_known : Known → T) (of_table : Table → T) → ((x : X) → of_known (f x) ≡ of_item x) → ((from : From) (n : ℕ) (totals : List (List ℕ)) (versions : List Contents) (k : Known) → of_table (table_in from n totals versions k) ≡ of_known k)
    → (xs : List X) (totals : List (List ℕ)) (versions : List Contents) (from : From) (i : ℕ) (read : T) → i < length xs → IfSome (slice_get xs i) (λ x. read ≡ of_item x) → read ≡ of_table (table_at (record { tables = tables_in from 0 totals versions (map f xs); floor = from.floor }) i)
part_kept {X = X} f of_item of_known of_table same known xs totals versions from i read lt is =
    let there = some_there xs i lt in
    let here : read ≡ of_item there.0 = subst (λ o. IfSome o (λ x. read ≡ of_item x)) there.1 is in
    here ∙ sym (same there.0) ∙ sym (ap of_known (known_is f xs i there.0 there.1)) ∙ sym (known from i totals versions (known_at i (map f xs))) ∙ sym (ap of_table (table_kept totals versions (map f xs) from i (omega (arith, lt, length-map xs f))))

-- its columns through its life
pub lineage_kept : {X : Type 0} (f : X → Known) (lineage : X → Lineage) → ((x : X) → (f x).lineage ≡ lineage x) → (xs : List X) (totals : List (List ℕ)) (versions : List Contents) (from : From) (i : ℕ) (read : Lineage) → i < length xs
    → IfSome (slice_get xs i) (λ x. read ≡ lineage x) → read ≡ (table_at (record { tables = tables_in from 0 totals versions (map f xs); floor = from.floor }) i).lineage
lineage_kept f lineage same xs totals versions from i read lt is = part_kept f lineage (λ (k : Known). k.lineage) (λ (t : Table). t.lineage) same (λ v n ts vs k. refl) xs totals versions from i read lt is

-- its name
pub name_kept : {X : Type 0} (f : X → Known) (name : X → List ℕ) → ((x : X) → (f x).name ≡ name x) → (xs : List X) (totals : List (List ℕ)) (versions : List Contents) (from : From) (i : ℕ) (read : List ℕ) → i < length xs
    → IfSome (slice_get xs i) (λ x. read ≡ name x) → read ≡ (table_at (record { tables = tables_in from 0 totals versions (map f xs); floor = from.floor }) i).name
name_kept f name same xs totals versions from i read lt is = part_kept f name (λ (k : Known). k.name) (λ (t : Table). t.name) same (λ v n ts vs k. refl) xs totals versions from i read lt is
