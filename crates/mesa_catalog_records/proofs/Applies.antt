-- Records that are taken in.
use Rattle.std.proofs.Common.{◌≡◌, ℕ, ◌-◌, ◌<◌, ◌^◌, List, [], ◌∷◌, length, map, set, refl, sym, ◌∙◌, ap, arith, Bool, true, false}
use Rattle.std.specs.Prelude.{◌==◌, ◌&&◌, nat_lt, nat_le, Option, Some, None, slice_get, IfSome}
use Rattle.std.specs.List.{AllByRecursion, list_all}
use Rattle.std.specs.declared.alloc.Global.{Global}
use Rattle.std.specs.declared.sync.Arc.{Arc}
use Rattle.std.proofs.lemmas.Bool.Decides.{nat_tests}
use Rattle.std.proofs.lemmas.List.{length-map, map-set}
use Rattle.std.proofs.lemmas.Option.{get_or_from_slice_get, slice_get_within}
use Rattle.mesa_table_records.specs.mesa_columns.Columns.{Columns}
use Rattle.mesa_table_records.specs.mesa_columns.Schema.{is_schema}
use Rattle.mesa_schema.specs.Changes.{Lineage, columns_of, with_change}
use Rattle.mesa_schema.specs.Views.{with_view}
use Rattle.mesa_table_records.specs.mesa_batch.Totals.{totals_after, totals_with}
use Rattle.mesa_table_records.specs.mesa_record.declared.recasting.Recasting.{Recasting}
use Rattle.mesa_table_records.specs.mesa_record.declared.record.Record.{Record}
use Rattle.mesa_table_records.specs.mesa_record.declared.record.Record.TheVariants as record_of
use Rattle.mesa_table_records.specs.mesa_record.declared.record.Files.{Files}
use Rattle.mesa_table_records.specs.mesa_record.declared.record.Part.{Part}
use Rattle.mesa_table_records.specs.mesa_span.Ranges.{end_of}
use Rattle.mesa_table_records.specs.mesa_store_spec.Catalog.{Catalog, TableMeta, meta_at, meta_changed, meta_viewed, with_meta}
use Rattle.mesa_table_records.specs.mesa_store_spec.Fitting.{brings_new_files, files_fit_if_any, fits, has_epoch, is_new_name, is_there, kind_fits, may_be_work, part_fits, publish_fits, recast_fits, swap_fits, table_fits}
use Rattle.mesa_catalog_records.specs.declared.catalog_tables.CatalogTables.{CatalogTables}
use Rattle.mesa_table_records.specs.mesa_catalog_table.declared.table.Table.{Table}
use Rattle.mesa_table_records.specs.declared.ready.ReadyPart.{ReadyPart}
use Rattle.mesa_catalog_records.specs.Meaning.{catalogue_of}
use Rattle.mesa_table_records.specs.mesa_catalog_table.Meaning.{IsTable, start_of_base, meta_of, widths_of}
use Rattle.mesa_catalog_records.specs.Readied.{IsMadePart, last_change, last_view}
use Rattle.mesa_table_records.specs.Readied.{IsPartOf, IsSwapOf, part_in}
use Rattle.mesa_catalog_records.proofs.TableMetas.{meta_here}
use Rattle.mesa_table_records.proofs.mesa_catalog_table.Tests.{both}
use Rattle.mesa_table_records.proofs.mesa_catalog_table.Works.{base_work, cumulative_work}

pub kind_of_fits : (c : Catalog) (r : Record) → fits c r ≡ true → kind_fits c r ≡ true
unfolding fits
kind_of_fits c r e = (both (kind_fits c r) (brings_new_files c r) e).0

pub news_of_fits : (c : Catalog) (r : Record) → fits c r ≡ true → brings_new_files c r ≡ true
unfolding fits
news_of_fits c r e = (both (kind_fits c r) (brings_new_files c r) e).1

-- a table in the place of another
pub put_meta : (s : CatalogTables) (i : ℕ) (t : Table) (u : TableMeta) → meta_of s.next t ≡ u → record { tables = map (meta_of s.next) (set s.tables.items i t); floor = s.floor; next = s.next; run = s.run } ≡ with_meta (catalogue_of s) i u
put_meta s i t u e =
    let tables = map-set (meta_of s.next) s.tables.items i t ∙ ap (set (map (meta_of s.next) s.tables.items) i) e in
    λ k. record { tables = tables k; floor = s.floor; next = s.next; run = s.run }

-- ---- views

pub viewed_meta : (next : ℕ) (t : Table) (u : TableMeta) (e : Arc Lineage Global) → u ≡ meta_of next t → e.value ≡ with_view u.lineage (last_view e.value)
    → meta_of next (record t { evolving = e }) ≡ meta_viewed u (last_view e.value).name (last_view e.value).keys (last_view e.value).values
viewed_meta next t u e same made = λ k. record (sym same k) { lineage = made k }

pub viewed_table : (next : ℕ) (t : Table) (u : TableMeta) (e : Arc Lineage Global) → IsTable next t → u ≡ meta_of next t → e.value ≡ with_view u.lineage (last_view e.value) → IsTable next (record t { evolving = e })
viewed_table next t u e table same made = record {
  tens = table.tens;
  loaded = table.loaded;
  oldest = table.oldest;
  widths = table.widths ∙ sym (ap widths_of (made ∙ ap (λ (x : TableMeta). with_view x.lineage (last_view e.value)) same));
}

-- ---- changes

pub changed_meta : (next : ℕ) (t : Table) (u : TableMeta) (e : Arc Lineage Global) (widths totals : List ℕ) → u ≡ meta_of next t → e.value ≡ with_change u.lineage (last_change e.value)
    → totals ≡ totals_after (columns_of u.lineage) (last_change e.value) u.totals
    → meta_of next (record t { evolving = e; widths = widths; totals = totals }) ≡ meta_changed u (last_change e.value)
changed_meta next t u e widths totals same made sums = λ k. record (sym same k) { lineage = made k; totals = sums k }

-- ---- batches

pub parts_made : (s : CatalogTables) (parts : List ReadyPart) → AllByRecursion (IsMadePart (catalogue_of s)) parts → AllByRecursion (λ (p : ReadyPart). IfSome (slice_get s.tables.items p.table) (λ t. IsPartOf t p)) parts
parts_made s [] made = tt
parts_made s (p ∷ parts) made =
    let Goal : Option Table → Type 0 = λ o. slice_get s.tables.items p.table ≡ o → IfSome o (λ t. IsPartOf t p) in (
      elim (slice_get s.tables.items p.table) as Goal [
        | None ↦ λ e. tt
        | Some t ↦ λ e.
            let within = slice_get_within s.tables.items p.table t e in
            let same = meta_here s p.table t within ∙ ap (meta_of s.next) (get_or_from_slice_get s.tables.items p.table t t e) in
            record { delta = made.0.delta; totals = made.0.totals ∙ ap (λ (u : TableMeta). totals_with u.totals (part_in p).totals) same }
      ] refl,
      parts_made s parts made.1,
    )

pub next_version : (c : Catalog) (version : ℕ) (parts : List Part) → publish_fits c version parts ≡ true → (version ≡ c.next) × (version < 2 ^ 32 - 1)
next_version c version parts e =
    let newest = version == c.next in
    let room = nat_lt version (2 ^ 32 - 1) in
    let first = both newest room (both (newest && room) (list_all (λ (p : Part). is_there c p.table && part_fits (meta_at c p.table) p) parts) e).0 in
    let same = first.0 in
    let few = first.1 in
    (grind (arith, nat_tests), grind (arith, nat_tests))

-- ---- merged deltas

pub swap_base_of : (s : CatalogTables) (t : Table) (from to : ℕ) → IsTable s.next t → may_be_work (catalogue_of s) (meta_of s.next t) true from to ≡ true → IsSwapOf s.next t true to
swap_base_of s t from to table e =
    let all = sym (base_work s.next t.oldest from to t) ∙ e in
    let starts_first = from == 0 in
    let not_first = nat_le 1 to in
    let is_behind = nat_le (start_of_base t.base) to in
    let last = both (starts_first && not_first && is_behind) (nat_le to t.oldest) all in
    let third = both (starts_first && not_first) is_behind last.0 in
    let second = both starts_first not_first third.0 in
    let least = second.1 in
    let behind = third.1 in
    let most = last.1 in
    let there = table.oldest in
    (grind (arith, nat_tests), grind (arith, nat_tests))

pub swap_ten_of : (s : CatalogTables) (t : Table) (from to : ℕ) → may_be_work (catalogue_of s) (meta_of s.next t) false from to ≡ true → IsSwapOf s.next t false to
swap_ten_of s t from to e =
    let all = sym (cumulative_work s.next from to t) ∙ e in
    let end = end_of (start_of_base t.base) (length t.cumulatives.items) in
    let fits_there = nat_lt end s.next in
    let ends_there = end == to in
    let later = both fits_there ends_there (both (from == start_of_base t.base) (fits_there && ends_there) all).1 in
    let room = later.0 in
    let same = later.1 in
    let last : to ≡ end_of (start_of_base t.base) (length t.cumulatives.items) = grind (arith, nat_tests) in
    let below : end_of (start_of_base t.base) (length t.cumulatives.items) < s.next = grind (arith, nat_tests) in
    (last, omega arith)

pub swap_of : (s : CatalogTables) (t : Table) (base : Bool) (from to : ℕ) → IsTable s.next t → may_be_work (catalogue_of s) (meta_of s.next t) base from to ≡ true → IsSwapOf s.next t base to
swap_of s t true from to table e = swap_base_of s t from to table e
swap_of s t false from to table e = swap_ten_of s t from to e

pub swap_there : (c : Catalog) (table : ℕ) (base : Bool) (from to epoch : ℕ) (files : Option Files) → (is_there c table && swap_fits c (meta_at c table) base from to epoch files) ≡ true → (is_there c table ≡ true) × (may_be_work c (meta_at c table) base from to ≡ true)
swap_there c table base from to epoch files e =
    let parts = both (is_there c table) (swap_fits c (meta_at c table) base from to epoch files) e in
    let work = may_be_work c (meta_at c table) base from to in
    let old = has_epoch (meta_at c table).lineage epoch in
    (parts.0, (both work old (both (work && old) (files_fit_if_any (meta_at c table).lineage epoch files) parts.1).0).0)

-- ---- recasts

pub recast_there : (c : Catalog) (k : Recasting) → fits c (record_of.Recast k) ≡ true → (is_there c k.table ≡ true) × (recast_fits (meta_at c k.table) k ≡ true)
recast_there c k e = both (is_there c k.table) (recast_fits (meta_at c k.table) k) (kind_of_fits c (record_of.Recast k) e)

-- ---- tables

pub room_left : (s : CatalogTables) (name : List ℕ) (columns : Columns) → table_fits (catalogue_of s) name columns ≡ true → length s.tables.items < 32
room_left s name columns e =
    let c = catalogue_of s in
    let room = (both (is_new_name c name && is_schema columns) (nat_lt (length c.tables) 32) e).1 in
    let count = length-map s.tables.items (meta_of s.next) in
    grind (arith, nat_tests)

-- ---- both halves of fitting

pub fits_both : (c : Catalog) (r : Record) (b : Bool) → true ≡ kind_fits c r → b ≡ brings_new_files c r → b ≡ fits c r
unfolding fits
fits_both c r b kind news = news ∙ ap (λ k. k && brings_new_files c r) kind

pub fits_not : (c : Catalog) (r : Record) → false ≡ kind_fits c r → false ≡ fits c r
unfolding fits
fits_not c r kind = ap (λ k. k && brings_new_files c r) kind
