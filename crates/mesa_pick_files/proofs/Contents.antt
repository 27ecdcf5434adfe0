-- The contents that a query reads of a warehouse are those of its catalogue.
use Rattle.std.proofs.Common.{◌≡◌, ℕ, ◌-◌, ◌<◌, ◌≤◌, List, [], ◌∷◌, length, map, get_or, refl, sym, ◌∙◌, ap, arith, Option, Some, None}
use Rattle.std.specs.Prelude.{option_and_then, slice_get}
use Rattle.std.proofs.lemmas.List.{get_or-map, length-map}
use Rattle.std.proofs.lemmas.List.FromFn.{get_or-map-range_with_len}
use Rattle.std.proofs.lemmas.Simd.{map-map}
use Rattle.std.proofs.Math.ListN.{get_or-map as get_or-map_all}
use Rattle.mesa_validate.specs.mesa_batch.Glance.{Known}
use Rattle.mesa_validate.specs.mesa_catalog.Lookups.{known_as}
use Rattle.mesa_validate.specs.mesa_store_spec.Catalog.{Catalog, no_meta, meta_at}
use Rattle.mesa_validate.specs.mesa_store_spec.Contents.{Rows, content, kept_of, table_of}
use Rattle.mesa_validate.specs.mesa_model.Pins.{store_at, table_pinned}
use Rattle.mesa_validate.specs.mesa_model.Relations.{relation_columns, relation_content}
use Rattle.mesa_validate.specs.mesa_model.Warehouse.{Store, Table, Warehouse, content_at, no_table, table_at}
use Rattle.mesa_pick_files.proofs.Reading.{columns_read}
use Rattle.mesa_pick_files.proofs.Telling.{content_read}
use Rattle.mesa_validate.proofs.Answering.{columns_there}
use Rattle.mesa_validate.specs.Found.{columns_at, relation_seen}
use Rattle.mesa_validate.specs.Seen.{HasCatalog, known_in, known_of}
use Rattle.mesa_schema.specs.Changes.{Lineage, columns_of}
use Rattle.mesa_validate.specs.mesa_columns.Columns.{Columns}
use Rattle.mesa_schema.specs.Views.{view_columns, view_rows}
use Rattle.mesa_validate.specs.mesa_columns.declared.rows.Row.{Row}
use Rattle.mesa_validate.specs.mesa_columns.declared.views.View.{View}
use Rattle.mesa_catalog_table.specs.declared.relation.Relation.{Relation as Place}
use Rattle.mesa_open_files.specs.Pins.{view_at}

-- A store has a catalogue's tables, and the one of a number has its content at a version.
pub record HasContents (rows : Rows) (c : Catalog) (number version : ℕ) (s : Store) : Type 0 where
  pub tables : known_in s ≡ map known_as c.tables
  pub content : content_at (table_at s number) version ≡ content rows (meta_at c number) version

-- what a catalogue stands for does, at each version that can be queried of the table
pub present_contents : (rows : Rows) (c : Catalog) (number version : ℕ) → number < length c.tables → (meta_at c number).oldest ≤ version → version < c.next → HasContents rows c number version (kept_of rows c).store
unfolding kept_of
present_contents rows c number version there low high =
    let t = meta_at c number in
    record {
      tables = map-map known_of (table_of rows c.next) c.tables;
      content =
          ap (λ (x : Table). get_or x.contents (version - x.oldest) []) (get_or-map (table_of rows c.next) c.tables number no_meta no_table there)
          ∙ get_or-map-range_with_len (content rows t) t.oldest (c.next - t.oldest) (version - t.oldest) version [] (omega (arith, low, high)) (omega (arith, low, high));
    }

-- so does a copy at the version alone
pub pinned_contents : (rows : Rows) (c : Catalog) (number version : ℕ) (s : Store) → number < length c.tables → HasContents rows c number version s → HasContents rows c number version (store_at s version)
pinned_contents rows c number version s there has =
    let many : length s.tables ≡ length c.tables = sym (length-map s.tables known_of) ∙ ap length has.tables ∙ length-map c.tables known_as in
    let first : version - version ≡ 0 = omega arith in
    record {
      tables = map-map known_of (table_pinned version) s.tables ∙ has.tables;
      content =
          ap (λ (t : Table). get_or t.contents (version - t.oldest) []) (get_or-map (table_pinned version) s.tables number no_table no_table (omega (arith, there, many)))
          ∙ ap (λ k. get_or (content_at (table_at s number) version ∷ []) k []) first
          ∙ has.content;
    }

-- an open warehouse that keeps what a catalogue stands for has the catalogue
pub kept_catalog : (rows : Rows) (c : Catalog) (w : Warehouse) → w.closed ≡ None → w.store ≡ (kept_of rows c).store → w.next ≡ c.next → HasCatalog c w
unfolding kept_of
kept_catalog rows c w opened kept next = record {
  opened = opened;
  tables = ap known_in kept ∙ map-map known_of (table_of rows c.next) c.tables;
  oldests = ap (λ (s : Store). map (λ (t : Table). t.oldest) s.tables) kept ∙ map-map (λ (t : Table). t.oldest) (table_of rows c.next) c.tables;
  floor = ap (λ (s : Store). s.floor) kept;
  next = next;
}

-- ---- a relation

view_same : (l : Lineage) (view : Option ℕ) → option_and_then (slice_get l.views) view ≡ view_at l view
view_same l None = refl
view_same l (Some number) = refl

abbrev columns_seen : Columns → Option View → Columns
columns_seen s None = s
columns_seen s (Some view) = view_columns s view

abbrev rows_seen : Columns → Option View → List Row → List Row
rows_seen s None rows = rows
rows_seen s (Some view) rows = view_rows s view rows

-- its columns are those by which it is read
pub columns_found : (c : Catalog) (p : Place) → columns_at c p ≡ columns_read (meta_at c p.table).lineage p.view
columns_found c p = ap (columns_seen (columns_of (meta_at c p.table).lineage)) (view_same (meta_at c p.table).lineage p.view)

module _ (rows : Rows) (c : Catalog) (version : ℕ) (s : Store) (p : Place) (has : HasContents rows c p.table version s) where
  same_lineage : (table_at s p.table).lineage ≡ (meta_at c p.table).lineage
  same_lineage = ap (λ (k : Known). k.lineage) (sym (get_or-map_all known_of s.tables p.table no_table) ∙ ap (λ (ks : List Known). get_or ks p.table (known_of no_table)) has.tables ∙ get_or-map_all known_as c.tables p.table no_meta)

  pub seen_columns : relation_columns (relation_seen s p) ≡ columns_read (meta_at c p.table).lineage p.view
  seen_columns = columns_there c s p has.tables ∙ columns_found c p

  -- and its content is the catalogue's
  pub seen_content : relation_content (relation_seen s p) version ≡ content_read rows (meta_at c p.table) p.view version
  seen_content =
      (λ j. rows_seen (columns_of (same_lineage j)) (option_and_then (slice_get (same_lineage j).views) p.view) (has.content j))
      ∙ ap (λ (o : Option View). rows_seen (columns_of (meta_at c p.table).lineage) o (content rows (meta_at c p.table) version)) (view_same (meta_at c p.table).lineage p.view)
