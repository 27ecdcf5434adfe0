-- The record of a load keeps the rules of records.
use Rattle.std.proofs.Common.{◌≡◌, ℕ, zero, suc, ◌+◌, ◌*◌, ◌^◌, ◌≤◌, List, [], ◌∷◌, ◌++◌, length, map, Bool, true, false, ◌||◌, ◌&&◌, ◌==◌, nat_le, nat_lt, refl, ◌∙◌, ap, subst, arith, Option, None, Some}
use Rattle.std.specs.List.{AllByRecursion, list_all}
use Rattle.std.proofs.lemmas.Bool.{le-leb, lt-ltb, ltb-false, leb-true}
use Rattle.std.proofs.lemmas.List.{length-append, length-map}
use Rattle.std.proofs.lemmas.List.Concat.{flat_map-cons}
use Rattle.std.specs.Str.{is_utf8}
use Rattle.std.specs.Prelude.{IsTrue, not}
use Rattle.std.specs.List.{list_any}
use Rattle.mesa_pick_files.specs.mesa_key.declared.KeyType.{KeyType}
use Rattle.mesa_pick_files.specs.mesa_key.declared.KeyType.TheVariants as kind
use Rattle.mesa_pick_files.specs.mesa_key.declared.KeyValue.{KeyValue}
use Rattle.mesa_pick_files.specs.mesa_key.declared.KeyValue.TheVariants as value
use Rattle.mesa_pick_files.specs.mesa_key.Spelling.{IsKey, IsValue, key_of, key_spelling, value_spelling}
use Rattle.mesa_columns.specs.declared.columns.KeyColumn.{KeyColumn}
use Rattle.mesa_columns.specs.declared.rows.Row.{Row}
use Rattle.mesa_columns.specs.declared.views.View.{View}
use Rattle.mesa_pick_files.specs.mesa_schema.Changes.{Lineage, columns_of, epoch_of}
use Rattle.mesa_open_files.specs.mesa_fold.Folded.{folded}
use Rattle.mesa_columns.specs.Columns.{Columns, aggs_of, kinds_of}
use Rattle.mesa_columns.specs.Schema.{is_schema}
use Rattle.mesa_pick_files.specs.mesa_schema.Lineages.{IsLineage, is_view_of}
use Rattle.mesa_pick_files.specs.mesa_schema.Views.{view_columns, view_rows}
use Rattle.mesa_columns.specs.Rows.{IsRowOf}
use Rattle.mesa_pick_files.proofs.mesa_schema.LineageRules.{present_schema}
use Rattle.mesa_pick_files.proofs.mesa_schema.Passing.{passed_if}
use Rattle.mesa_pick_files.proofs.mesa_schema.ViewSchemas.{view_is_schema}
use Rattle.mesa_batch.proofs.FewTotals.{few_sums, few_values}
use Rattle.mesa_batch.specs.Batch.{Placed, rows_for}
use Rattle.mesa_batch.specs.Totals.{abs_totals, sums_in}
use Rattle.mesa_file.specs.declared.file_ref.FileRef.{FileRef}
use Rattle.mesa_record.specs.declared.record.Part.{Part}
use Rattle.mesa_record.specs.declared.record.ViewRef.{ViewRef}
use Rattle.mesa_engine.specs.mesa_record_fields.Rules.{is_count_of_columns, is_file_ref, is_key_length, rise_from}
use Rattle.mesa_record.specs.Rules.{are_files, are_parts, is_part}
use Rattle.mesa_pick_files.specs.mesa_block.Layout.{Layout}
use Rattle.mesa_pick_files.specs.mesa_block.Rows.{IsRow}
use Rattle.mesa_pick_files.specs.mesa_delta_format.File.{IsFile}
use Rattle.mesa_pick_files.specs.mesa_delta_format.Spread.{spread}
use Rattle.mesa_pick_files.specs.mesa_delta_format.Summary.{IsReferenceOf, last_key, new_layout}
use Rattle.mesa_pick_files.specs.mesa_delta_format.Tail.{first_key}
use Rattle.mesa_engine.specs.mesa_store_spec.Catalog.{Catalog, TableMeta, meta_at}
use Rattle.mesa_engine.specs.mesa_store_spec.Shape.{IsCatalog, IsShaped}
use Rattle.mesa_engine.proofs.mesa_store_spec.Lists.{both_true, is_equal}
use Rattle.mesa_catalog.specs.Lookups.{known_as, sight_of}
use Rattle.mesa_open_files.specs.Batches.{AreParts, HasFiles, Share, share_of, shares, shares_from}
use Rattle.mesa_open_files.specs.Made.{AreMadeFiles, AreMadeViews, IsMadeFile, content_of}
use Rattle.mesa_open_files.specs.declared.made.MadeFile.{MadeFile}
use Rattle.mesa_open_files.specs.declared.made.MadeFiles.{MadeFiles}
use Rattle.mesa_open_files.specs.declared.made.MadeView.{MadeView}
use Rattle.mesa_open_files.specs.declared.prepared.PreparedPart.{PreparedPart}
use Rattle.mesa_file_records.proofs.Loads.{AreTables}
use Rattle.mesa_file_records.proofs.Parts.{true_counts}
use Rattle.mesa_file_records.specs.Adopted.{ArePartsOf, files_of_part, files_under, part_under, parts_under, ref_under, views_under}

-- ---- columns

counted : (n : ℕ) → (n == 0) ≡ false → nat_lt 16 n ≡ false → is_count_of_columns n ≡ true
counted zero some few = absurd cc
counted (suc n) some few = λ j. le-leb 1 (suc n) (omega arith) j && le-leb (suc n) 16 (ltb-false 16 (suc n) few) j

either : (a b : Bool) → (a || b) ≡ false → (a ≡ false) × (b ≡ false)
either false false e = (refl, refl)
either false true e = absurd cc
either true b e = absurd cc

-- a schema has at most 16 key columns, and 1 to 16 value columns
few_keys : (s : Columns) → is_schema s ≡ true → length s.keys ≤ 16
few_keys s h =
    let keys = passed_if (length s.keys == 0) _ _ h in
    let values = passed_if (length s.values == 0) _ _ keys.1 in
    let few = passed_if (nat_lt 16 (length s.keys) || nat_lt 16 (length s.values)) _ _ values.1 in
    ltb-false 16 (length s.keys) (either (nat_lt 16 (length s.keys)) (nat_lt 16 (length s.values)) few.0).0

values_counted : (s : Columns) → is_schema s ≡ true → is_count_of_columns (length s.values) ≡ true
values_counted s h =
    let keys = passed_if (length s.keys == 0) _ _ h in
    let values = passed_if (length s.values == 0) _ _ keys.1 in
    let few = passed_if (nat_lt 16 (length s.keys) || nat_lt 16 (length s.values)) _ _ values.1 in
    counted (length s.values) values.0 (either (nat_lt 16 (length s.keys)) (nat_lt 16 (length s.values)) few.0).1

-- ---- keys

first_of_three : (a b c : Bool) → IsTrue (a && b && c) → a ≡ true
first_of_three true b c h = refl
first_of_three false b c h = absurd cc

-- a value takes at most 256 bytes, and so a key at most 256 for each of its columns
value_small : (k : KeyType) (v : KeyValue) → IsValue k v → length (value_spelling v) ≤ 256
value_small kind.Int (value.Int z) h = omega arith
value_small kind.Int (value.Text bytes) h = absurd h
value_small kind.Text (value.Int z) h = absurd h
value_small kind.Text (value.Text bytes) h =
    let short : nat_le (length bytes) 255 ≡ true = first_of_three _ (not (list_any (λ b. b == 0) bytes)) (is_utf8 bytes) h in
    omega (arith, length-append bytes (0 ∷ []), leb-true (length bytes) 255 short)

key_small : (kinds : List KeyType) (key : List KeyValue) → IsKey kinds key → length (key_spelling key) ≤ length kinds * 256
key_small [] [] h = omega arith
key_small [] (v ∷ key) h = absurd h
key_small (k ∷ kinds) [] h = absurd h
key_small (k ∷ kinds) (v ∷ key) h = rw flat_map-cons (omega (arith, length-append (value_spelling v) (key_spelling key), value_small k v h.0, key_small kinds key h.1))

key_length : (s : Columns) (row : Row) → is_schema s ≡ true → IsRowOf s row → is_key_length (length row.key) ≡ true
key_length s row schema h =
    let few = few_keys s schema in
    let key = key_small (kinds_of s) (key_of (kinds_of s) row.key) h.key in
    let kinds = length-map s.keys (λ (c : KeyColumn). c.kind) in
    let spelled = ap length h.spelled in
    lt-ltb (length row.key) (2 ^ 16) (omega (arith, few, key, kinds, spelled))

first_length : (s : Layout) (rows : List Row) → is_schema s.columns ≡ true → AllByRecursion (IsRow s) rows → is_key_length (length (first_key rows)) ≡ true
first_length s [] schema all = refl
first_length s (row ∷ rows) schema all = key_length s.columns row schema all.0.form

last_length : (s : Layout) (rows : List Row) → is_schema s.columns ≡ true → AllByRecursion (IsRow s) rows → is_key_length (length (last_key rows)) ≡ true
last_length s [] schema all = refl
last_length s (row ∷ []) schema all = key_length s.columns row schema all.0.form
last_length s (a ∷ b ∷ rows) schema all = last_length s (b ∷ rows) schema all.1

-- ---- references

-- a true reference keeps the rules
ref_rules : (s : Layout) (number : ℕ) (rows : List Row) (bytes : List ℕ) (f : FileRef) → is_schema s.columns ≡ true → IsFile s rows bytes → IsReferenceOf s number rows f → is_file_ref f ≡ true
ref_rules s number rows bytes f schema file is =
    let some = file.some in
    let count : f.rows ≡ length rows = is.rows in
    let blocks : f.blocks ≡ length ((spread s rows).done ++ (spread s rows).last ∷ []) = is.blocks in
    let more = length-append (spread s rows).done ((spread s rows).last ∷ []) in
    let same : length f.aggregates ≡ length s.columns.values = is_equal (length f.aggregates) (length s.columns.values) (true_counts s number rows bytes f file is) in
    λ i. le-leb 1 f.rows (omega (arith, some, count)) i && le-leb 1 f.blocks (omega (arith, blocks, more)) i && (ap (λ k. is_key_length (length k)) is.first ∙ first_length s rows schema file.good) i
    && (ap (λ k. is_key_length (length k)) is.last ∙ last_length s rows schema file.good) i && (ap is_count_of_columns same ∙ values_counted s.columns schema) i

module _ {M : Type 0} (bytes : M → Option (List ℕ)) (id_of : M → ℕ) where
  made_rules : (s : Columns) (its : List Row) (id : ℕ) (f : MadeFile M) → is_schema s ≡ true → IsMadeFile bytes id_of (record { columns = s; rows = its }) f → is_file_ref (ref_under id f) ≡ true
  made_rules s its id f schema made = ref_rules (new_layout s) (id_of f.made) its _ f.file schema made.rows made.reference

  -- the files of views, which are numbered from one on
  record AreSo (number : ℕ) (views : List View) (refs : List ViewRef) : Type 0 where
    rise : rise_from number (map (λ (v : ViewRef). v.view) refs) ≡ true
    good : list_all (λ (v : ViewRef). is_file_ref v.file) refs ≡ true
    many : length refs ≡ length views

  rise_as : (least n : ℕ) (ns : List ℕ) → n ≡ least → rise_from (least + 1) ns ≡ true → rise_from least (n ∷ ns) ≡ true
  rise_as least n ns is rest = λ i. le-leb least n (omega (arith, is)) i && (ap (λ k. rise_from (k + 1) ns) is ∙ rest) i

  view_rules : (s : Columns) (its : List Row) (number id : ℕ) (views : List View) (made : List (MadeView M)) → is_schema s ≡ true → list_all (is_view_of s) views ≡ true → AreMadeViews bytes id_of number (map (content_of s its) views) made → AreSo number views (views_under id made)
  view_rules s its number id [] [] schema all are = record { rise = refl; good = refl; many = refl }
  view_rules s its number id [] (f ∷ made) schema all are = absurd are
  view_rules s its number id (v ∷ views) [] schema all are = absurd are
  view_rules s its number id (v ∷ views) (f ∷ made) schema all are =
      let both = both_true (is_view_of s v) (list_all (is_view_of s) views) all in
      let rest = view_rules s its (number + 1) (id + 1) views made schema both.1 are.2 in
      let one : is_file_ref (ref_under id f.file) ≡ true = made_rules (view_columns s v) (view_rows s v its) id f.file (view_is_schema s v schema both.0) are.1 in
      record {
        rise = rise_as number f.view (map (λ (x : ViewRef). x.view) (views_under (id + 1) made)) are.0 rest.rise;
        good = λ i. one i && rest.good i;
        many = ap suc rest.many;
      }

  files_rules : (l : Lineage) (its : List Row) (id : ℕ) (made : MadeFiles M) → IsLineage l → AreMadeFiles bytes id_of (columns_of l) l.views its made → are_files (files_under id made) ≡ true
  files_rules l its id made lineage are =
      let schema = present_schema l lineage in
      let views = view_rules (columns_of l) its 0 (id + 1) l.views made.views.items schema lineage.views are.grouped in
      let few = lineage.few_views in
      let many = views.many in
      λ i. made_rules (columns_of l) its id made.file schema are.table i && (le-leb (length (views_under (id + 1) made.views.items)) 8 (omega (arith, few, many)) i && views.rise i && views.good i)

  -- ---- parts

  -- what the parts of tables that are numbered from one on are
  record AreGood (number count : ℕ) (parts : List Part) : Type 0 where
    rise : rise_from number (map (λ (p : Part). p.table) parts) ≡ true
    good : list_all is_part parts ≡ true
    few : length parts ≤ count

  rise_before : (least : ℕ) (ns : List ℕ) → rise_from (least + 1) ns ≡ true → rise_from least ns ≡ true
  rise_before least [] is = refl
  rise_before least (n ∷ ns) is =
      let both = both_true (nat_le (least + 1) n) (rise_from (n + 1) ns) is in
      let le = leb-true (least + 1) n both.0 in
      λ i. le-leb least n (omega (arith, le)) i && both.1 i

  skipped : (number count : ℕ) (parts : List Part) → AreGood (number + 1) count parts → AreGood number (count + 1) parts
  skipped number count parts is = record { rise = rise_before number _ is.rise; good = is.good; few = (let le = is.few in omega (arith, le)) }

  added : (number count : ℕ) (p : Part) (parts : List Part) → p.table ≡ number → is_part p ≡ true → AreGood (number + 1) count parts → AreGood number (count + 1) (p ∷ parts)
  added number count p parts at one is = record { rise = rise_as number p.table _ at is.rise; good = λ i. one i && is.good i; few = (let le = is.few in omega (arith, le)) }

  module _ (over : Bool) (c : Catalog) (batch : List Placed) where
    part_good : (b : Bool) (share : Share) (id table : ℕ) (totals : List ℕ) (made : MadeFiles M) → IsLineage share.lineage → length totals ≡ sums_in (aggs_of (columns_of share.lineage)) → HasFiles bytes id_of b share (Some made) → (epoch : ℕ)
        → is_part (record { table = table; epoch = epoch; files = files_under id made; totals = totals }) ≡ true
    part_good true share id table totals made lineage count has epoch = absurd has
    part_good false share id table totals made lineage count has epoch =
        let sums = few_sums 0 (aggs_of (columns_of share.lineage)) in
        let aggs : length (aggs_of (columns_of share.lineage)) ≡ length (columns_of share.lineage).values = length-map (columns_of share.lineage).values _ in
        let few = few_values (columns_of share.lineage) (present_schema share.lineage lineage) in
        λ i. files_rules share.lineage share.rows id made lineage has i && le-leb (length totals) 16 (omega (arith, sums, aggs, few, count)) i

    part_with : (number id count : ℕ) (share : Share) (part : PreparedPart M) → IsLineage share.lineage → part.table ≡ number → length part.totals ≡ sums_in (aggs_of (columns_of share.lineage)) → (files : Option (MadeFiles M)) → HasFiles bytes id_of over share files
        → (more : List Part) → AreGood (number + 1) count more → AreGood number (count + 1) (part_under c id part.table part.totals files ++ more)
    part_with number id count share part lineage at totals None has more rest = skipped number count more rest
    part_with number id count share part lineage at totals (Some made) has more rest =
        added number count (record { table = part.table; epoch = epoch_of (meta_at c part.table).lineage; files = files_under id made; totals = part.totals }) more at
        (part_good over share id part.table part.totals made lineage totals has (epoch_of (meta_at c part.table).lineage)) rest

    step_good : (number id count : ℕ) (t : TableMeta) (load : List Row) (rest : List Share) (parts : List (PreparedPart M)) → IsLineage t.lineage → meta_at c number ≡ t → ArePartsOf c parts → AreParts bytes id_of over (share_of number t.lineage load ++ rest) parts
        → ((id : ℕ) (more : List (PreparedPart M)) → ArePartsOf c more → AreParts bytes id_of over rest more → AreGood (number + 1) count (parts_under c id more)) → AreGood number (count + 1) (parts_under c id parts)
    step_good number id count t [] rest parts lineage at of are behind = skipped number count (parts_under c id parts) (behind id parts of are)
    step_good number id count t (row ∷ load) rest [] lineage at of are behind = absurd are
    step_good number id count t (row ∷ load) rest (part ∷ parts) lineage at of are behind =
        let share : Share = record { table = number; lineage = t.lineage; rows = folded (aggs_of (columns_of t.lineage)) ((row ∷ load) ∷ []); totals = abs_totals (columns_of t.lineage) (row ∷ load) } in
        part_with number id count share part lineage are.0.table (of.0.count ∙ ap (λ (u : TableMeta). sums_in (aggs_of (columns_of u.lineage))) (ap (meta_at c) are.0.table ∙ at)) part.files are.0.files
        (parts_under c (id + length (files_of_part part)) parts) (behind (id + length (files_of_part part)) parts of.1 are.1)

    parts_good : (floor next number id : ℕ) (ts : List TableMeta) (parts : List (PreparedPart M)) → AllByRecursion (IsShaped floor next) ts → AreTables c number ts → ArePartsOf c parts → AreParts bytes id_of over (shares_from batch number (map known_as ts)) parts
        → AreGood number (length ts) (parts_under c id parts)
    parts_good floor next number id [] [] shaped tables of are = record { rise = refl; good = refl; few = omega arith }
    parts_good floor next number id [] (part ∷ parts) shaped tables of are = absurd are
    parts_good floor next number id (t ∷ ts) parts shaped tables of are =
        subst (λ k. AreGood number k (parts_under c id parts)) (one_more (length ts))
        (step_good number id (length ts) t (rows_for number batch) (shares_from batch (number + 1) (map known_as ts)) parts shaped.0.lineage tables.0 of are (λ id more of are. parts_good floor next (number + 1) id ts more shaped.1 tables.2 of are))
      where
        one_more : (k : ℕ) → k + 1 ≡ suc k
        one_more k = omega arith

    -- The parts of a load keep the rules.
    pub parts_rules : (id : ℕ) (parts : List (PreparedPart M)) → IsCatalog c → AreTables c 0 c.tables → ArePartsOf c parts → AreParts bytes id_of over (shares (sight_of c) batch) parts → are_parts (parts_under c id parts) ≡ true
    parts_rules id parts shaped tables of are =
        let is = parts_good c.floor c.next 0 id c.tables parts shaped.tables tables of are in
        let few = shaped.few in
        let le = is.few in
        λ i. lt-ltb (length (parts_under c id parts)) (2 ^ 16) (omega (arith, few, le)) i && is.rise i && is.good i
