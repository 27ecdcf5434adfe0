-- The generation through records.
use Rattle.std.proofs.Common.{◌≡◌, ℕ, ◌+◌, ◌<◌, List, [], ◌∷◌, length, map, refl, sym, ◌∙◌, ap, arith, Bool, true, false}
use Rattle.std.specs.Prelude.{Option, Some, None, sum_by}
use Rattle.std.proofs.lemmas.Bool.Decides.{nat_tests}
use Rattle.std.proofs.lemmas.List.{length_push}
use Rattle.std.proofs.lemmas.List.Sums.{sum_by-cons, sum_by-set, sum_by_push}
use Rattle.mesa_catalog_records.specs.mesa_columns.declared.views.View.{View}
use Rattle.mesa_catalog_records.specs.mesa_record.declared.record.Record.{Record}
use Rattle.mesa_catalog_records.specs.mesa_record.declared.record.Record.TheVariants as record_of
use Rattle.mesa_catalog_records.specs.mesa_record.declared.record.Files.{Files}
use Rattle.mesa_catalog_records.specs.mesa_record.declared.record.Part.{Part}
use Rattle.mesa_catalog_records.specs.mesa_store_spec.Catalog.{Catalog, TableMeta, applied, merged_delta, new_meta, no_meta, part_of, meta_at, meta_changed, meta_from, meta_loaded, meta_recast, meta_swapped, meta_viewed, metas_loaded, with_meta}
use Rattle.mesa_catalog_records.specs.mesa_store_spec.Fitting.{expire_fits, is_there, kind_fits, recast_fits, swap_fits}
use Rattle.mesa_catalog.specs.Lookups.{changes_in, changes_of, generation_of, known_as, known_in, turns_generation}
use Rattle.mesa_catalog_records.specs.mesa_catalog_table.declared.table.Table.{Table}
use Rattle.mesa_catalog_records.specs.mesa_catalog_table.Meaning.{meta_of}
use Rattle.mesa_catalog_records.proofs.Made.{change_there, view_there}
use Rattle.mesa_catalog_records.proofs.mesa_catalog_table.Tests.{both}

within : (c : Catalog) (i : ℕ) → is_there c i ≡ true → i < length c.tables
within c i e = grind (arith, nat_tests)

put : (c : Catalog) (i : ℕ) (t : TableMeta) (n : ℕ) → i < length c.tables → changes_in t ≡ changes_in (meta_at c i) + n → generation_of (with_meta c i t) ≡ generation_of c + n
put c i t n h e = let sums = sum_by-set changes_in c.tables i t no_meta h in omega arith

loaded_same : (t : TableMeta) (p : Option Part) → changes_in (meta_loaded t p) ≡ changes_in t
loaded_same t None = refl
loaded_same t (Some p) = refl

batch_same : (parts : List Part) (number : ℕ) (tables : List TableMeta) → sum_by changes_in (metas_loaded parts number tables) ≡ sum_by changes_in tables
batch_same parts number [] = refl
batch_same parts number (t ∷ tables) =
    sum_by-cons changes_in (meta_loaded t (part_of number parts)) (metas_loaded parts (number + 1) tables)
    ∙ (λ i. loaded_same t (part_of number parts) i + batch_same parts (number + 1) tables i)
    ∙ sym (sum_by-cons changes_in t tables)

swapped_same : (t : TableMeta) (base : Bool) (to epoch : ℕ) (files : Option Files) → changes_in (meta_swapped t base to (merged_delta epoch files)) ≡ changes_in t
swapped_same t true to epoch files = refl
swapped_same t false to epoch files = refl

-- versions that are let go change nothing
changes_from : (version : ℕ) (tables : List TableMeta) → sum_by changes_in (map (meta_from version) tables) ≡ sum_by changes_in tables
changes_from version [] = refl
changes_from version (t ∷ tables) = sum_by-cons changes_in (meta_from version t) (map (meta_from version) tables) ∙ ap (λ n. changes_in t + n) (changes_from version tables) ∙ sym (sum_by-cons changes_in t tables)

-- A record that fits turns the generation on as its kind says.
pub generation_turned : (c : Catalog) (r : Record) → kind_fits c r ≡ true → generation_of (applied c r) ≡ generation_of c + turns_generation r
generation_turned c (record_of.Run number) e = omega arith
generation_turned c (record_of.Table name keys values) e = sum_by_push changes_in c.tables (new_meta c name (record { keys = keys; values = values }))
generation_turned c (record_of.View table name keys values) e =
    let t = meta_at c table in
    let view : View = record { name = name; keys = keys; values = values } in
    let more : changes_in (meta_viewed t name keys values) ≡ changes_in t + 1 = let count = length_push t.lineage.views view in omega arith in
    put c table (meta_viewed t name keys values) 1 (within c table (view_there c table name keys values e).0) more
generation_turned c (record_of.Alter table change) e =
    let t = meta_at c table in
    let more : changes_in (meta_changed t change) ≡ changes_in t + 1 = let count = length_push t.lineage.changes change in omega arith in
    put c table (meta_changed t change) 1 (within c table (change_there c table change e)) more
generation_turned c (record_of.Publish version parts) e = batch_same parts 0 c.tables ∙ omega arith
generation_turned c (record_of.Swap table base from to epoch files) e =
    let t = meta_at c table in
    let there = (both (is_there c table) (swap_fits c t base from to epoch files) e).0 in
    put c table (meta_swapped t base to (merged_delta epoch files)) 0 (within c table there) (swapped_same t base to epoch files ∙ omega arith)
generation_turned c (record_of.Expire version) e = changes_from version c.tables ∙ omega arith
generation_turned c (record_of.ExpireTable table version) e =
    let t = meta_at c table in
    let there = (both (is_there c table) (expire_fits c t.oldest version) e).0 in
    put c table (meta_from version t) 0 (within c table there) (omega arith)
generation_turned c (record_of.Checkpoint k) e = omega arith
generation_turned c (record_of.Recast k) e =
    let t = meta_at c k.table in
    let there = (both (is_there c k.table) (recast_fits t k) e).0 in
    let more : changes_in (meta_recast c.next t k) ≡ changes_in t + 1 = omega arith in
    put c k.table (meta_recast c.next t k) 1 (within c k.table there) more

-- as the tables that are held count it
pub generation_held : (next : ℕ) (tables : List Table) → sum_by changes_of tables ≡ sum_by changes_in (map (meta_of next) tables)
generation_held next [] = refl
generation_held next (t ∷ tables) = sum_by-cons changes_of t tables ∙ ap (λ n. changes_of t + n) (generation_held next tables) ∙ sym (sum_by-cons changes_in (meta_of next t) (map (meta_of next) tables))

pub known_held : (next : ℕ) (tables : List Table) → map known_in tables ≡ map known_as (map (meta_of next) tables)
known_held next [] = refl
known_held next (t ∷ tables) = ap (λ ks. known_in t ∷ ks) (known_held next tables)
