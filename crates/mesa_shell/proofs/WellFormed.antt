-- A sound store is a well-formed warehouse.
use Rattle.std.proofs.Common.{◌≡◌, ◌⊎◌, ⊎_elim, ◌<◌, ℕ, zero, suc, ◌-◌, List, [], ◌∷◌, ◌++◌, map, flat_map, true, false, Bool, ◌==◌, nat_lt, ◌&&◌, refl, ◌∙◌, ap, arith, is_none, IsTrue}
use Rattle.std.proofs.lemmas.List.{length-map}
use Rattle.std.proofs.lemmas.List.FromFn.{length-range_with_len}
use Rattle.std.proofs.lemmas.Bool.{lt-ltb, or_left, or_right}
use Rattle.std.specs.List.{AllByRecursion, range_with_len}
use Rattle.mesa_columns.specs.Names.{repeated}
use Rattle.mesa_columns.specs.Columns.{aggs_of}
use Rattle.mesa_session.specs.mesa_schema.Changes.{columns_of}
use Rattle.mesa_check.proofs.mesa_fold.Forms.{folded_form}
use Rattle.mesa_columns.proofs.Lists.{all_map}
use Rattle.mesa_check.proofs.mesa_fold.RisingRows.{folded_rise}
use Rattle.mesa_model.specs.declared.commands.Script.{Script}
use Rattle.mesa_model.specs.WellFormed.{IsContent, IsTable, IsWellFormed, is_kept, relation_names}
use Rattle.mesa_session.specs.mesa_history_spec.Rows.{Rows}
use Rattle.mesa_engine.specs.mesa_store_spec.Catalog.{TableMeta, Catalog}
use Rattle.mesa_engine.specs.mesa_store_spec.Contents.{present, deltas_to, content, table_of, kept_of}
use Rattle.mesa_engine.specs.mesa_store_spec.Fitting.{deltas_of, delta_live, names_in}
use Rattle.mesa_engine.specs.mesa_store_spec.Shape.{IsShaped, IsCatalog}
use Rattle.mesa_engine.specs.mesa_store_spec.Sound.{HasSoundRows, HaveSoundRows, IsTold}
use Rattle.mesa_engine.proofs.mesa_store_spec.Formed.{AreFormed, all_formed, rows_formed, up_to}
use Rattle.mesa_engine.proofs.mesa_store_spec.Lists.{all_unflat}
use Rattle.mesa_shell.specs.StoreStart.{start_of}

content_is : (rows : Rows) (t : TableMeta) (floor next : ℕ) → IsShaped floor next t → HasSoundRows rows t → (version : ℕ) → IsContent (columns_of t.lineage) (content rows t version)
content_is rows t floor next shape sound_rows version =
    let formed : AreFormed rows t.lineage (deltas_of t) = all_formed rows t.lineage (deltas_of t) shape.lineage (all_unflat (IsTold rows) (delta_live t.lineage) (deltas_of t) sound_rows.files) in
    record {
      forms = folded_form (columns_of t.lineage) (map (present rows t.lineage) (deltas_to t version)) (rows_formed rows t.lineage (deltas_to t version) (up_to _ t version formed));
      order = folded_rise (aggs_of (columns_of t.lineage)) (map (present rows t.lineage) (deltas_to t version));
    }

all_each : {A : Type 0} (P : A → Type 0) (xs : List A) → ((x : A) → P x) → AllByRecursion P xs
all_each P [] each = tt
all_each P (x ∷ xs) each = (each x, all_each P xs each)

same_zero : (n : ℕ) → n ≡ 0 → (n == 0) ≡ true
same_zero zero is = refl
same_zero (suc n) is = absurd (omega (arith, is))

both_true : (a b : Bool) → a ≡ true → b ≡ true → (a && b) ≡ true
both_true true b x y = y
both_true false b x y = x

kept : (next version : ℕ) → (version < next) ⊎ ((version ≡ 0) × (next ≡ 0)) → IsTrue (is_kept next version)
kept next version is = ⊎_elim (λ lt. or_left (nat_lt version next) _ (lt-ltb version next lt)) (λ none. or_right (nat_lt version next) _ (both_true _ _ (same_zero version none.0) (same_zero next none.1))) is

table_is : (script : Script) (rows : Rows) (c : Catalog) (t : TableMeta) → IsShaped c.floor c.next t → HasSoundRows rows t → IsTable (start_of script c rows).warehouse (table_of rows c.next t)
unfolding kept_of
table_is script rows c t shape sound_rows = record {
  lineage = shape.lineage;
  above = shape.above;
  oldest = kept c.next t.oldest shape.oldest;
  versions = length-map (range_with_len t.oldest (c.next - t.oldest)) (content rows t) ∙ length-range_with_len t.oldest (c.next - t.oldest);
  contents = all_map (IsContent (columns_of t.lineage)) (content rows t) (range_with_len t.oldest (c.next - t.oldest)) (all_each _ (range_with_len t.oldest (c.next - t.oldest)) (content_is rows t c.floor c.next shape sound_rows));
}

tables_are : (script : Script) (rows : Rows) (c : Catalog) (ts : List TableMeta) → AllByRecursion (IsShaped c.floor c.next) ts → AllByRecursion (HasSoundRows rows) ts → AllByRecursion (IsTable (start_of script c rows).warehouse) (map (table_of rows c.next) ts)
tables_are script rows c [] shapes sound_rows = tt
tables_are script rows c (t ∷ ts) shapes sound_rows = (table_is script rows c t shapes.0 sound_rows.0, tables_are script rows c ts shapes.1 sound_rows.1)

names_same : (rows : Rows) (c : Catalog) (ts : List TableMeta) → relation_names (record { tables = map (table_of rows c.next) ts; floor = c.floor }) ≡ flat_map names_in ts
names_same rows c [] = refl
names_same rows c (t ∷ ts) = ap (λ (ns : List (List ℕ)). names_in t ++ ns) (names_same rows c ts)

pub well_formed_start : (script : Script) (c : Catalog) (rows : Rows) → IsCatalog c → HaveSoundRows rows c → IsWellFormed (start_of script c rows).warehouse
unfolding kept_of
well_formed_start script c rows is sound_rows = record {
  tables = tables_are script rows c c.tables is.tables sound_rows;
  names = ap (λ names. is_none (repeated names)) (names_same rows c c.tables) ∙ is.names;
  floor = kept c.next c.floor is.floor;
}
