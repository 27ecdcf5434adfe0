-- Tables whose names, and the names of whose value columns, have no line break.
use Rattle.std.proofs.Common.{◌≡◌, ℕ, ◌+◌, ◌∙◌, List, [], ◌∷◌, map, true, refl, subst, sym, Some, None, slice_get}
use Rattle.std.specs.List.{AllByRecursion, cons_option, list_all}
use Rattle.std.proofs.lemmas.Bool.{and_parts}
use Rattle.std.proofs.Math.ListN.{get_or-map}
use Rattle.mesa_invariant_spec.specs.mesa_columns.declared.columns.ValueColumn.{ValueColumn}
use Rattle.mesa_invariant_spec.specs.mesa_columns.Columns.{Columns, chosen, value_names}
use Rattle.mesa_invariant_spec.specs.mesa_columns.Names.{is_name}
use Rattle.mesa_invariant_spec.proofs.mesa_columns.Lists.{all_at, all_got, all_map}
use Rattle.mesa_invariant_spec.proofs.mesa_columns.Places.{place_named}
use Rattle.mesa_model.specs.Warehouse.{Store, Table, no_table, table_at}
use Rattle.mesa_model.specs.Load.{tables_loaded}
use Rattle.mesa_model.specs.Relations.{table_number}
use Rattle.mesa_invariant_spec.specs.mesa_batch.Batch.{Placed}
use Rattle.mesa_invariant_spec.specs.mesa_batch.Totals.{sum_name, sum_places}
use Rattle.mesa_invariant_spec.specs.mesa_columns.Columns.{aggs_of}
use Rattle.mesa_generate.specs.Excerpt.{ArePlainColumns, HasPlainNames, IsPlainColumn, IsPlainTable}
use Rattle.mesa_generate.specs.Lines.{IsUnbroken}
use Rattle.mesa_generate.proofs.Breaks.{name_unbroken}

-- columns with good names
pub named_columns : (values : List ValueColumn) → list_all is_name (map (λ (c : ValueColumn). c.name) values) ≡ true → AllByRecursion IsPlainColumn values
named_columns [] good = tt
named_columns (c ∷ values) good = let parts = and_parts (is_name c.name) (list_all is_name (map (λ (c : ValueColumn). c.name) values)) good in (name_unbroken c.name parts.0, named_columns values parts.1)

pub chosen_plain : {A : Type 0} (P : A → Type 0) (places : List ℕ) (xs : List A) → AllByRecursion P xs → AllByRecursion P (chosen places xs)
chosen_plain P [] xs all = tt
chosen_plain P (i ∷ places) xs all = elim (slice_get xs i) as (λ o. slice_get xs i ≡ o → AllByRecursion P (cons_option o (chosen places xs))) [
  | None ↦ λ e. chosen_plain P places xs all
  | Some x ↦ λ e. (all_got P xs i x e all, chosen_plain P places xs all)
] refl

pub table_plain : (s : Store) (number : ℕ) → HasPlainNames s → IsPlainTable (table_at s number)
table_plain s number all = all_at IsPlainTable s.tables number no_table (refl, tt) all

-- a name by which a table is found is the table's
pub named_plain : (s : Store) (name : List ℕ) (number : ℕ) → HasPlainNames s → table_number s name ≡ Some number → IsUnbroken name
named_plain s name number all found =
    let there = place_named name (map (λ (t : Table). t.name) s.tables) number no_table.name found in
    subst IsUnbroken (sym (get_or-map (λ (t : Table). t.name) s.tables number no_table) ∙ there.1) (table_plain s number all).0

pub sum_plain : (s : Columns) (place : ℕ) → ArePlainColumns s → IsUnbroken (sum_name s place)
sum_plain s place all = all_at IsUnbroken (chosen (sum_places 0 (aggs_of s)) (value_names s)) place [] refl (chosen_plain IsUnbroken (sum_places 0 (aggs_of s)) (value_names s) (all_map IsUnbroken (λ (c : ValueColumn). c.name) s.values all))

pub loaded_plain : (batch : List Placed) (number : ℕ) (tables : List Table) → AllByRecursion IsPlainTable tables → AllByRecursion IsPlainTable (tables_loaded batch number tables)
loaded_plain batch number [] all = tt
loaded_plain batch number (t ∷ tables) all = (all.0, loaded_plain batch (number + 1) tables all.1)
