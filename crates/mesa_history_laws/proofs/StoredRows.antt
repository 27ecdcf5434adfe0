-- The rows that a query sees have keys of the relation's types, in the present tables and in those of a pin.
use Rattle.std.proofs.Common.{◌≡◌, ℕ, ◌-◌, List, [], refl, subst, Option, Some, None}
use Rattle.std.specs.List.{AllByRecursion}
use Rattle.mesa_history_spec.specs.mesa_key.declared.KeyType.{KeyType}
use Rattle.mesa_history_spec.specs.mesa_columns.declared.columns.KeyColumn.{KeyColumn}
use Rattle.mesa_history_spec.specs.mesa_columns.declared.rows.Row.{Row}
use Rattle.mesa_history_spec.specs.mesa_columns.declared.views.View.{View}
use Rattle.mesa_history_spec.specs.mesa_columns.Columns.{Columns, chosen, kinds_of}
use Rattle.mesa_history_spec.specs.mesa_schema.Changes.{columns_of}
use Rattle.mesa_history_spec.specs.mesa_schema.Views.{view_key_places, view_rows, view_value_places}
use Rattle.mesa_history_spec.proofs.mesa_fold.KeyLifts.{Spells}
use Rattle.mesa_history_spec.specs.mesa_filter.Asked.{Asked}
use Rattle.mesa_history_spec.specs.mesa_filter.Filter.{filtered}
use Rattle.mesa_history_spec.specs.mesa_model.Warehouse.{Store, Table, Warehouse, content_at}
use Rattle.mesa_history_spec.specs.mesa_model.WellFormed.{IsContent, IsTable, IsWellFormed}
use Rattle.mesa_history_spec.specs.mesa_model.Relations.{Relation, relation_columns, relation_content, relation_of}
use Rattle.mesa_history_spec.specs.mesa_model.Pins.{store_at, table_pinned}
use Rattle.mesa_history_spec.specs.mesa_model.Query.{answer_rows}
use Rattle.mesa_history_laws.proofs.AnswersOver.{columns_seen, rows_seen}
use Rattle.mesa_history_laws.proofs.LaterRelations.{relation_there}
use Rattle.mesa_history_spec.proofs.mesa_fold.GroupKeys.{AllSpell, chosen_mapped, grouped_spell, rows_spell}
use Rattle.mesa_history_spec.proofs.mesa_columns.Lists.{all_at, all_filter, all_got, all_map, all_so}

-- each content of each table has the form of its columns
abbrev HasContents : Table → Type 0
HasContents t = AllByRecursion (IsContent (columns_of t.lineage)) t.contents

abbrev pub IsStored : Store → Type 0
IsStored s = AllByRecursion HasContents s.tables

-- the present tables do
pub well_stored : (w : Warehouse) → IsWellFormed w → IsStored w.store
well_stored w is = all_so (IsTable w) HasContents w.store.tables (λ t table. table.contents) is.tables

no_content : (s : Columns) → IsContent s []
no_content s = record { forms = tt; order = refl }

-- and so do those pinned at a version
pub pin_stored : (s : Store) (version : ℕ) → IsStored s → IsStored (store_at s version)
pin_stored s version all =
    all_map HasContents (table_pinned version) s.tables
    (all_so HasContents (λ (t : Table). HasContents (table_pinned version t)) s.tables
    (λ t contents. (all_at (IsContent (columns_of t.lineage)) t.contents (version - t.oldest) [] (no_content (columns_of t.lineage)) contents, tt)) all)

-- ---- a relation's rows

seen_spell : (s : Columns) (view : Option View) (rows : List Row) → AllSpell (kinds_of s) rows → AllSpell (kinds_of (columns_seen s view)) (rows_seen s view rows)
seen_spell s None rows all = all
seen_spell s (Some view) rows all =
    subst (λ (types : List KeyType). AllSpell types (view_rows s view rows)) (chosen_mapped (λ (c : KeyColumn). c.kind) (view_key_places s view) s.keys)
    (grouped_spell s (view_key_places s view) (view_value_places s view) rows all)

-- The rows of an answer have keys of the group columns' types.
pub answer_spells : (s : Store) (name : List ℕ) (r : Relation) (asked : Asked) (version : ℕ) → IsStored s → relation_of s name ≡ Some r
    → AllSpell (chosen asked.columns (kinds_of (relation_columns r))) (answer_rows (relation_columns r) asked (relation_content r version))
answer_spells s name r asked version stored found =
    let columns : Columns = columns_of r.table.lineage in
    let contents : HasContents r.table = all_got HasContents s.tables r.number r.table (relation_there s name r found) stored in
    let content : IsContent columns (content_at r.table version) = all_at (IsContent columns) r.table.contents (version - r.table.oldest) [] (no_content columns) contents in
    let rows : AllSpell (kinds_of (relation_columns r)) (relation_content r version) = seen_spell columns r.view (content_at r.table version) (rows_spell columns (content_at r.table version) content.forms) in
    grouped_spell (relation_columns r) asked.columns asked.values (filtered (relation_columns r) asked.terms (relation_content r version))
    (all_filter (λ (row : Row). Spells (kinds_of (relation_columns r)) row.key) _ (relation_content r version) rows)
