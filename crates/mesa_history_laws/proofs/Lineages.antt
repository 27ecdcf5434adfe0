-- What commands make of a table's columns keeps the rules.
use Rattle.std.proofs.Common.{◌≡◌, ◌<◌, length, Bool, true, false, refl, Result, Ok, Err, is_ok, nat_le, subst}
use Rattle.std.proofs.lemmas.Bool.{leb-false}
use Rattle.mesa_history_spec.specs.mesa_list.Checks.{◌>>◌, refuse_unless, refused_as}
use Rattle.mesa_history_spec.specs.mesa_columns.declared.columns.KeyColumn.{KeyColumn}
use Rattle.mesa_history_spec.specs.mesa_columns.declared.views.View.{View}
use Rattle.mesa_history_spec.specs.mesa_columns.declared.views.ViewError.{ViewError}
use Rattle.mesa_history_spec.specs.mesa_columns.declared.changes.Change.{Change}
use Rattle.mesa_history_spec.specs.mesa_columns.declared.changes.Change.TheVariants.{AddKey, AddValue, DropValue}
use Rattle.mesa_history_spec.specs.mesa_columns.declared.changes.ChangeError.TheVariants.{BadDefault}
use Rattle.mesa_history_spec.specs.mesa_value.Agg.{IsNarrow}
use Rattle.mesa_history_spec.specs.mesa_columns.Numbers.{any_signed, key_value_of, signed_of}
use Rattle.mesa_history_spec.specs.mesa_columns.Columns.{key_names, value_names}
use Rattle.mesa_history_spec.specs.mesa_columns.Changes.{is_default}
use Rattle.mesa_history_spec.specs.mesa_schema.Changes.{Lineage, columns_of, new_name_checked, rule_checked}
use Rattle.mesa_history_spec.specs.mesa_schema.Views.{max_views, view_checked}
use Rattle.mesa_history_spec.specs.mesa_schema.Lineages.{HasDefault, IsLineage}
use Rattle.mesa_history_spec.proofs.mesa_schema.LineageChanges.{default_fits, lineage_viewed as lineage_with_view}
use Rattle.mesa_history_spec.proofs.mesa_schema.Passing.{passed_first, passed_last}
use Rattle.mesa_history_spec.specs.mesa_model.declared.commands.ChangeWords.{ChangeWords}
use Rattle.mesa_history_spec.specs.mesa_model.declared.commands.ChangeWords.TheVariants as words
use Rattle.mesa_history_spec.specs.mesa_model.declared.commands.ViewWords.{ViewWords}
use Rattle.mesa_history_spec.specs.mesa_model.declared.replies.Refusal.{Refusal}
use Rattle.mesa_history_spec.specs.mesa_model.declared.replies.Refusal.TheVariants as no
use Rattle.mesa_history_spec.specs.mesa_model.Warehouse.{Table}
use Rattle.mesa_history_spec.specs.mesa_model.Refusals.{view_refusal}
use Rattle.mesa_history_spec.specs.mesa_model.Tables.{change_asked, new_column_checked, view_of_table_checked}
use Rattle.mesa_history_spec.proofs.mesa_batch.RowForms.{then_fits}
use Rattle.mesa_history_laws.proofs.Batches.{read_value}
use Rattle.mesa_history_laws.proofs.Checks.{bound_some, passed}
use Rattle.mesa_history_laws.proofs.Moves.{viewed}

-- A change that was asked for and is allowed has a default of its column.
pub change_default : (l : Lineage) (asked : ChangeWords) (c : Change) → change_asked (columns_of l) asked ≡ Ok c → is_ok (rule_checked l c) ≡ true → HasDefault c
change_default l (words.AddValue column' word) (AddValue column default) e h =
    let next = passed (new_column_checked column'.name (value_names (columns_of l))) _ (AddValue column default) e in
    let value = bound_some (signed_of word) (no.BadDefault column'.name) (λ v. Ok (AddValue (record { name = column'.name; agg = column'.agg }) v)) (AddValue column default) next in
    let same : value.0 ≡ default = cc value.2 in
    let narrow : IsNarrow default = subst IsNarrow same (then_fits (any_signed word) value.0 value.1) in
    default_fits column.agg default narrow ((passed_unless_last (is_default column.agg default) (passed_first (new_name_checked column.name (value_names (columns_of l))) _ h).1))
  where
    passed_unless_last : (t : Bool) → is_ok (refuse_unless t BadDefault) ≡ true → t ≡ true
    passed_unless_last true h = refl
    passed_unless_last false h = cc
change_default l (words.DropValue name) (AddValue column default) e h = cc
change_default l (words.AddKey column' word) (AddValue column default) e h =
    let next = passed (new_column_checked column'.name (key_names (columns_of l))) _ (AddValue column default) e in
    let value = bound_some (key_value_of column'.kind word) (no.BadDefault column'.name) (λ v. Ok (AddKey (record { name = column'.name; kind = column'.kind }) v)) (AddValue column default) next in
    cc value.2
change_default l asked (DropValue name) e h = tt
change_default l (words.AddValue column' word) (AddKey column default) e h =
    let next = passed (new_column_checked column'.name (value_names (columns_of l))) _ (AddKey column default) e in
    let value = bound_some (signed_of word) (no.BadDefault column'.name) (λ v. Ok (AddValue (record { name = column'.name; agg = column'.agg }) v)) (AddKey column default) next in
    cc value.2
change_default l (words.DropValue name) (AddKey column default) e h = cc
change_default l (words.AddKey column' word) (AddKey column default) e h =
    let next = passed (new_column_checked column'.name (key_names (columns_of l))) _ (AddKey column default) e in
    let value = bound_some (key_value_of column'.kind word) (no.BadDefault column'.name) (λ v. Ok (AddKey (record { name = column'.name; kind = column'.kind }) v)) (AddKey column default) next in
    let made : KeyColumn = record { name = column'.name; kind = column'.kind } in
    let same : AddKey made value.0 ≡ AddKey column default = cc value.2 in
    subst HasDefault same (read_value column'.kind word value.0 value.1)

-- A view that a command adds keeps them.
pub lineage_viewed : (t : Table) (asked : ViewWords) → IsLineage t.lineage → is_ok (view_of_table_checked t asked) ≡ true → IsLineage (viewed t asked).lineage
lineage_viewed t asked is h =
    let v : View = record { name = asked.view; keys = asked.keys; values = asked.values } in
    let first = allowed (view_checked (columns_of t.lineage) asked.keys asked.values) _ h in
    let room : length t.lineage.views < 8 = leb-false max_views (length t.lineage.views) (passed_last (nat_le max_views (length t.lineage.views)) _ first.1) in
    lineage_with_view t.lineage v is room first.0
  where
    allowed : (r : Result (Unit {0}) ViewError) (next : Result (Unit {0}) Refusal) → is_ok (refused_as view_refusal r >> next) ≡ true → (is_ok r ≡ true) × (is_ok next ≡ true)
    allowed (Ok x) next h = (refl, h)
    allowed (Err e) next h = cc
