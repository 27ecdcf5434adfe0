-- A change that was read and is allowed has a default of its column.
use Rattle.std.proofs.Common.{◌≡◌, is_ok, true, false, Bool, refl}
use Rattle.mesa_history_spec.specs.mesa_list.Checks.{refuse_unless}
use Rattle.mesa_delta_format.specs.mesa_key.declared.KeyType.{KeyType}
use Rattle.mesa_delta_format.specs.mesa_key.declared.KeyType.TheVariants as kind
use Rattle.mesa_delta_format.specs.mesa_key.declared.KeyValue.{KeyValue}
use Rattle.mesa_delta_format.specs.mesa_key.declared.KeyValue.TheVariants as value
use Rattle.mesa_delta_format.specs.mesa_key.Spelling.{IsValue}
use Rattle.mesa_history_spec.specs.mesa_columns.declared.changes.Change.{Change}
use Rattle.mesa_history_spec.specs.mesa_columns.declared.changes.Change.TheVariants.{AddKey, AddValue, DropValue}
use Rattle.mesa_history_spec.specs.mesa_columns.declared.changes.ChangeError.TheVariants.{BadDefault}
use Rattle.mesa_history_spec.specs.mesa_columns.Columns.{key_names, value_names}
use Rattle.mesa_history_spec.specs.mesa_columns.Changes.{is_default, is_of_kind}
use Rattle.mesa_history_spec.specs.mesa_schema.Changes.{Lineage, columns_of, new_name_checked, rule_checked}
use Rattle.mesa_history_spec.specs.mesa_schema.Lineages.{HasDefault}
use Rattle.mesa_history_spec.proofs.mesa_schema.LineageChanges.{default_fits}
use Rattle.mesa_history_spec.proofs.mesa_schema.Passing.{passed_first}
use Rattle.mesa_record.specs.mesa_record_fields.Rules.{IsKeyValue, IsTypedChange}

value_fits : (k : KeyType) (v : KeyValue) → is_of_kind k v ≡ true → IsKeyValue v → IsValue k v
value_fits kind.Int (value.Int z) h typed = typed
value_fits kind.Int (value.Text bytes) h typed = absurd (let f : false ≡ true = h in cc)
value_fits kind.Text (value.Int z) h typed = absurd (let f : false ≡ true = h in cc)
value_fits kind.Text (value.Text bytes) h typed = typed

unless_last : (t : Bool) → is_ok (refuse_unless t BadDefault) ≡ true → t ≡ true
unless_last true h = refl
unless_last false h = cc

pub default_read : (l : Lineage) (c : Change) → IsTypedChange c → is_ok (rule_checked l c) ≡ true → HasDefault c
default_read l (AddValue column default) typed h = default_fits column.agg default typed.1 (unless_last (is_default column.agg default) (passed_first (new_name_checked column.name (value_names (columns_of l))) _ h).1)
default_read l (DropValue name) typed h = tt
default_read l (AddKey column default) typed h =
    value_fits column.kind default (unless_last (is_of_kind column.kind default) (passed_first (new_name_checked column.name (key_names (columns_of l))) _ h).1) typed.1
