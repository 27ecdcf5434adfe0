-- What keeps a lineage within the rules.
use Rattle.std.proofs.Common.{◌≡◌, ℕ, ◌<◌, ◌-◌, List, [], ◌∷◌, ◌++◌, length, map, Bool, true, false, refl, sym, ◌∙◌, ap, arith, Option, Some, None, Ok, length-append}
use Rattle.std.specs.Prelude.{◌&&◌, is_ok, find, option_map, is_some, not, ◌==◌}
use Rattle.std.specs.List.{list_all}
use Rattle.std.proofs.lemmas.List.{length-map, take_all}
use Rattle.mesa_fold.specs.mesa_list.Checks.{◌>>◌, refuse_if, refuse_unless}
use Rattle.mesa_columns.specs.declared.changes.ChangeError.TheVariants.{LastValue, NoColumn}
use Rattle.mesa_columns.specs.Names.{has_name}
use Rattle.std.proofs.lemmas.List.Folds.{list_all-append}
use Rattle.mesa_columns.specs.declared.columns.KeyColumn.{KeyColumn}
use Rattle.mesa_columns.specs.declared.columns.ValueColumn.{ValueColumn}
use Rattle.mesa_columns.specs.declared.views.View.{View}
use Rattle.mesa_columns.specs.declared.views.ViewError.TheVariants.{NoKey, NoValue}
use Rattle.mesa_columns.specs.Columns.{Columns, chosen, is_replace, key_names, places_in, value_names}
use Rattle.mesa_columns.specs.Schema.{is_schema}
use Rattle.mesa_columns.specs.Changes.{columns_after}
use Rattle.mesa_schema.specs.Changes.{Lineage, columns_of, drop_checked, epoch_of, refuse_used}
use Rattle.mesa_schema.specs.Views.{choice_checked, values_named, view_checked}
use Rattle.mesa_schema.specs.Lineages.{IsKept, IsLineage, is_view_of}

-- no replace column was found
none_found : (o : Option ValueColumn) → None ≡ option_map (λ (c : ValueColumn). c.name) o → o ≡ None
none_found None e = refl
none_found (Some c) e = cc

-- A choice of key columns and one of value columns, none of them a replace column, is a view.
allowed_view : (s : Columns) (keys values : List (List ℕ)) → Ok tt ≡ choice_checked (key_names s) NoKey keys → Ok tt ≡ choice_checked (value_names s) NoValue values
    → None ≡ option_map (λ (c : ValueColumn). c.name) (find is_replace (values_named s values)) → is_ok (view_checked s keys values) ≡ true
allowed_view s keys values k v r = rw (sym k, sym v, none_found _ r) refl

-- The same, as code has it: over slices of the columns and the names.
pub allowed_slices : (s : Columns) (ks : List KeyColumn) (vs vs2 : List ValueColumn) (keys keys2 values values2 values3 : List (List ℕ))
    → ks ≡ s.keys → vs ≡ s.values → vs2 ≡ s.values → keys2 ≡ keys → values2 ≡ values → values3 ≡ values
    → Ok tt ≡ choice_checked (map (λ (c : KeyColumn). c.name) ks) NoKey keys2 → Ok tt ≡ choice_checked (map (λ (c : ValueColumn). c.name) vs) NoValue values2
    → None ≡ option_map (λ (c : ValueColumn). c.name) (find is_replace (chosen (places_in (map (λ (c : ValueColumn). c.name) vs2) values3) vs2))
    → is_ok (view_checked s keys values) ≡ true
allowed_slices s ks vs vs2 keys keys2 values values2 values3 e f g h i j k v r =
    allowed_view s keys values
    (k ∙ ap (λ xs. choice_checked (map (λ (c : KeyColumn). c.name) xs) NoKey keys2) e ∙ ap (choice_checked (key_names s) NoKey) h)
    (v ∙ ap (λ xs. choice_checked (map (λ (c : ValueColumn). c.name) xs) NoValue values2) f ∙ ap (choice_checked (value_names s) NoValue) i)
    (r ∙ ap (λ xs. option_map (λ (c : ValueColumn). c.name) (find is_replace (chosen (places_in (map (λ (c : ValueColumn). c.name) xs) values3) xs))) g
    ∙ ap (λ ns. option_map (λ (c : ValueColumn). c.name) (find is_replace (values_named s ns))) j)

-- A view more that the present columns allow.
pub kept_with_view : (l : Lineage) (present : Option Columns) (v : View) (views : List View) → IsKept l present → length l.views < 8 → is_ok (view_checked (columns_of l) v.keys v.values) ≡ true
    → views ≡ l.views ++ v ∷ [] → IsKept (record { begins = l.begins; first = l.first; changes = l.changes; views = views }) present
kept_with_view l present v views k room ok e = record {
  lineage = record {
    schemas = k.lineage.schemas;
    defaults = k.lineage.defaults;
    views = ap (list_all (is_view_of (columns_of l))) e ∙ list_all-append (is_view_of (columns_of l)) l.views (v ∷ [])
        ∙ ap (λ b. b && (is_view_of (columns_of l) v && true)) k.lineage.views ∙ ap (λ b. b && true) ok;
    few_changes = k.lineage.few_changes;
    few_views = omega (arith, ap length e, length-append l.views (v ∷ []));
  };
  present = k.present;
}

-- The present columns make a schema.
pub present_schema : (l : Lineage) → IsLineage l → is_schema (columns_of l) ≡ true
present_schema l r = ap (λ changes. is_schema (columns_after l.first changes)) (sym (take_all (epoch_of l - l.begins) l.changes (omega arith))) ∙ r.schemas (epoch_of l)

used : (o : Option View) (there alone : Bool) → is_ok (refuse_unless there NoColumn >> (refuse_used o >> refuse_if alone LastValue)) ≡ ((there && not alone) && not (is_some o))
used o false alone = refl
used None true true = refl
used None true false = refl
used (Some v) true true = refl
used (Some v) true false = refl

-- A value column may go where it is there, isn't the last one, and no view has it.
pub drop_allowed : (l : Lineage) (name : List ℕ) → is_ok (drop_checked l name) ≡ ((has_name name (value_names (columns_of l)) && not (length (columns_of l).values == 1)) && not (is_some (find (λ (v : View). has_name name v.values) l.views)))
drop_allowed l name =
    used (find (λ (v : View). has_name name v.values) l.views) (has_name name (value_names (columns_of l))) (length (value_names (columns_of l)) == 1)
    ∙ ap (λ n. (has_name name (value_names (columns_of l)) && not (n == 1)) && not (is_some (find (λ (v : View). has_name name v.values) l.views))) (length-map (columns_of l).values (λ (c : ValueColumn). c.name))
