-- Tables' columns keep the rules through their lives: when a table is made, and when its columns change.
use Rattle.std.proofs.Common.{◌≡◌, ◌-◌, ◌<◌, List, [], ◌∷◌, ◌++◌, length, true, false, sym, Ok, ◌∙◌, ap, subst, arith, is_ok, nat_le, inl, inr, ℤ, nat_abs, refl}
use Rattle.std.specs.Prelude.{Option, Some}
use Rattle.std.specs.List.{list_all}
use Rattle.std.proofs.lemmas.Bool.{cases_lt, eqb-true, leb-false, lt-leb}
use Rattle.std.proofs.lemmas.Int.{ints}
use Rattle.std.proofs.lemmas.List.{take-append-le, take_all}
use Rattle.mesa_fold.specs.mesa_value.declared.Agg.{Agg}
use Rattle.mesa_fold.specs.mesa_value.declared.Agg.TheVariants.{Sum, Min, Max, Replace}
use Rattle.mesa_fold.specs.mesa_value.Agg.{IsDefault, IsNarrow}
use Rattle.mesa_columns.specs.declared.views.View.{View}
use Rattle.mesa_columns.specs.declared.changes.Change.{Change}
use Rattle.mesa_columns.specs.Columns.{Columns}
use Rattle.mesa_columns.specs.Schema.{is_schema, schema_checked}
use Rattle.mesa_columns.specs.Changes.{changed, columns_after, is_default}
use Rattle.mesa_schema.specs.Changes.{Lineage, change_checked, columns_of, epoch_of, max_changes, rule_checked, with_change}
use Rattle.mesa_schema.specs.Views.{max_views, with_view}
use Rattle.mesa_schema.specs.Lineages.{HasDefault, IsKept, IsLineage, is_view_of}
use Rattle.mesa_schema.proofs.LineageRules.{kept_with_view, present_schema}
use Rattle.mesa_schema.proofs.PresentRows.{columns_more, epoch_more}
use Rattle.mesa_columns.proofs.Lists.{all_append}
use Rattle.mesa_schema.proofs.Passing.{passed_first, passed_last}
use Rattle.mesa_schema.proofs.SchemaChanges.{rules_schema, schema_changed, schema_rules}
use Rattle.mesa_schema.proofs.ViewChanges.{views_changed}

-- A number of 64 bits that passes the test of a default is one of its column.
pub default_fits : (agg : Agg) (z : ℤ) → IsNarrow z → is_default agg z ≡ true → IsDefault agg z
default_fits Sum z narrow h = omega (arith, ints, eqb-true (nat_abs z) 0 h)
default_fits Min z narrow h = narrow
default_fits Max z narrow h = narrow
default_fits Replace z narrow h = narrow

few_epochs : (l : Lineage) (c : Change) → is_ok (change_checked l c) ≡ true → epoch_of l < 1000
few_epochs l c h = leb-false max_changes (epoch_of l) (passed_last (nat_le max_changes (epoch_of l)) _ (passed_first (rule_checked l c) _ h).1)

-- The columns after an allowed change make a schema.
pub changed_schema : (l : Lineage) (c : Change) → IsLineage l → is_ok (rule_checked l c) ≡ true → is_schema (changed (columns_of l) c) ≡ true
changed_schema l c is rule = rules_schema (changed (columns_of l) c) (schema_changed l c (schema_rules (columns_of l) (present_schema l is)) rule)

-- A change that is allowed keeps a lineage within the rules.
pub lineage_changed : (l : Lineage) (c : Change) → IsLineage l → HasDefault c → is_ok (change_checked l c) ≡ true → IsLineage (with_change l c)
lineage_changed l c is default h =
    let rule : is_ok (rule_checked l c) ≡ true = (passed_first (rule_checked l c) _ h).0 in
    let new : is_schema (columns_of (with_change l c)) ≡ true = ap is_schema (columns_more l c) ∙ changed_schema l c is rule in
    record {
      schemas = λ epoch. elim (cases_lt (epoch_of l) epoch) [
        | inl above ↦ ap (λ (changes : List Change). is_schema (columns_after l.first changes)) (take_all (epoch - l.begins) (l.changes ++ c ∷ []) (omega (arith, above, epoch_more l c))) ∙ new
        | inr below ↦ ap (λ (changes : List Change). is_schema (columns_after l.first changes)) (take-append-le (epoch - l.begins) l.changes (c ∷ []) (omega (arith, below))) ∙ is.schemas epoch
      ];
      defaults = all_append HasDefault l.changes (c ∷ []) is.defaults (default, tt);
      views = ap (λ (s : Columns). list_all (is_view_of s) l.views) (columns_more l c) ∙ views_changed l c rule is.views;
      few_changes = omega (arith, few_epochs l c h, epoch_more l c);
      few_views = is.few_views;
    }

-- The same, as code keeps it: beside the present columns.
pub kept_with_change : (l : Lineage) (present : Option Columns) (c : Change) (changes : List Change) (now : Columns) → IsKept l present → rule_checked l c ≡ Ok tt → HasDefault c → epoch_of l < 1000
    → changes ≡ l.changes ++ c ∷ [] → now ≡ changed (columns_of l) c → IsKept (record { begins = l.begins; first = l.first; changes = changes; views = l.views }) (Some now)
kept_with_change l present c changes now k rule default room e same =
    let few : nat_le max_changes (epoch_of l) ≡ false = lt-leb max_changes (epoch_of l) room in
    let allowed : is_ok (change_checked l c) ≡ true = rw (rule, few) refl in
    subst (λ cs. IsKept (record { begins = l.begins; first = l.first; changes = cs; views = l.views }) (Some now)) (sym e) (record { lineage = lineage_changed l c k.lineage default allowed; present = same ∙ sym (columns_more l c) })

-- So does a view that is allowed.
pub lineage_viewed : (l : Lineage) (v : View) → IsLineage l → length l.views < max_views → is_view_of (columns_of l) v ≡ true → IsLineage (with_view l v)
lineage_viewed l v is room ok = (kept_with_view l (Some (columns_of l)) v (l.views ++ v ∷ []) (record { lineage = is; present = refl }) room ok refl).lineage

-- A new table's columns keep the rules.
pub lineage_new : (s : Columns) → is_ok (schema_checked s) ≡ true → IsLineage (record { begins = 0; first = s; changes = []; views = [] })
lineage_new s h = record {
  schemas = λ epoch. ap (λ (changes : List Change). is_schema (columns_after s changes)) (take_all (epoch - 0) [] (omega arith)) ∙ h;
  defaults = tt;
  views = refl;
  few_changes = omega arith;
  few_views = omega arith;
}
