-- A table's columns keep the rules through a recast.
use Rattle.std.proofs.Common.{◌≡◌, ℕ, ◌+◌, ◌-◌, ◌<◌, List, [], ◌∷◌, true, false, cond, refl, ◌∙◌, ap, arith, Bool, Option, Some, None, Result, Ok, Err, is_ok, find, nat_le}
use Rattle.std.specs.Prelude.{not}
use Rattle.std.specs.List.{AllByRecursion, list_all}
use Rattle.std.proofs.lemmas.Bool.{and_from, and_parts, leb-false}
use Rattle.std.proofs.lemmas.List.{take_all}
use Rattle.mesa_fold.specs.mesa_list.Checks.{◌>>◌, refuse_if, refused_as}
use Rattle.mesa_columns.specs.declared.columns.KeyColumn.{KeyColumn}
use Rattle.mesa_columns.specs.declared.columns.ValueColumn.{ValueColumn}
use Rattle.mesa_columns.specs.declared.views.View.{View}
use Rattle.mesa_schema.specs.declared.recasts.RecastError.TheVariants.{EpochsFull}
use Rattle.mesa_columns.specs.declared.views.ViewError.{ViewError}
use Rattle.mesa_columns.specs.declared.views.ViewError.TheVariants.{NoKey, NoValue}
use Rattle.mesa_columns.specs.Columns.{Columns, key_names, value_names}
use Rattle.mesa_columns.specs.Changes.{columns_after}
use Rattle.mesa_schema.specs.Changes.{Lineage, columns_at, columns_of, epoch_of, max_changes}
use Rattle.mesa_schema.specs.Lineages.{IsLineage, is_view_of}
use Rattle.mesa_schema.specs.Recasts.{IsRecastOf, Recast, choice_refusal, columns_checked, keeps_view, recast_checked, recast_columns, recast_lineage, refuse_left, refuse_losing, replace_left, views_kept}
use Rattle.mesa_columns.specs.Schema.{is_schema}
use Rattle.mesa_schema.specs.Views.{choice_checked}
use Rattle.mesa_schema.proofs.LineageRules.{present_schema}
use Rattle.mesa_schema.proofs.Outlasting.{still_allowed}
use Rattle.mesa_schema.proofs.Passing.{passed_first, passed_last}
use Rattle.mesa_columns.proofs.SchemaRules.{rules_left}
use Rattle.mesa_schema.proofs.ViewSchemas.{choice, few_columns, sort_of}

-- The columns of a table that was recast, at each epoch.
pub columns_first : (l : Lineage) (r : Recast) (epoch : ℕ) → columns_at (recast_lineage l r) epoch ≡ recast_columns (columns_of l) r
columns_first l r epoch = ap (columns_after (recast_columns (columns_of l) r)) (take_all (epoch - (epoch_of l + 1)) [] (omega arith))

-- The columns of a recast make a schema where the table's do.
pub recast_schema : (s : Columns) (r : Recast) → is_schema s ≡ true → IsRecastOf s r → is_schema (recast_columns s r) ≡ true
recast_schema s r sound is =
    let most = few_columns s sound in
    let a = sort_of (λ (c : KeyColumn). c.name) s.keys r.keys most.0 (choice (key_names s) NoKey r.keys is.keys) in
    let b = sort_of (λ (c : ValueColumn). c.name) s.values r.values most.1 (choice (value_names s) NoValue r.values is.values) in
    ap is_ok (rules_left (recast_columns s r) None a.some b.some a.few b.few a.apart b.apart)

-- ---- what an allowed recast says

refused_ok : (c : Result (Unit {0}) ViewError) → is_ok (refused_as choice_refusal c) ≡ true → is_ok c ≡ true
refused_ok (Ok x) h = refl
refused_ok (Err e) h = cc

none_left : (o : Option ValueColumn) → is_ok (refuse_left o) ≡ true → o ≡ None
none_left None h = refl
none_left (Some c) h = cc

none_losing : (o : Option View) → is_ok (refuse_losing o) ≡ true → o ≡ None
none_losing None h = refl
none_losing (Some v) h = cc

all_kept : (r : Recast) (views : List View) → find (λ v. not (keeps_view r v)) views ≡ None → AllByRecursion (λ v. keeps_view r v ≡ true) views
all_kept r [] h = tt
all_kept r (v ∷ views) h = elim (keeps_view r v) as (λ b. keeps_view r v ≡ b → cond (not b) (Some v) (find (λ x. not (keeps_view r x)) views) ≡ None → AllByRecursion (λ x. keeps_view r x ≡ true) (v ∷ views)) [
  | true ↦ λ e f. (e, all_kept r views f)
  | false ↦ λ e f. cc
] refl h

pub record IsAllowed (l : Lineage) (r : Recast) : Type 0 where
  pub rules : IsRecastOf (columns_of l) r
  pub kept : AllByRecursion (λ v. keeps_view r v ≡ true) l.views
  pub room : epoch_of l < max_changes

pub recast_allowed : (l : Lineage) (r : Recast) → recast_checked l r ≡ Ok tt → IsAllowed l r
recast_allowed l r h =
    let columns = passed_first (columns_checked (columns_of l) r) _ (ap is_ok h) in
    let first = passed_first (refused_as choice_refusal (choice_checked (key_names (columns_of l)) NoKey r.keys)) _ columns.0 in
    let second = passed_first (refused_as choice_refusal (choice_checked (value_names (columns_of l)) NoValue r.values)) _ first.1 in
    let views = passed_first (views_kept l.views r) _ columns.1 in
    record {
      rules = record { keys = refused_ok _ first.0; values = refused_ok _ second.0; replaces = none_left (replace_left (columns_of l) r) second.1 };
      kept = all_kept r l.views (none_losing _ views.0);
      room = leb-false max_changes (epoch_of l) (passed_last (nat_le max_changes (epoch_of l)) _ views.1);
    }

-- ---- the law

views_allowed : (s : Columns) (r : Recast) (views : List View) → IsRecastOf s r → AllByRecursion (λ v. keeps_view r v ≡ true) views → list_all (is_view_of s) views ≡ true → list_all (is_view_of (recast_columns s r)) views ≡ true
views_allowed s r [] is kept all = refl
views_allowed s r (v ∷ views) is kept all =
    let parts = and_parts (is_view_of s v) (list_all (is_view_of s) views) all in
    and_from (is_view_of (recast_columns s r) v) (list_all (is_view_of (recast_columns s r)) views) (still_allowed s r v is parts.0 kept.0) (views_allowed s r views is kept.1 parts.1)

-- A recast that is allowed keeps a lineage within the rules.
pub lineage_recast : (l : Lineage) (r : Recast) → IsLineage l → recast_checked l r ≡ Ok tt → IsLineage (recast_lineage l r)
lineage_recast l r is h =
    let allowed = recast_allowed l r h in
    let room = allowed.room in
    record {
      schemas = λ epoch. ap is_schema (columns_first l r epoch) ∙ recast_schema (columns_of l) r (present_schema l is) allowed.rules;
      defaults = tt;
      views = views_allowed (columns_of l) r l.views allowed.rules allowed.kept is.views;
      few_changes = omega (arith, room);
      few_views = is.few_views;
    }

-- A recast that was allowed goes on to be, but for the views.
ok_is : {E : Type 0} (c : Result (Unit {0}) E) → is_ok c ≡ true → c ≡ Ok tt
ok_is (Ok x) h = refl
ok_is (Err e) h = cc

then_room : {E : Type 0} (full : Bool) (e : E) (c : Result (Unit {0}) E) → full ≡ false → (c >> refuse_if full e) ≡ c
then_room full e (Ok x) h = ap (λ b. refuse_if b e) h
then_room full e (Err refused) h = refl

pub recast_goes_on : (l later : Lineage) (r : Recast) → recast_checked l r ≡ Ok tt → columns_of later ≡ columns_of l → epoch_of later ≡ epoch_of l → recast_checked later r ≡ views_kept later.views r
recast_goes_on l later r h columns epoch =
    let own = passed_first (columns_checked (columns_of l) r) _ (ap is_ok h) in
    let views = passed_first (views_kept l.views r) _ own.1 in
    let there : columns_checked (columns_of later) r ≡ Ok tt = ap (λ s. columns_checked s r) columns ∙ ok_is (columns_checked (columns_of l) r) own.0 in
    let room : nat_le max_changes (epoch_of later) ≡ false = ap (nat_le max_changes) epoch ∙ passed_last (nat_le max_changes (epoch_of l)) _ views.1 in
    ap (λ c. c >> (views_kept later.views r >> refuse_if (nat_le max_changes (epoch_of later)) EpochsFull)) there
    ∙ then_room (nat_le max_changes (epoch_of later)) EpochsFull (views_kept later.views r) room
