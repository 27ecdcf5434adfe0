-- Tables that are recast.
use Rattle.std.proofs.Common.{◌≡◌, ℕ, Option, Some, None, Result, Ok, Err, refl, ◌∙◌, ap}
use Rattle.std.specs.Prelude.{◌≢◌}
use Rattle.std.specs.List.{list_all}
use Rattle.std.specs.Option.{ok_or}
use Rattle.mesa_list.specs.Checks.{◌>>=◌, ◌>>◌, refuse_unless, refused_as}
use Rattle.mesa_schema.specs.declared.recasts.RecastError.{RecastError}
use Rattle.mesa_schema.specs.declared.recasts.RecastError.TheVariants as recast
use Rattle.mesa_model.specs.mesa_columns.declared.views.ViewError.{ViewError}
use Rattle.mesa_model.specs.mesa_columns.declared.views.ViewError.TheVariants as view
use Rattle.mesa_schema.specs.Changes.{Lineage, columns_of}
use Rattle.mesa_model.specs.mesa_columns.Columns.{key_names, value_names}
use Rattle.mesa_model.specs.mesa_columns.Names.{has_name}
use Rattle.mesa_schema.specs.Recasts.{Recast, choice_refusal, recast_checked}
use Rattle.mesa_schema.specs.Views.{choice_checked}
use Rattle.mesa_model.specs.declared.commands.RecastWords.{RecastWords}
use Rattle.mesa_model.specs.declared.replies.Refusal.{Refusal}
use Rattle.mesa_model.specs.declared.replies.Refusal.TheVariants as no
use Rattle.mesa_model.specs.declared.replies.Reply.{Reply}
use Rattle.mesa_model.specs.Refusals.{no_such_table, recast_refusal, refuse_closed, view_refusal}
use Rattle.mesa_model.specs.Relations.{table_number}
use Rattle.mesa_model.specs.Tables.{recast_asked, recast_reply, recast_table, with_recast}
use Rattle.mesa_model.specs.Warehouse.{Warehouse, table_at}
use Rattle.mesa_binding.specs.declared.failure.Failure.{Failure}
use Rattle.mesa_binding.specs.declared.failure.Failure.TheVariants.{Memory, Refused}
use Rattle.mesa_binding.specs.Told.{IsDue, recast_failure}
use Rattle.mesa_binding.proofs.Viewings.{choice_missing}

-- ---- the columns that are asked

-- a choice is refused alike by a view and by a recast
refused_alike : (e : ViewError) → recast_refusal (choice_refusal e) ≡ view_refusal e
refused_alike view.NoColumn = refl
refused_alike view.NoKey = refl
refused_alike view.NoValue = refl
refused_alike view.NameTwice = refl
refused_alike (view.ReplaceInView column) = refl
refused_alike view.Memory = refl

-- the first rule that is broken
first_broken : (c : Result (Unit {0}) ViewError) (rest last : Result (Unit {0}) RecastError) (r : Refusal) → refused_as view_refusal c ≡ Err r → refused_as recast_refusal ((refused_as choice_refusal c >> rest) >> last) ≡ Err r
first_broken (Ok x) rest last r due = absurd (cc)
first_broken (Err e) rest last r due = ap Err (refused_alike e) ∙ due

second_broken : (a b : Result (Unit {0}) ViewError) (rest last : Result (Unit {0}) RecastError) (r : Refusal) → a ≡ Ok tt → refused_as view_refusal b ≡ Err r → refused_as recast_refusal ((refused_as choice_refusal a >> (refused_as choice_refusal b >> rest)) >> last) ≡ Err r
second_broken a b rest last r passed due = ap (λ c. refused_as recast_refusal ((refused_as choice_refusal c >> (refused_as choice_refusal b >> rest)) >> last)) passed ∙ first_broken b rest last r due

pub keys_due : (l : Lineage) (r : Recast) (failure : Failure) → IsDue (refused_as view_refusal (choice_checked (key_names (columns_of l)) view.NoKey r.keys)) failure → IsDue (refused_as recast_refusal (recast_checked l r)) failure
keys_due l r Memory due = tt
keys_due l r (Refused e) due = first_broken (choice_checked (key_names (columns_of l)) view.NoKey r.keys) _ _ e due

pub values_due : (l : Lineage) (r : Recast) (failure : Failure) → choice_checked (key_names (columns_of l)) view.NoKey r.keys ≡ Ok tt → IsDue (refuse_unless (list_all (λ w. has_name w (value_names (columns_of l))) r.values) no.NoColumn) failure
    → IsDue (refused_as recast_refusal (recast_checked l r)) failure
values_due l r Memory passed due = tt
values_due l r (Refused e) passed due =
    second_broken (choice_checked (key_names (columns_of l)) view.NoKey r.keys) (choice_checked (value_names (columns_of l)) view.NoValue r.values) _ _ e passed (choice_missing (value_names (columns_of l)) view.NoValue r.values (Refused e) due)

pub recast_due : (checked : Result (Unit {0}) RecastError) (error : RecastError) → (error ≢ recast.Memory → checked ≡ Err error) → IsDue (refused_as recast_refusal checked) (recast_failure error)
recast_due checked recast.Memory is = tt
recast_due checked recast.NoColumn is = ap (refused_as recast_refusal) (is (λ e. cc))
recast_due checked recast.NoKey is = ap (refused_as recast_refusal) (is (λ e. cc))
recast_due checked recast.NoValue is = ap (refused_as recast_refusal) (is (λ e. cc))
recast_due checked recast.NameTwice is = ap (refused_as recast_refusal) (is (λ e. cc))
recast_due checked (recast.ReplaceGroup column) is = ap (refused_as recast_refusal) (is (λ e. cc))
recast_due checked (recast.InView v) is = ap (refused_as recast_refusal) (is (λ e. cc))
recast_due checked recast.EpochsFull is = ap (refused_as recast_refusal) (is (λ e. cc))

-- ---- what recasting a table comes to, by each of its checks

module _ (w : Warehouse) (opened : w.closed ≡ None) (words : RecastWords) where
  decided : Option ℕ → Result (Warehouse × Reply) Refusal
  decided found = ok_or found no_such_table >>= (λ number. refused_as recast_refusal (recast_checked (table_at w.store number).lineage (recast_asked words)) >> Ok (with_recast w number (recast_asked words), recast_reply (table_at w.store number)))

  made_by : recast_table w words ≡ decided (table_number w.store words.table)
  unfolding decided
  made_by = ap (λ o. refuse_closed o >> decided (table_number w.store words.table)) opened

  pub recast_nowhere : table_number w.store words.table ≡ None → recast_table w words ≡ Err no_such_table
  unfolding decided
  recast_nowhere found = made_by ∙ ap decided found

  pub recast_refused : (number : ℕ) (failure : Failure) → table_number w.store words.table ≡ Some number → IsDue (refused_as recast_refusal (recast_checked (table_at w.store number).lineage (recast_asked words))) failure → IsDue (recast_table w words) failure
  unfolding decided
  recast_refused number Memory found due = tt
  recast_refused number (Refused r) found due = made_by ∙ ap decided found ∙ ap (λ c. c >> Ok (with_recast w number (recast_asked words), recast_reply (table_at w.store number))) due

  pub recast_done : (number : ℕ) → table_number w.store words.table ≡ Some number → recast_checked (table_at w.store number).lineage (recast_asked words) ≡ Ok tt → recast_table w words ≡ Ok (with_recast w number (recast_asked words), recast_reply (table_at w.store number))
  unfolding decided
  recast_done number found checked = made_by ∙ ap decided found ∙ ap (λ c. refused_as recast_refusal c >> Ok (with_recast w number (recast_asked words), recast_reply (table_at w.store number))) checked
