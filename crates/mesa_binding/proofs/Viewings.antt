-- Views that are made.
use Rattle.std.proofs.Common.{◌≡◌, ◌<◌, arith, ℕ, List, length, get_or, Bool, true, false, Option, Some, None, Result, Ok, Err, refl, ◌∙◌, ap}
use Rattle.std.specs.Prelude.{◌==◌, nat_le, is_some, ◌≢◌}
use Rattle.std.specs.List.{list_all}
use Rattle.std.specs.Option.{ok_or}
use Rattle.std.proofs.lemmas.Bool.{leb-true}
use Rattle.std.proofs.lemmas.List.Folds.{list_all_at}
use Rattle.mesa_list.specs.Checks.{◌>>=◌, ◌>>◌, refuse_if, refuse_unless, refused_as}
use Rattle.mesa_model.specs.mesa_columns.declared.views.ViewError.{ViewError}
use Rattle.mesa_model.specs.mesa_columns.declared.views.ViewError.TheVariants as view
use Rattle.mesa_schema.specs.Changes.{Lineage, columns_of}
use Rattle.mesa_model.specs.mesa_columns.Columns.{Columns, value_names}
use Rattle.mesa_model.specs.mesa_columns.Names.{has_name, is_name, repeated}
use Rattle.mesa_schema.specs.Views.{choice_checked, chosen_values_checked, max_views, view_checked, with_view}
use Rattle.mesa_model.specs.declared.commands.ViewWords.{ViewWords}
use Rattle.mesa_model.specs.declared.replies.Refusal.{Refusal}
use Rattle.mesa_model.specs.declared.replies.Refusal.TheVariants as no
use Rattle.mesa_model.specs.declared.replies.SchemaFault.TheVariants as fault
use Rattle.mesa_model.specs.declared.replies.Reply.{Reply}
use Rattle.mesa_model.specs.declared.replies.Reply.TheVariants as reply
use Rattle.mesa_model.specs.Refusals.{bad_schema, no_such_table, refuse_closed, view_refusal}
use Rattle.mesa_model.specs.Relations.{is_taken, table_number}
use Rattle.mesa_model.specs.Tables.{make_view}
use Rattle.mesa_model.specs.Warehouse.{Store, Table, Warehouse, table_at, with_table}
use Rattle.mesa_binding.specs.declared.failure.Failure.{Failure}
use Rattle.mesa_binding.specs.declared.failure.Failure.TheVariants.{Memory, Refused}
use Rattle.mesa_binding.specs.Asked.{more_views_checked}
use Rattle.mesa_binding.specs.Told.{IsDue, view_failure}

-- ---- what making a view comes to, by each of its checks

-- the table of a number with the view that is asked
abbrev pub table_viewed : Store → ViewWords → ℕ → Table
table_viewed s words number = record (table_at s number) { lineage = with_view (table_at s number).lineage (record { name = words.view; keys = words.keys; values = words.values }) }

-- the warehouse with it, and the reply
abbrev pub view_made : Warehouse → ViewWords → ℕ → Warehouse × Reply
view_made w words number = (with_table w number (table_viewed w.store words number), reply.View words.view)

module _ (w : Warehouse) (opened : w.closed ≡ None) (words : ViewWords) where
  decided : Bool → Bool → Option ℕ → Result (Warehouse × Reply) Refusal
  decided named taken found =
      refuse_unless named (bad_schema fault.BadName)
      >> (refuse_if taken no.TableExists
      >> (ok_or found no_such_table >>= (λ number. more_views_checked (table_at w.store number).lineage words >> Ok (view_made w words number))))

  made_by : make_view w words ≡ decided (is_name words.view) (is_taken w.store words.view) (table_number w.store words.table)
  unfolding decided
  made_by = ap (λ o. refuse_closed o >> decided (is_name words.view) (is_taken w.store words.view) (table_number w.store words.table)) opened

  pub view_unnamed : (failure : Failure) → IsDue (refuse_unless (is_name words.view) (bad_schema fault.BadName)) failure → IsDue (make_view w words) failure
  unfolding decided
  view_unnamed Memory due = tt
  view_unnamed (Refused r) due =
      made_by
      ∙ ap (λ c. c >> (refuse_if (is_taken w.store words.view) no.TableExists >> (ok_or (table_number w.store words.table) no_such_table >>= (λ number. more_views_checked (table_at w.store number).lineage words >> Ok (view_made w words number))))) due

  pub view_taken : is_name words.view ≡ true → is_taken w.store words.view ≡ true → make_view w words ≡ Err no.TableExists
  unfolding decided
  view_taken named taken = made_by ∙ (λ j. decided (named j) (taken j) (table_number w.store words.table))

  pub view_nowhere : is_name words.view ≡ true → is_taken w.store words.view ≡ false → table_number w.store words.table ≡ None → make_view w words ≡ Err no_such_table
  unfolding decided
  view_nowhere named taken found = made_by ∙ (λ j. decided (named j) (taken j) (found j))

  pub view_bad : (number : ℕ) (failure : Failure) → is_name words.view ≡ true → is_taken w.store words.view ≡ false → table_number w.store words.table ≡ Some number → IsDue (more_views_checked (table_at w.store number).lineage words) failure → IsDue (make_view w words) failure
  unfolding decided
  view_bad number Memory named taken found due = tt
  view_bad number (Refused r) named taken found due = made_by ∙ (λ j. decided (named j) (taken j) (found j)) ∙ ap (λ c. c >> Ok (view_made w words number)) due

  pub view_done : (number : ℕ) → is_name words.view ≡ true → is_taken w.store words.view ≡ false → table_number w.store words.table ≡ Some number → more_views_checked (table_at w.store number).lineage words ≡ Ok tt → make_view w words ≡ Ok (view_made w words number)
  unfolding decided
  view_done number named taken found checked = made_by ∙ (λ j. decided (named j) (taken j) (found j)) ∙ ap (λ c. c >> Ok (view_made w words number)) checked

-- ---- the columns that it chooses

gone : (there : Bool) (r : Refusal) → refuse_unless there no.NoColumn ≡ Err r → (there ≡ false) × (no.NoColumn ≡ r)
gone true r due = absurd (cc)
gone false r due = (refl, cc)

-- a word that is no column
pub word_missing : (names words : List (List ℕ)) (i : ℕ) (word : List ℕ) (failure : Failure) → i < length words → get_or words i word ≡ word → IsDue (refuse_unless (has_name word names) no.NoColumn) failure
    → IsDue (refuse_unless (list_all (λ w. has_name w names) words) no.NoColumn) failure
word_missing names words i word Memory lt is due = tt
word_missing names words i word (Refused r) lt is due =
    let none = gone (has_name word names) r due in
    ap (λ all. refuse_unless all no.NoColumn) (list_all_at (λ w. has_name w names) words i word lt (ap (λ w. has_name w names) is ∙ none.0)) ∙ ap Err none.1

missing : (all : Bool) (rest : Result (Unit {0}) ViewError) (r : Refusal) → refuse_unless all no.NoColumn ≡ Err r → refused_as view_refusal (refuse_unless all view.NoColumn >> rest) ≡ Err r
missing true rest r e = absurd (cc)
missing false rest r e = e

-- the first rule of a choice
pub choice_missing : (names : List (List ℕ)) (none : ViewError) (words : List (List ℕ)) (failure : Failure) → IsDue (refuse_unless (list_all (λ w. has_name w names) words) no.NoColumn) failure → IsDue (refused_as view_refusal (choice_checked names none words)) failure
choice_missing names none words Memory due = tt
choice_missing names none words (Refused r) due = missing (list_all (λ w. has_name w names) words) (refuse_if (length words == 0) none >> refuse_if (is_some (repeated words)) view.NameTwice) r due

pub view_due : (checked : Result (Unit {0}) ViewError) (error : ViewError) → (error ≢ view.Memory → checked ≡ Err error) → IsDue (refused_as view_refusal checked) (view_failure error)
view_due checked view.Memory is = tt
view_due checked view.NoColumn is = ap (refused_as view_refusal) (is (λ e. cc))
view_due checked view.NoKey is = ap (refused_as view_refusal) (is (λ e. cc))
view_due checked view.NoValue is = ap (refused_as view_refusal) (is (λ e. cc))
view_due checked view.NameTwice is = ap (refused_as view_refusal) (is (λ e. cc))
view_due checked (view.ReplaceInView column) is = ap (refused_as view_refusal) (is (λ e. cc))

-- a check that is refused refuses what comes after it
pub first_due : {D : Type 0} (why : D → Refusal) (checked next : Result (Unit {0}) D) (failure : Failure) → IsDue (refused_as why checked) failure → IsDue (refused_as why (checked >> next)) failure
first_due why checked next Memory due = tt
first_due why (Ok x) next (Refused r) due = absurd (cc)
first_due why (Err e) next (Refused r) due = due

pub next_due : {D : Type 0} (why : D → Refusal) (checked next : Result (Unit {0}) D) (failure : Failure) → checked ≡ Ok tt → IsDue (refused_as why next) failure → IsDue (refused_as why (checked >> next)) failure
next_due why checked next Memory passed due = tt
next_due why checked next (Refused r) passed due = ap (λ c. refused_as why (c >> next)) passed ∙ due

pub values_missing : (s : Columns) (words : List (List ℕ)) (failure : Failure) → IsDue (refuse_unless (list_all (λ w. has_name w (value_names s)) words) no.NoColumn) failure → IsDue (refused_as view_refusal (chosen_values_checked s words)) failure
values_missing s words failure due = first_due view_refusal (choice_checked (value_names s) view.NoValue words) _ failure (choice_missing (value_names s) view.NoValue words failure due)

-- ---- the number of views last

pub choice_due : (l : Lineage) (words : ViewWords) (failure : Failure) → IsDue (refused_as view_refusal (view_checked (columns_of l) words.keys words.values)) failure → IsDue (more_views_checked l words) failure
choice_due l words Memory due = tt
choice_due l words (Refused r) due = ap (λ c. c >> refuse_if (nat_le max_views (length l.views)) (no.TablesFull max_views)) due

pub views_by : (l : Lineage) (words : ViewWords) (full : Bool) → view_checked (columns_of l) words.keys words.values ≡ Ok tt → nat_le max_views (length l.views) ≡ full → more_views_checked l words ≡ refuse_if full (no.TablesFull max_views)
views_by l words full checked is = (λ j. refused_as view_refusal (checked j) >> refuse_if (is j) (no.TablesFull max_views))

pub view_room : (count : ℕ) → count < max_views → nat_le max_views count ≡ false
view_room count below = elim (nat_le max_views count) as (λ b. nat_le max_views count ≡ b → b ≡ false) [ true ↦ λ e. absurd (omega (arith, leb-true max_views count e, below)) | false ↦ λ e. refl ] refl
