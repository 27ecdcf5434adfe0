-- Schemas that are changed.
use Rattle.std.proofs.Common.{◌≡◌, ℕ, List, Bool, true, false, Option, Some, None, Result, Ok, Err, ◌∙◌, ap, ◌+◌}
use Rattle.std.specs.Prelude.{◌≢◌}
use Rattle.std.specs.Option.{ok_or}
use Rattle.mesa_list.specs.Checks.{◌>>=◌, ◌>>◌, refuse_unless, refused_as}
use Rattle.mesa_model.specs.mesa_columns.declared.changes.Change.{Change}
use Rattle.mesa_model.specs.mesa_columns.declared.changes.Change.TheVariants as change
use Rattle.mesa_model.specs.mesa_columns.declared.changes.ChangeError.{ChangeError}
use Rattle.mesa_model.specs.mesa_columns.declared.changes.ChangeError.TheVariants as error
use Rattle.mesa_schema.specs.Changes.{Lineage, change_checked, columns_of, epoch_of}
use Rattle.mesa_model.specs.mesa_columns.Columns.{value_names}
use Rattle.mesa_model.specs.mesa_columns.Names.{has_name}
use Rattle.mesa_model.specs.declared.commands.AlterWords.{AlterWords}
use Rattle.mesa_model.specs.declared.commands.ChangeWords.{ChangeWords}
use Rattle.mesa_model.specs.declared.commands.ChangeWords.TheVariants as words
use Rattle.mesa_model.specs.declared.replies.Refusal.{Refusal}
use Rattle.mesa_model.specs.declared.replies.Refusal.TheVariants as no
use Rattle.mesa_model.specs.declared.replies.Reply.{Reply}
use Rattle.mesa_model.specs.declared.replies.Reply.TheVariants as reply
use Rattle.mesa_model.specs.Refusals.{change_refusal, no_such_table, refuse_closed}
use Rattle.mesa_model.specs.Relations.{table_number}
use Rattle.mesa_model.specs.Tables.{alter_table, change_asked, changed_name, table_changed}
use Rattle.mesa_model.specs.Warehouse.{Warehouse, table_at, with_table}
use Rattle.mesa_binding.specs.declared.failure.Failure.{Failure}
use Rattle.mesa_binding.specs.declared.failure.Failure.TheVariants.{Memory, Refused}
use Rattle.mesa_binding.specs.Asked.{change_allowed}
use Rattle.mesa_binding.specs.Told.{IsDue, change_failure}

-- ---- what altering a table comes to, by each of its checks

-- the warehouse with the schema of the table of a number changed, and the reply
abbrev pub altered : Warehouse → AlterWords → ℕ → Change → Warehouse × Reply
altered w words number c = (with_table w number (table_changed (table_at w.store number) c), reply.Altered words.table (epoch_of (table_at w.store number).lineage + 1))

-- a refusal comes whatever else a change comes to
refused_first : {A : Type 0} (done : Change → A) (c : Change) (checked : Result (Unit {0}) Refusal) (r : Refusal) → (checked >> Ok c) ≡ Err r → (checked >> Ok (done c)) ≡ Err r
refused_first done c (Ok x) r e = absurd (cc)
refused_first done c (Err q) r e = let same : q ≡ r = cc in ap Err same

refused_any : {A : Type 0} (done : Change → A) (check : Change → Result (Unit {0}) Refusal) (asked : Result Change Refusal) (r : Refusal) → (asked >>= (λ c. check c >> Ok c)) ≡ Err r → (asked >>= (λ c. check c >> Ok (done c))) ≡ Err r
refused_any done check (Ok c) r e = refused_first done c (check c) r e
refused_any done check (Err q) r e = let same : q ≡ r = cc in ap Err same

module _ (w : Warehouse) (opened : w.closed ≡ None) (words : AlterWords) where
  decided : Option ℕ → Result (Warehouse × Reply) Refusal
  decided found =
      ok_or found no_such_table >>= (λ number. change_asked (columns_of (table_at w.store number).lineage) words.change
      >>= (λ c. refused_as (change_refusal (changed_name c)) (change_checked (table_at w.store number).lineage c) >> Ok (altered w words number c)))

  altered_by : alter_table w words ≡ decided (table_number w.store words.table)
  unfolding decided
  altered_by = ap (λ o. refuse_closed o >> decided (table_number w.store words.table)) opened

  pub alter_nowhere : table_number w.store words.table ≡ None → alter_table w words ≡ Err no_such_table
  unfolding decided
  alter_nowhere none = altered_by ∙ ap decided none

  pub alter_refused : (number : ℕ) (failure : Failure) → table_number w.store words.table ≡ Some number → IsDue (change_allowed (table_at w.store number).lineage words.change) failure → IsDue (alter_table w words) failure
  unfolding decided
  alter_refused number Memory found due = tt
  alter_refused number (Refused r) found due =
      let l = (table_at w.store number).lineage in
      altered_by ∙ ap decided found ∙ refused_any (altered w words number) (λ c. refused_as (change_refusal (changed_name c)) (change_checked l c)) (change_asked (columns_of l) words.change) r due

  pub alter_done : (number : ℕ) (c : Change) → table_number w.store words.table ≡ Some number → change_asked (columns_of (table_at w.store number).lineage) words.change ≡ Ok c → change_checked (table_at w.store number).lineage c ≡ Ok tt → alter_table w words ≡ Ok (altered w words number c)
  unfolding decided
  alter_done number c found asked checked =
      let l = (table_at w.store number).lineage in
      altered_by ∙ ap decided found
      ∙ ap (λ r. r >>= (λ d. refused_as (change_refusal (changed_name d)) (change_checked l d) >> Ok (altered w words number d))) asked
      ∙ ap (λ r. refused_as (change_refusal (changed_name c)) r >> Ok (altered w words number c)) checked

-- ---- why a change isn't made

unmade : (l : Lineage) (asked : ChangeWords) (c : Change) (e : ChangeError) → change_asked (columns_of l) asked ≡ Ok c → change_checked l c ≡ Err e → change_allowed l asked ≡ Err (change_refusal (changed_name c) e)
unmade l asked c e is checked =
    ap (λ r. r >>= (λ d. refused_as (change_refusal (changed_name d)) (change_checked l d) >> Ok d)) is
    ∙ ap (λ r. refused_as (change_refusal (changed_name c)) r >> Ok c) checked

pub change_due : (l : Lineage) (asked : ChangeWords) (c : Change) (e : ChangeError) → change_asked (columns_of l) asked ≡ Ok c → (e ≢ error.Memory → change_checked l c ≡ Err e) → IsDue (change_allowed l asked) (change_failure (changed_name c) e)
change_due l asked c error.Memory is checked = tt
change_due l asked c error.NameTwice is checked = unmade l asked c error.NameTwice is (checked (λ e. cc))
change_due l asked c error.NoColumn is checked = unmade l asked c error.NoColumn is (checked (λ e. cc))
change_due l asked c error.BadDefault is checked = unmade l asked c error.BadDefault is (checked (λ e. cc))
change_due l asked c error.LastValue is checked = unmade l asked c error.LastValue is (checked (λ e. cc))
change_due l asked c (error.InView view) is checked = unmade l asked c (error.InView view) is (checked (λ e. cc))
change_due l asked c error.TooManyColumns is checked = unmade l asked c error.TooManyColumns is (checked (λ e. cc))
change_due l asked c error.EpochsFull is checked = unmade l asked c error.EpochsFull is (checked (λ e. cc))

-- what isn't asked isn't made
pub unasked : (l : Lineage) (asked : ChangeWords) (failure : Failure) → IsDue (change_asked (columns_of l) asked) failure → IsDue (change_allowed l asked) failure
unasked l asked Memory due = tt
unasked l asked (Refused r) due = ap (λ q. q >>= (λ c. refused_as (change_refusal (changed_name c)) (change_checked l c) >> Ok c)) due

no_column : (there : Bool) (rest full : Result (Unit {0}) ChangeError) (name : List ℕ) (r : Refusal) → refuse_unless there no.NoColumn ≡ Err r
    → (refused_as (change_refusal name) ((refuse_unless there error.NoColumn >> rest) >> full) >> Ok (change.DropValue name)) ≡ Err r
no_column true rest full name r e = absurd (cc)
no_column false rest full name r e = let same : no.NoColumn ≡ r = cc in ap Err same

-- a column that isn't there can't go
pub drop_missing : (l : Lineage) (name : List ℕ) (failure : Failure) → IsDue (refuse_unless (has_name name (value_names (columns_of l))) no.NoColumn) failure → IsDue (change_allowed l (words.DropValue name)) failure
drop_missing l name Memory due = tt
drop_missing l name (Refused r) due = no_column (has_name name (value_names (columns_of l))) _ _ name r due
