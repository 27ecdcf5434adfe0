-- What the rules say of every warehouse with the catalogue.
use Rattle.std.proofs.Common.{◌≡◌, ◌≤◌, ◌<◌, ◌+◌, ℕ, List, length, map, Bool, true, false, Option, None, Some, Ok, Err, ok_or, refl, sym, ◌∙◌, ap, subst, arith}
use Rattle.std.specs.Prelude.{flat_map, is_some}
use Rattle.std.proofs.lemmas.Bool.{le-leb}
use Rattle.mesa_list.specs.Checks.{◌>>=◌, ◌>>◌, refuse_unless, refused_as}
use Rattle.mesa_catalog.specs.mesa_columns.declared.changes.Change.{Change}
use Rattle.mesa_schema.specs.Changes.{Lineage, change_checked, columns_of, epoch_of}
use Rattle.mesa_catalog.specs.mesa_columns.Names.{has_name, is_name}
use Rattle.mesa_catalog.specs.mesa_columns.Schema.{is_schema}
use Rattle.mesa_schema.specs.Views.{max_views}
use Rattle.mesa_record.specs.declared.record.Record.TheVariants as record_of
use Rattle.mesa_model.specs.declared.commands.AlterWords.{AlterWords}
use Rattle.mesa_model.specs.declared.commands.ChangeWords.{ChangeWords}
use Rattle.mesa_model.specs.declared.commands.TableWords.{TableWords}
use Rattle.mesa_model.specs.declared.commands.ViewWords.{ViewWords}
use Rattle.mesa_model.specs.declared.replies.Refusal.{Refusal}
use Rattle.mesa_model.specs.declared.replies.Refusal.TheVariants as no
use Rattle.mesa_model.specs.declared.replies.Reply.{Reply}
use Rattle.mesa_model.specs.declared.replies.Reply.TheVariants as reply
use Rattle.mesa_model.specs.declared.replies.SchemaFault.TheVariants as fault
use Rattle.mesa_model.specs.Refusals.{bad_schema, change_refusal, no_such_table, refuse_closed}
use Rattle.mesa_model.specs.Relations.{table_number}
use Rattle.mesa_model.specs.Tables.{alter_table, change_asked, changed_name, columns_asked, make_table, make_view}
use Rattle.mesa_model.specs.Versions.{expire_all, expire_table, store_from, table_from, version_checked}
use Rattle.mesa_model.specs.Warehouse.{Warehouse, max_tables, table_at, with_table}
use Rattle.mesa_catalog.specs.mesa_store_spec.Catalog.{TableMeta, Catalog, no_meta, meta_at}
use Rattle.mesa_catalog.specs.mesa_store_spec.Fitting.{names_in}
use Rattle.mesa_catalog.specs.mesa_catalog_records.Names.{relation_of}
use Rattle.mesa_catalog.proofs.mesa_catalog_records.Relations.{known_name}
use Rattle.mesa_binding.specs.declared.failure.Failure.{Failure}
use Rattle.mesa_binding.specs.declared.failure.Failure.TheVariants.{Memory, Refused}
use Rattle.mesa_binding.specs.Asked.{change_allowed, columns_checked, more_views_checked}
use Rattle.mesa_binding.specs.Told.{IsDue}
use Rattle.mesa_binding.proofs.Alterings.{alter_done, alter_nowhere, alter_refused, altered}
use Rattle.mesa_binding.proofs.Makings.{room_left, table_bad, table_done, table_full, table_made, table_taken, table_unnamed}
use Rattle.mesa_binding.proofs.Viewings.{view_bad, view_done, view_made, view_nowhere, view_taken, view_unnamed}
use Rattle.mesa_validate.specs.declared.ruled.Ruled.{Ruled}
use Rattle.mesa_validate.specs.Ruled.{Doing, IsRefused, IsRuled}
use Rattle.mesa_validate.specs.Seen.{HasCatalog, number_of}
use Rattle.std.proofs.Math.ListN.{get_or-map}
use Rattle.mesa_binding.proofs.mesa_columns.Places.{place_named}
use Rattle.mesa_validate.proofs.Fits.{alter_fit, alter_rules, expire_fit, expire_table_fit, schema_checked_is, table_fit, table_rules, view_fit, view_passed, view_rules}
use Rattle.mesa_validate.proofs.Seen.{count_there, lineage_there, number_there, oldest_there, taken_by}

-- a relation of a name stands in the catalogue just where the name is taken
pub free_there : (c : Catalog) (name : List ℕ) (found : Bool) → is_some (relation_of c name) ≡ found → has_name name (flat_map names_in c.tables) ≡ found
free_there c name found e = sym (known_name 0 name c.tables) ∙ e

-- what is done, told by the reply that stands for it
done_as : (f : Doing) (w : Warehouse) (made : Warehouse × Reply) (tells : Reply) → f w ≡ Ok made → tells ≡ made.1 → (after : Warehouse) × (f w ≡ Ok (after, tells))
done_as f w made tells done same = (made.0, done ∙ (λ j. Ok (made.0, sym same j)))

-- ---- a table

module _ (c : Catalog) (words : TableWords) where
  abbrev tabling : Doing
  tabling = λ w. make_table w words

  pub unnamed_table : (failure : Failure) → IsDue (refuse_unless (is_name words.table) (bad_schema fault.BadName)) failure → IsRefused c tabling failure
  unnamed_table failure due w has = table_unnamed w has.opened words failure due

  module _ (named : is_name words.table ≡ true) where
    pub taken_table : is_some (relation_of c words.table) ≡ true → IsRefused c tabling (Refused no.TableExists)
    taken_table taken w has = table_taken w has.opened words named (taken_by c w words.table has ∙ taken)

    module _ (free : is_some (relation_of c words.table) ≡ false) where
      pub bad_table : (failure : Failure) → IsDue (columns_checked (columns_asked words)) failure → IsRefused c tabling failure
      bad_table failure due w has = table_bad w has.opened words failure named (taken_by c w words.table has ∙ free) due

      module _ (checked : columns_checked (columns_asked words) ≡ Ok tt) where
        pub full_table : max_tables ≤ length c.tables → IsRefused c tabling (Refused (no.TablesFull max_tables))
        full_table full w has = table_full w has.opened words named (taken_by c w words.table has ∙ free) checked (le-leb max_tables (length w.store.tables) (omega (arith, full, count_there c w has)))

        pub ruled_table : (r : Ruled) → length c.tables < max_tables → r.writes ≡ record_of.Table words.table (columns_asked words).keys (columns_asked words).values → r.tells ≡ reply.Table words.table → IsRuled c tabling r
        ruled_table r room writes tells =
            let schema = schema_checked_is (columns_asked words) checked in
            record {
              rules = rw writes (table_rules words.table (columns_asked words) schema);
              fit = rw writes (table_fit c words.table (columns_asked words) (free_there c words.table false free) schema room);
              does = λ w has. done_as tabling w (table_made w words) r.tells
                  (table_done w has.opened words named (taken_by c w words.table has ∙ free) checked (room_left (length w.store.tables) (omega (arith, room, count_there c w has)))) tells;
            }

-- ---- a view

module _ (c : Catalog) (words : ViewWords) where
  abbrev viewing : Doing
  viewing = λ w. make_view w words

  pub unnamed_view : (failure : Failure) → IsDue (refuse_unless (is_name words.view) (bad_schema fault.BadName)) failure → IsRefused c viewing failure
  unnamed_view failure due w has = view_unnamed w has.opened words failure due

  module _ (named : is_name words.view ≡ true) where
    pub taken_view : is_some (relation_of c words.view) ≡ true → IsRefused c viewing (Refused no.TableExists)
    taken_view taken w has = view_taken w has.opened words named (taken_by c w words.view has ∙ taken)

    module _ (free : is_some (relation_of c words.view) ≡ false) where
      pub nowhere_view : number_of c words.table ≡ None → IsRefused c viewing (Refused no_such_table)
      nowhere_view none w has = view_nowhere w has.opened words named (taken_by c w words.view has ∙ free) (number_there c w words.table has ∙ none)

      module _ (number : ℕ) (found : number_of c words.table ≡ Some number) where
        pub bad_view : (failure : Failure) → IsDue (more_views_checked (meta_at c number).lineage words) failure → IsRefused c viewing failure
        bad_view failure due w has =
            view_bad w has.opened words number failure named (taken_by c w words.view has ∙ free) (number_there c w words.table has ∙ found)
            (subst (λ (l : Lineage). IsDue (more_views_checked l words) failure) (sym (lineage_there c w number has)) due)

        pub ruled_view : (r : Ruled) → number < length c.tables → is_schema (columns_of (meta_at c number).lineage) ≡ true → more_views_checked (meta_at c number).lineage words ≡ Ok tt → length (meta_at c number).lineage.views < max_views
            → r.writes ≡ record_of.View number words.view words.keys words.values → r.tells ≡ reply.View words.view → IsRuled c viewing r
        ruled_view r there schema checked room writes tells =
            let passed = view_passed (meta_at c number).lineage words checked in
            record {
              rules = rw writes (view_rules (columns_of (meta_at c number).lineage) number words.view words.keys words.values schema passed);
              fit = rw writes (view_fit c number words.view words.keys words.values there (free_there c words.view false free) passed room);
              does = λ w has. done_as viewing w (view_made w words number) r.tells
                  (view_done w has.opened words number named (taken_by c w words.view has ∙ free) (number_there c w words.table has ∙ found)
                  (ap (λ (l : Lineage). more_views_checked l words) (lineage_there c w number has) ∙ checked)) tells;
            }

-- ---- a change

module _ (c : Catalog) (words : AlterWords) where
  abbrev altering : Doing
  altering = λ w. alter_table w words

  pub nowhere_change : number_of c words.table ≡ None → IsRefused c altering (Refused no_such_table)
  nowhere_change none w has = alter_nowhere w has.opened words (number_there c w words.table has ∙ none)

  module _ (number : ℕ) (found : number_of c words.table ≡ Some number) where
    pub refused_change : (failure : Failure) → IsDue (change_allowed (meta_at c number).lineage words.change) failure → IsRefused c altering failure
    refused_change failure due w has =
        alter_refused w has.opened words number failure (number_there c w words.table has ∙ found)
        (subst (λ (l : Lineage). IsDue (change_allowed l words.change) failure) (sym (lineage_there c w number has)) due)

    pub ruled_change : (r : Ruled) (change : Change) → number < length c.tables → change_asked (columns_of (meta_at c number).lineage) words.change ≡ Ok change → change_checked (meta_at c number).lineage change ≡ Ok tt
        → r.writes ≡ record_of.Alter number change → r.tells ≡ reply.Altered words.table (epoch_of (meta_at c number).lineage + 1) → IsRuled c altering r
    ruled_change r change there asked checked writes tells = record {
      rules = rw writes (alter_rules (meta_at c number).lineage number change checked);
      fit = rw writes (alter_fit c number change there checked);
      does = λ w has. (let same = lineage_there c w number has in done_as altering w (altered w words number change) r.tells
          (alter_done w has.opened words number change (number_there c w words.table has ∙ found) (ap (λ (l : Lineage). change_asked (columns_of l) words.change) same ∙ asked) (ap (λ (l : Lineage). change_checked l change) same ∙ checked))
          (tells ∙ ap (λ (l : Lineage). reply.Altered words.table (epoch_of l + 1)) (sym same)));
    }

-- what the words ask is looked at first, and then whether the rules allow it
pub change_due : (l : Lineage) (asked : ChangeWords) (change : Change) (failure : Failure) → change_asked (columns_of l) asked ≡ Ok change → IsDue (refused_as (change_refusal (changed_name change)) (change_checked l change)) failure → IsDue (change_allowed l asked) failure
change_due l asked change Memory is due = tt
change_due l asked change (Refused r) is due = ap (λ q. q >>= (λ c. refused_as (change_refusal (changed_name c)) (change_checked l c) >> Ok c)) is ∙ ap (λ q. q >> Ok change) due

-- a table that is found by a name has it
pub meta_named : (c : Catalog) (name : List ℕ) (number : ℕ) → number_of c name ≡ Some number → (meta_at c number).name ≡ name
meta_named c name number found = sym (get_or-map (λ (t : TableMeta). t.name) c.tables number no_meta) ∙ (place_named name (map (λ (t : TableMeta). t.name) c.tables) number no_meta.name found).1

-- ---- an expiry

pub ruled_expiry : (c : Catalog) (version : ℕ) (r : Ruled) → c.floor ≤ version → version < c.next → ((w : Warehouse) → HasCatalog c w → version_checked w w.store.floor version ≡ Ok tt) → r.writes ≡ record_of.Expire version → r.tells ≡ reply.Expired None version → IsRuled c (λ w. expire_all w version) r
ruled_expiry c version r low high checked writes tells = record {
  rules = rw writes refl;
  fit = rw writes (expire_fit c version low high);
  does = λ w has. (let made : Warehouse × Reply = (record w { store = store_from w.store version }, reply.Expired None version) in
      done_as (λ w. expire_all w version) w made r.tells (ap (λ o. refuse_closed o >> (version_checked w w.store.floor version >> Ok made)) has.opened ∙ ap (λ q. q >> Ok made) (checked w has)) tells);
}

module _ (c : Catalog) (name : List ℕ) (version : ℕ) where
  abbrev expiring : Doing
  expiring = λ w. expire_table w name version

  abbrev expired_in : Warehouse → ℕ → Warehouse × Reply
  expired_in w number = (with_table w number (table_from version (table_at w.store number)), reply.Expired (Some name) version)

  expired_by : (w : Warehouse) (found : Option ℕ) → HasCatalog c w → table_number w.store name ≡ found → expire_table w name version ≡ (ok_or found no_such_table >>= (λ number. version_checked w (table_at w.store number).oldest version >> Ok (expired_in w number)))
  expired_by w found has is = λ j. refuse_closed (has.opened j) >> (ok_or (is j) no_such_table >>= (λ number. version_checked w (table_at w.store number).oldest version >> Ok (expired_in w number)))

  pub nowhere_expired : number_of c name ≡ None → IsRefused c expiring (Refused no_such_table)
  nowhere_expired none w has = expired_by w None has (number_there c w name has ∙ none)

  module _ (number : ℕ) (found : number_of c name ≡ Some number) where
    expiry_of : (w : Warehouse) → HasCatalog c w → expire_table w name version ≡ (version_checked w (meta_at c number).oldest version >> Ok (expired_in w number))
    expiry_of w has = expired_by w (Some number) has (number_there c w name has ∙ found) ∙ ap (λ o. version_checked w o version >> Ok (expired_in w number)) (oldest_there c w number has)

    pub refused_expiry : (refusal : Refusal) → ((w : Warehouse) → HasCatalog c w → version_checked w (meta_at c number).oldest version ≡ Err refusal) → IsRefused c expiring (Refused refusal)
    refused_expiry refusal checked w has = expiry_of w has ∙ ap (λ q. q >> Ok (expired_in w number)) (checked w has)

    pub ruled_table_expiry : (r : Ruled) → number < length c.tables → (meta_at c number).oldest ≤ version → version < c.next → ((w : Warehouse) → HasCatalog c w → version_checked w (meta_at c number).oldest version ≡ Ok tt)
        → r.writes ≡ record_of.ExpireTable number version → r.tells ≡ reply.Expired (Some name) version → IsRuled c expiring r
    ruled_table_expiry r there low high checked writes tells = record {
      rules = rw writes refl;
      fit = rw writes (expire_table_fit c number version there low high);
      does = λ w has. done_as expiring w (expired_in w number) r.tells (expiry_of w has ∙ ap (λ q. q >> Ok (expired_in w number)) (checked w has)) tells;
    }
