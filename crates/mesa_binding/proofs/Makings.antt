-- Tables that are made.
use Rattle.std.proofs.Common.{◌≡◌, ◌<◌, arith, ℕ, List, [], ◌∷◌, ◌++◌, map, length, Bool, true, false, None, Result, Ok, Err, refl, sym, ◌∙◌, ap, append_assoc}
use Rattle.std.specs.Prelude.{◌&&◌, nat_le, is_ok, IsTrue}
use Rattle.std.specs.List.{list_all}
use Rattle.std.proofs.lemmas.Bool.{leb-true}
use Rattle.mesa_list.specs.Checks.{◌>>◌, refuse_if, refuse_unless, refused_as}
use Rattle.mesa_model.specs.mesa_columns.Columns.{Columns, key_names, value_names}
use Rattle.mesa_model.specs.mesa_columns.Names.{is_name}
use Rattle.mesa_model.specs.mesa_columns.Schema.{schema_checked}
use Rattle.mesa_model.specs.mesa_columns.declared.schema.SchemaError.{SchemaError}
use Rattle.mesa_model.specs.mesa_columns.declared.schema.SchemaError.TheVariants as schema
use Rattle.mesa_model.specs.declared.commands.TableWords.{TableWords}
use Rattle.mesa_model.specs.declared.replies.Refusal.{Refusal}
use Rattle.mesa_model.specs.declared.replies.Refusal.TheVariants as no
use Rattle.mesa_model.specs.declared.replies.SchemaFault.TheVariants as fault
use Rattle.mesa_model.specs.declared.replies.Reply.{Reply}
use Rattle.mesa_model.specs.declared.replies.Reply.TheVariants as reply
use Rattle.mesa_model.specs.Refusals.{bad_schema, refuse_closed, schema_refusal}
use Rattle.mesa_model.specs.Relations.{is_taken}
use Rattle.mesa_model.specs.Tables.{columns_asked, make_table, names_are_good, new_table}
use Rattle.mesa_model.specs.Warehouse.{Warehouse, max_tables, with_tables}
use Rattle.mesa_binding.specs.declared.failure.Failure.{Failure}
use Rattle.mesa_binding.specs.declared.failure.Failure.TheVariants.{Memory, Refused}
use Rattle.mesa_binding.specs.Asked.{columns_checked}
use Rattle.mesa_binding.specs.Told.{IsDue, schema_failure}

-- ---- what making a table comes to, by each of its checks

-- the warehouse with the table that is asked, and the reply
abbrev pub table_made : Warehouse → TableWords → Warehouse × Reply
table_made w words = (with_tables w (w.store.tables ++ new_table w words.table (columns_asked words) ∷ []), reply.Table words.table)

decided : Bool → Bool → Result (Unit {0}) Refusal → Bool → Warehouse × Reply → Result (Warehouse × Reply) Refusal
decided named taken columns full done = refuse_unless named (bad_schema fault.BadName) >> (refuse_if taken no.TableExists >> (columns >> (refuse_if full (no.TablesFull max_tables) >> Ok done)))

-- two checks one after another are one
as_one : (good : Bool) (schema : Result (Unit {0}) SchemaError) (rest : Result (Warehouse × Reply) Refusal) → (refuse_unless good (bad_schema fault.BadName) >> (refused_as schema_refusal schema >> rest)) ≡ ((refuse_unless good (bad_schema fault.BadName) >> refused_as schema_refusal schema) >> rest)
as_one true (Ok x) rest = refl
as_one true (Err e) rest = refl
as_one false schema rest = refl

module _ (w : Warehouse) (opened : w.closed ≡ None) (words : TableWords) where
  abbrev asked_columns : Columns
  asked_columns = columns_asked words

  abbrev is_full : Bool
  is_full = nat_le max_tables (length w.store.tables)

  made_by : make_table w words ≡ decided (is_name words.table) (is_taken w.store words.table) (columns_checked asked_columns) is_full (table_made w words)
  unfolding decided
  made_by =
      let room = refuse_if is_full (no.TablesFull max_tables) >> Ok (table_made w words) in
      let each = refuse_unless (names_are_good asked_columns) (bad_schema fault.BadName) >> (refused_as schema_refusal (schema_checked asked_columns) >> room) in
      ap (λ o. refuse_closed o >> (refuse_unless (is_name words.table) (bad_schema fault.BadName) >> (refuse_if (is_taken w.store words.table) no.TableExists >> each))) opened
      ∙ ap (λ r. refuse_unless (is_name words.table) (bad_schema fault.BadName) >> (refuse_if (is_taken w.store words.table) no.TableExists >> r)) (as_one (names_are_good asked_columns) (schema_checked asked_columns) room)

  pub table_done : is_name words.table ≡ true → is_taken w.store words.table ≡ false → columns_checked asked_columns ≡ Ok tt → is_full ≡ false → make_table w words ≡ Ok (table_made w words)
  unfolding decided
  table_done named taken columns full = made_by ∙ (λ j. decided (named j) (taken j) (columns j) (full j) (table_made w words))

  pub table_unnamed : (failure : Failure) → IsDue (refuse_unless (is_name words.table) (bad_schema fault.BadName)) failure → IsDue (make_table w words) failure
  unfolding decided
  table_unnamed Memory due = tt
  table_unnamed (Refused r) due = made_by ∙ ap (λ c. c >> (refuse_if (is_taken w.store words.table) no.TableExists >> (columns_checked asked_columns >> (refuse_if is_full (no.TablesFull max_tables) >> Ok (table_made w words))))) due

  pub table_taken : is_name words.table ≡ true → is_taken w.store words.table ≡ true → make_table w words ≡ Err no.TableExists
  unfolding decided
  table_taken named taken = made_by ∙ (λ j. decided (named j) (taken j) (columns_checked asked_columns) is_full (table_made w words))

  pub table_bad : (failure : Failure) → is_name words.table ≡ true → is_taken w.store words.table ≡ false → IsDue (columns_checked asked_columns) failure → IsDue (make_table w words) failure
  unfolding decided
  table_bad Memory named taken due = tt
  table_bad (Refused r) named taken due = made_by ∙ (λ j. decided (named j) (taken j) (due j) is_full (table_made w words))

  pub table_full : is_name words.table ≡ true → is_taken w.store words.table ≡ false → columns_checked asked_columns ≡ Ok tt → is_full ≡ true → make_table w words ≡ Err (no.TablesFull max_tables)
  unfolding decided
  table_full named taken columns full = made_by ∙ (λ j. decided (named j) (taken j) (columns j) (full j) (table_made w words))

pub room_left : (count : ℕ) → count < max_tables → nat_le max_tables count ≡ false
room_left count below = elim (nat_le max_tables count) as (λ b. nat_le max_tables count ≡ b → b ≡ false) [ true ↦ λ e. absurd (omega (arith, leb-true max_tables count e, below)) | false ↦ λ e. refl ] refl

-- ---- the columns that are asked

first_bad : (keys values : Bool) (schema : Result (Unit {0}) SchemaError) (r : Refusal) → refuse_unless keys (bad_schema fault.BadName) ≡ Err r → (refuse_unless (keys && values) (bad_schema fault.BadName) >> refused_as schema_refusal schema) ≡ Err r
first_bad true values schema r e = absurd (cc)
first_bad false values schema r e = e

second_bad : (keys values : Bool) (schema : Result (Unit {0}) SchemaError) (r : Refusal) → keys ≡ true → refuse_unless values (bad_schema fault.BadName) ≡ Err r → (refuse_unless (keys && values) (bad_schema fault.BadName) >> refused_as schema_refusal schema) ≡ Err r
second_bad keys true schema r good e = absurd (cc)
second_bad false false schema r good e = absurd (cc)
second_bad true false schema r good e = e

pub keys_bad : (s : Columns) (failure : Failure) → IsDue (refuse_unless (list_all is_name (key_names s)) (bad_schema fault.BadName)) failure → IsDue (columns_checked s) failure
keys_bad s Memory due = tt
keys_bad s (Refused r) due = first_bad (list_all is_name (key_names s)) (list_all is_name (value_names s)) (schema_checked s) r due

pub values_bad : (s : Columns) (failure : Failure) → list_all is_name (key_names s) ≡ true → IsDue (refuse_unless (list_all is_name (value_names s)) (bad_schema fault.BadName)) failure → IsDue (columns_checked s) failure
values_bad s Memory keys due = tt
values_bad s (Refused r) keys due = second_bad (list_all is_name (key_names s)) (list_all is_name (value_names s)) (schema_checked s) r keys due

columns_named : (s : Columns) → list_all is_name (key_names s) ≡ true → list_all is_name (value_names s) ≡ true → columns_checked s ≡ refused_as schema_refusal (schema_checked s)
columns_named s keys values = (λ j. refuse_unless (keys j && values j) (bad_schema fault.BadName) >> refused_as schema_refusal (schema_checked s))

pub schema_bad : (s : Columns) (error : SchemaError) → list_all is_name (key_names s) ≡ true → list_all is_name (value_names s) ≡ true → schema_checked s ≡ Err error → IsDue (columns_checked s) (schema_failure error)
schema_bad s schema.Memory keys values e = tt
schema_bad s schema.NoKey keys values e = columns_named s keys values ∙ ap (refused_as schema_refusal) e
schema_bad s schema.NoValue keys values e = columns_named s keys values ∙ ap (refused_as schema_refusal) e
schema_bad s schema.TooManyColumns keys values e = columns_named s keys values ∙ ap (refused_as schema_refusal) e
schema_bad s (schema.NameTwice name) keys values e = columns_named s keys values ∙ ap (refused_as schema_refusal) e

ok_of : (r : Result (Unit {0}) SchemaError) → IsTrue (is_ok r) → r ≡ Ok tt
ok_of (Ok x) p = refl
ok_of (Err e) p = absurd (cc)

pub columns_good : (s : Columns) → list_all is_name (key_names s) ≡ true → list_all is_name (value_names s) ≡ true → IsTrue (is_ok (schema_checked s)) → columns_checked s ≡ Ok tt
columns_good s keys values good = columns_named s keys values ∙ ap (refused_as schema_refusal) (ok_of (schema_checked s) good)

-- one more column is made of its words
pub column_more : {W C : Type 0} (make : W → C) (made : List C) (left rest : List W) (w : W) (all : List C) → left ≡ w ∷ rest → made ++ map make left ≡ all → (made ++ make w ∷ []) ++ map make rest ≡ all
column_more make made left rest w all e before = append_assoc made (make w ∷ []) (map make rest) ∙ sym (ap (λ ws. made ++ map make ws) e) ∙ before

-- one more name keeps the rule of names
pub name_more : {W C : Type 0} (make : W → C) (name : C → List ℕ) (left rest : List W) (w : W) (all : Bool) → left ≡ w ∷ rest → is_name (name (make w)) ≡ true → list_all is_name (map name (map make left)) ≡ all → list_all is_name (map name (map make rest)) ≡ all
name_more make name left rest w all e good before = ap (λ b. b && list_all is_name (map name (map make rest))) (sym good) ∙ sym (ap (λ ws. list_all is_name (map name (map make ws))) e) ∙ before

bad_first : (good others : Bool) (r : Refusal) → refuse_unless good (bad_schema fault.BadName) ≡ Err r → refuse_unless (good && others) (bad_schema fault.BadName) ≡ Err r
bad_first true others r e = absurd (cc)
bad_first false others r e = e

-- a name that breaks it
pub name_bad : {W C : Type 0} (make : W → C) (name : C → List ℕ) (left rest : List W) (w : W) (all : Bool) (failure : Failure) → left ≡ w ∷ rest → list_all is_name (map name (map make left)) ≡ all → IsDue (refuse_unless (is_name (name (make w))) (bad_schema fault.BadName)) failure → IsDue (refuse_unless all (bad_schema fault.BadName)) failure
name_bad make name left rest w all Memory e before due = tt
name_bad make name left rest w all (Refused r) e before due = ap (λ b. refuse_unless b (bad_schema fault.BadName)) (sym before ∙ ap (λ ws. list_all is_name (map name (map make ws))) e) ∙ bad_first (is_name (name (make w))) (list_all is_name (map name (map make rest))) r due
