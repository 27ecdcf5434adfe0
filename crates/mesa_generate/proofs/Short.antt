-- Replies that are printed on one line.
use Rattle.std.proofs.Common.{◌≡◌, ℕ, ◌+◌, List, [], ◌∷◌, ◌++◌, length, Bool, refl, subst, Option, Some, None, Result, Ok, Err, nat_le, true, false, find, nat_lt, ◌==◌, is_some}
use Rattle.std.specs.List.{AllByRecursion, list_all}
use Rattle.std.specs.Prelude.{codes}
use Rattle.std.specs.Fmt.{decimal}
use Rattle.std.proofs.lemmas.Bool.{and_parts}
use Rattle.mesa_invariant_spec.specs.mesa_list.Checks.{◌>>◌, refuse_if, refuse_unless}
use Rattle.mesa_invariant_spec.specs.mesa_columns.declared.columns.ValueColumn.{ValueColumn}
use Rattle.mesa_invariant_spec.specs.mesa_columns.declared.schema.SchemaError.{SchemaError}
use Rattle.mesa_invariant_spec.specs.mesa_columns.declared.schema.SchemaError.TheVariants as schema
use Rattle.mesa_invariant_spec.specs.mesa_columns.declared.views.ViewError.{ViewError}
use Rattle.mesa_invariant_spec.specs.mesa_columns.declared.views.ViewError.TheVariants as view
use Rattle.mesa_invariant_spec.specs.mesa_columns.declared.rows.Row.{Row}
use Rattle.mesa_invariant_spec.specs.mesa_columns.Columns.{Columns, is_replace, key_names, places_in, value_names}
use Rattle.mesa_invariant_spec.specs.mesa_schema.Changes.{columns_of}
use Rattle.mesa_invariant_spec.specs.mesa_columns.Names.{has_name, is_name, repeated}
use Rattle.mesa_invariant_spec.specs.mesa_columns.Schema.{schema_checked}
use Rattle.mesa_invariant_spec.specs.mesa_schema.Views.{choice_checked, max_views, values_named, view_checked}
use Rattle.mesa_invariant_spec.proofs.mesa_columns.Lists.{all_append, all_found, all_map, all_set}
use Rattle.mesa_invariant_spec.specs.mesa_batch.declared.words.RowWords.{RowWords}
use Rattle.mesa_invariant_spec.specs.mesa_batch.declared.words.BatchError.{BatchError}
use Rattle.mesa_invariant_spec.specs.mesa_batch.declared.words.BatchError.TheVariants as batch
use Rattle.mesa_invariant_spec.specs.mesa_batch.Batch.{Placed, batch_of, rows_for}
use Rattle.mesa_invariant_spec.specs.mesa_batch.Totals.{over_bound, sum_name}
use Rattle.mesa_invariant_spec.specs.mesa_filter.declared.words.VersionWord.TheVariants as asks
use Rattle.mesa_model.specs.declared.commands.TableWords.{TableWords}
use Rattle.mesa_model.specs.declared.commands.ViewWords.{ViewWords}
use Rattle.mesa_model.specs.declared.replies.Refusal.{Refusal}
use Rattle.mesa_model.specs.declared.replies.Refusal.TheVariants as no
use Rattle.mesa_model.specs.declared.replies.Reply.{Reply}
use Rattle.mesa_model.specs.declared.replies.Reply.TheVariants as reply
use Rattle.mesa_model.specs.Load.{bound_checked, bounds_checked, load_batch, tables_named, totals_of}
use Rattle.mesa_model.specs.Query.{Heading}
use Rattle.mesa_model.specs.Refusals.{batch_refusal, no_such_table, refuse_closed, schema_refusal, view_refusal}
use Rattle.mesa_model.specs.Relations.{is_taken, table_number}
use Rattle.mesa_model.specs.Step.{done_or_refused}
use Rattle.mesa_model.specs.Tables.{columns_asked, make_table, make_view, names_are_good, view_of_table_checked}
use Rattle.mesa_model.specs.Versions.{expire_to, table_from, version_checked}
use Rattle.mesa_model.specs.Warehouse.{Table, Warehouse, max_tables, max_versions, newest_of, table_at}
use Rattle.mesa_invariant_spec.specs.mesa_script.Replies.{refusal_text, reply_text}
use Rattle.mesa_invariant_spec.specs.mesa_script.Rows.{body_of}
use Rattle.mesa_generate.specs.Lines.{IsUnbroken}
use Rattle.mesa_generate.proofs.Breaks.{decimal_unbroken, name_unbroken, unbroken_both}
use Rattle.mesa_generate.proofs.Checks.{on_check, on_if, on_other, on_other_check, on_some, on_unless}
use Rattle.mesa_generate.specs.Excerpt.{ArePlainColumns, HasPlainNames, IsPlainColumn, IsPlainTable}
use Rattle.mesa_generate.proofs.Names.{chosen_plain, loaded_plain, named_columns, named_plain, sum_plain, table_plain}

-- whether a reply is a page
abbrev pub is_page : Reply → Bool
is_page (reply.Page page) = true
is_page r = false

-- a reply that is no page, without lines behind its head line, and without a line break in it
pub record IsShort (r : Reply) : Type 0 where
  pub text : IsUnbroken (reply_text r)
  pub body : (heading : Heading) → body_of heading r ≡ []
  pub unpaged : is_page r ≡ false

-- a refusal without a line break
abbrev pub IsShortRefusal : Refusal → Type 0
IsShortRefusal e = IsUnbroken (refusal_text e)

pub refused_short : (e : Refusal) → IsShortRefusal e → IsShort (reply.Refused e)
refused_short e is = record { text = is; body = λ heading. refl; unpaged = refl }

-- a text, a number behind it, and what follows
numbered : (text : List ℕ) (n : ℕ) → IsUnbroken text → IsUnbroken (text ++ decimal n)
numbered text n is = unbroken_both text (decimal n) is (decimal_unbroken n)

pub two_numbers : (a b : List ℕ) (m n : ℕ) → IsUnbroken a → IsUnbroken b → IsUnbroken (a ++ decimal m ++ b ++ decimal n)
two_numbers a b m n x y = numbered (a ++ decimal m ++ b) n (unbroken_both (a ++ decimal m) b (numbered a m x) y)

pub closed_short : (o : Option ℕ) (e : Refusal) → refuse_closed o ≡ Err e → IsShortRefusal e
closed_short None e is = absurd cc
closed_short (Some position) e is = (let same : no.Closed position ≡ e = cc in subst IsShortRefusal same (decimal_unbroken position))

schema_short : (d : SchemaError) → IsShortRefusal (schema_refusal d)
schema_short schema.NoKey = refl
schema_short schema.NoValue = refl
schema_short schema.TooManyColumns = refl
schema_short (schema.NameTwice name) = refl
schema_short schema.Memory = refl

batch_short : (d : BatchError) → IsShortRefusal (batch_refusal d)
batch_short (batch.NoTable row) = decimal_unbroken row
batch_short (batch.BadRow row column) = two_numbers [] _ row column refl refl
batch_short (batch.DuplicateKey first second) = two_numbers [] _ first second refl refl
batch_short batch.Memory = refl

-- ---- tables and views

-- the check for a replace column
abbrev replace_checked : Option ValueColumn → Result (Unit {0}) ViewError
replace_checked None = Ok tt
replace_checked (Some column) = Err (view.ReplaceInView column.name)

-- what a view's checks refuse
record Refuses (r : Result (Unit {0}) ViewError) : Type 0 where
  short : (d : ViewError) → r ≡ Err d → IsShortRefusal (view_refusal d)

refuses : (d : ViewError) → IsShortRefusal (view_refusal d) → Refuses (Err d)
refuses d is = record { short = λ other e. (let same : d ≡ other = cc in subst (λ x. IsShortRefusal (view_refusal x)) same is) }

find_plain : (values : List ValueColumn) → AllByRecursion IsPlainColumn values → (o : Option ValueColumn) → find is_replace values ≡ o → Refuses (replace_checked o)
find_plain values all None found = record { short = λ d e. absurd cc }
find_plain values all (Some c) found = refuses (view.ReplaceInView c.name) (all_found IsPlainColumn is_replace values c found all)

passes : (r : Result (Unit {0}) ViewError) → Refuses r → (next : Result (Unit {0}) ViewError) → Refuses next → Refuses (r >> next)
passes (Ok tt) bad next good = good
passes (Err d) bad next good = bad

unless_short : (b : Bool) (d : ViewError) → IsShortRefusal (view_refusal d) → Refuses (refuse_unless b d)
unless_short true d is = record { short = λ other e. absurd cc }
unless_short false d is = refuses d is

if_short : (b : Bool) (d : ViewError) → IsShortRefusal (view_refusal d) → Refuses (refuse_if b d)
if_short true d is = refuses d is
if_short false d is = record { short = λ other e. absurd cc }

choice_short : (names : List (List ℕ)) (none : ViewError) (chosen : List (List ℕ)) → IsShortRefusal (view_refusal none) → Refuses (choice_checked names none chosen)
choice_short names none chosen is =
    passes (refuse_unless (list_all (λ name. has_name name names) chosen) view.NoColumn) (unless_short _ view.NoColumn refl) _ (
    passes (refuse_if (length chosen == 0) none) (if_short _ none is) _ (
    if_short (is_some (repeated chosen)) view.NameTwice refl))

view_short : (s : Columns) (keys values : List (List ℕ)) → ArePlainColumns s → Refuses (view_checked s keys values)
view_short s keys values all =
    passes (choice_checked (key_names s) view.NoKey keys) (choice_short (key_names s) view.NoKey keys refl) _ (
    passes (choice_checked (value_names s) view.NoValue values) (choice_short (value_names s) view.NoValue values refl) _ (
    find_plain (values_named s values) (chosen_plain IsPlainColumn (places_in (value_names s) values) s.values all) (find is_replace (values_named s values)) refl))

-- ---- loads

-- what a check of a warehouse refuses
record Bounds (r : Result (Unit {0}) Refusal) : Type 0 where
  short : (e : Refusal) → r ≡ Err e → IsShortRefusal e

bounds_one : (e : Refusal) → IsShortRefusal e → Bounds (Err e)
bounds_one e is = record { short = λ other same. (let it : e ≡ other = cc in subst IsShortRefusal it is) }

bound_short : (t : Table) (rows : List Row) → IsPlainTable t → Bounds (bound_checked t rows)
bound_short t rows plain = elim (over_bound t.totals (totals_of t rows)) as (λ (o : Option ℕ). Bounds (elim o [ None ↦ Ok tt | Some place ↦ Err (no.SumBound t.name (sum_name (columns_of t.lineage) place)) ])) [
  | None ↦ record { short = λ e is. absurd cc }
  | Some place ↦ bounds_one _ (unbroken_both (t.name ++ codes " column=") (sum_name (columns_of t.lineage) place) (unbroken_both t.name (codes " column=") plain.0 refl) (sum_plain (columns_of t.lineage) place plain.1))
]

bounds_short : (batch : List Placed) (number : ℕ) (tables : List Table) → AllByRecursion IsPlainTable tables → Bounds (bounds_checked batch number tables)
bounds_short batch number [] all = record { short = λ e is. absurd cc }
bounds_short batch number (t ∷ tables) all = on_check Bounds (bound_checked t (rows_for number batch)) (bounds_checked batch (number + 1) tables)
    (λ e is. bounds_one e ((bound_short t (rows_for number batch) all.0).short e is)) (bounds_short batch (number + 1) tables all.1)

version_short : (w : Warehouse) (oldest version : ℕ) → Bounds (version_checked w oldest version)
version_short w oldest version =
    on_if Bounds (nat_lt version oldest) (no.Stale version oldest) _ (bounds_one _ (two_numbers [] _ version oldest refl refl)) (
    last (nat_le w.next version))
  where
    newest : (o : Option ℕ) → IsShortRefusal (no.Future (asks.At version) o)
    newest None = unbroken_both (decimal version ++ codes " newest=") (codes "none") (unbroken_both (decimal version) (codes " newest=") (decimal_unbroken version) refl) refl
    newest (Some n) = two_numbers [] _ version n refl refl

    last : (b : Bool) → Bounds (refuse_if b (no.Future (asks.At version) (newest_of w)))
    last true = bounds_one _ (newest (newest_of w))
    last false = record { short = λ e is. absurd cc }

-- ---- commands

module _ (w : Warehouse) (plain : HasPlainNames w.store) where
  -- a command that was done or refused: the names stay plain, and the reply is short
  pub record Does (r : Result (Warehouse × Reply) Refusal) : Type 0 where
    pub names : HasPlainNames (done_or_refused w r).0.store
    pub short : IsShort (done_or_refused w r).1

  refusing : (e : Refusal) → IsShortRefusal e → Does (Err e)
  refusing e is = record { names = plain; short = refused_short e is }

  closed : (next : Result (Warehouse × Reply) Refusal) → Does next → Does (refuse_closed w.closed >> next)
  closed next good = on_check Does (refuse_closed w.closed) next (λ e is. refusing e (closed_short w.closed e is)) good

  pub nothing_does : Does (refuse_closed w.closed >> Ok (w, reply.Idle))
  nothing_does = closed _ (record { names = plain; short = record { text = refl; body = λ heading. refl; unpaged = refl } })

  pub table_does : (words : TableWords) → Does (make_table w words)
  table_does words =
      closed _ (
      on_unless Does (is_name words.table) _ _ (refusing _ refl) (λ named.
      on_if Does (is_taken w.store words.table) _ _ (refusing _ refl) (
      on_unless Does (names_are_good (columns_asked words)) _ _ (refusing _ refl) (λ good.
      on_other_check Does schema_refusal (schema_checked (columns_asked words)) _ (λ d is. refusing (schema_refusal d) (schema_short d)) (
      on_if Does (nat_le max_tables (length w.store.tables)) _ _ (refusing (no.TablesFull max_tables) (decimal_unbroken max_tables)) (
      record {
        names = all_append IsPlainTable w.store.tables (_ ∷ []) plain
            ((name_unbroken words.table named, named_columns (columns_asked words).values (and_parts (list_all is_name (key_names (columns_asked words))) _ good).1), tt);
        short = record { text = name_unbroken words.table named; body = λ heading. refl; unpaged = refl };
      }))))))

  pub view_does : (words : ViewWords) → Does (make_view w words)
  view_does words =
      closed _ (
      on_unless Does (is_name words.view) _ _ (refusing _ refl) (λ named.
      on_if Does (is_taken w.store words.view) _ _ (refusing _ refl) (
      on_some Does (table_number w.store words.table) no_such_table _ (refusing _ refl) (λ number found.
      let t : Table = table_at w.store number in
      let table : IsPlainTable t = table_plain w.store number plain in
      on_check Does (view_of_table_checked t words) _ (λ e is. refusing e ((rules t words table).short e is)) (
      record {
        names = all_set IsPlainTable w.store.tables number _ table plain;
        short = record { text = name_unbroken words.view named; body = λ heading. refl; unpaged = refl };
      })))))
    where
      last : (b : Bool) → Bounds (refuse_if b (no.TablesFull max_views))
      last true = bounds_one _ (decimal_unbroken max_views)
      last false = record { short = λ e is. absurd cc }

      rules : (t : Table) (words : ViewWords) → IsPlainTable t → Bounds (view_of_table_checked t words)
      rules t words table = on_other_check Bounds view_refusal (view_checked (columns_of t.lineage) words.keys words.values) _
          (λ d is. bounds_one (view_refusal d) ((view_short (columns_of t.lineage) words.keys words.values table.1).short d is))
          (last (nat_le max_views (length t.lineage.views)))

  pub load_does : (rows : List RowWords) → Does (load_batch w rows)
  load_does rows =
      closed _ (
      on_other Does batch_refusal (batch_of (tables_named w.store) rows) _ (λ d. refusing (batch_refusal d) (batch_short d)) (λ placed.
      on_if Does (nat_le max_versions w.next) _ _ (refusing (no.VersionsFull max_versions) (decimal_unbroken max_versions)) (
      on_check Does (bounds_checked placed 0 w.store.tables) _ (λ e is. refusing e ((bounds_short placed 0 w.store.tables plain).short e is)) (
      record {
        names = loaded_plain placed 0 w.store.tables plain;
        short = record { text = two_numbers [] _ w.next (length placed) refl refl; body = λ heading. refl; unpaged = refl };
      }))))

  pub expire_does : (table : Option (List ℕ)) (version : ℕ) → Does (expire_to w table version)
  expire_does None version =
      closed _ (
      on_check Does (version_checked w w.store.floor version) _ (λ e is. refusing e ((version_short w w.store.floor version).short e is)) (
      record {
        names = all_map IsPlainTable (table_from version) w.store.tables plain;
        short = record { text = decimal_unbroken version; body = λ heading. refl; unpaged = refl };
      }))
  expire_does (Some name) version =
      closed _ (
      on_some Does (table_number w.store name) no_such_table _ (refusing _ refl) (λ number found.
      on_check Does (version_checked w (table_at w.store number).oldest version) _ (λ e is. refusing e ((version_short w (table_at w.store number).oldest version).short e is)) (
      record {
        names = all_set IsPlainTable w.store.tables number (table_from version (table_at w.store number)) (table_plain w.store number plain) plain;
        short = record { text = numbered (name ++ codes " oldest=") version (unbroken_both name (codes " oldest=") (named_plain w.store name number plain found) refl); body = λ heading. refl; unpaged = refl };
      })))
