-- Each command does the same to a warehouse without rows.
use Rattle.std.proofs.Common.{◌≡◌, ℕ, ◌+◌, List, [], ◌∷◌, ◌++◌, map, length, Bool, true, false, refl, sym, ◌∙◌, ap, Option, Some, None, option_map, Result, Ok, Err, ok_or, set, filter, find, is_some, is_none, nat_le, nat_lt, not}
use Rattle.std.specs.Prelude.{if◌then◌else◌, max}
use Rattle.mesa_script.specs.mesa_list.Bytes.{same_bytes}
use Rattle.mesa_script.specs.mesa_list.Checks.{◌>>=◌, ◌>>◌, refuse_if, refuse_unless, refused_as}
use Rattle.mesa_script.specs.mesa_columns.declared.views.View.{View}
use Rattle.mesa_script.specs.mesa_columns.Names.{is_name}
use Rattle.mesa_script.specs.mesa_columns.Columns.{place_of}
use Rattle.mesa_script.specs.mesa_columns.Schema.{schema_checked}
use Rattle.mesa_script.specs.mesa_schema.Changes.{Lineage, columns_of, epoch_of, change_checked}
use Rattle.mesa_script.specs.mesa_schema.Recasts.{Recast, recast_checked}
use Rattle.mesa_script.specs.mesa_batch.declared.words.RowWords.{RowWords}
use Rattle.mesa_script.specs.mesa_batch.Batch.{Named, Placed, batch_of, rows_for}
use Rattle.mesa_script.specs.mesa_filter.declared.words.QueryWords.{QueryWords}
use Rattle.mesa_script.specs.mesa_filter.declared.words.VersionWord.{VersionWord}
use Rattle.mesa_script.specs.mesa_filter.declared.words.VersionWord.TheVariants as asks
use Rattle.mesa_script.specs.mesa_filter.Asked.{asked_of}
use Rattle.mesa_script.specs.mesa_filter.Resume.{resume_of}
use Rattle.mesa_script.specs.mesa_model.declared.commands.TableWords.{TableWords}
use Rattle.mesa_script.specs.mesa_model.declared.commands.ViewWords.{ViewWords}
use Rattle.mesa_script.specs.mesa_model.declared.commands.AlterWords.{AlterWords}
use Rattle.mesa_script.specs.mesa_model.declared.commands.ExplainWords.{ExplainWords}
use Rattle.mesa_script.specs.mesa_model.declared.commands.RecastWords.{RecastWords}
use Rattle.mesa_script.specs.mesa_model.declared.commands.Command.{Command}
use Rattle.mesa_script.specs.mesa_model.declared.commands.Command.TheVariants as command
use Rattle.mesa_script.specs.mesa_model.declared.replies.Refusal.{Refusal}
use Rattle.mesa_script.specs.mesa_model.declared.replies.Refusal.TheVariants as no
use Rattle.mesa_script.specs.mesa_model.declared.replies.Reply.{Reply}
use Rattle.mesa_script.specs.mesa_model.declared.replies.Reply.TheVariants as reply
use Rattle.mesa_script.specs.mesa_model.Warehouse.{Table, Store, Pin, Warehouse, max_pins, max_tables, max_versions, newest_of, no_table, table_at}
use Rattle.mesa_script.specs.mesa_model.Refusals.{refuse_closed, no_such_table, query_refusal, batch_refusal, schema_refusal, change_refusal, recast_refusal}
use Rattle.mesa_script.specs.mesa_model.Relations.{Relation, relation_from, relation_of, relation_columns, is_taken, table_number}
use Rattle.mesa_script.specs.mesa_model.Orders.{order_asked}
use Rattle.mesa_script.specs.mesa_model.Versions.{common_oldest, oldest_among, version_asked, version_checked, table_from, expire_all, expire_table, expire_to}
use Rattle.mesa_script.specs.mesa_model.Pins.{is_pin, pin_of, next_token, table_pinned, store_at, make_pin, release_pin}
use Rattle.mesa_script.specs.mesa_model.Load.{tables_named, bound_checked, bounds_checked, table_loaded, tables_loaded, load_batch}
use Rattle.mesa_script.specs.mesa_model.Tables.{columns_asked, names_are_good, new_table, make_table, view_of_table_checked, make_view, change_asked, changed_name, table_changed, alter_table, recast_asked, recast_reply, recast_table, table_recast, with_recast}
use Rattle.mesa_script.specs.mesa_model.Query.{Answer, store_asked, version_seen, query_answer}
use Rattle.mesa_script.specs.mesa_model.Step.{done_or_refused, nothing_done, reply_to_query, step}
use Rattle.mesa_history_spec.specs.Machine.{Machine, Claim, Merges, Recasts, claim_of, explained, max_deltas, ranges_at, recast_claim_of, refuse_busy, singletons_of}
use Rattle.mesa_history_spec.specs.Replay.{claim_asked}
use Rattle.mesa_span.specs.Work.{next_work}
use Rattle.mesa_lease.specs.Book.{holder}
use Rattle.mesa_history_spec.specs.Bare.{bare, bare_table, bare_store, bare_pin, bare_done, bare_reply, bare_answer, bare_result}
use Rattle.mesa_history_spec.proofs.BareLists.{same_check, same_value, same_bare, some_bare, is_some_same, maps_same, length_same, at_same, set_same, append_same, find_same, filter_same}

abbrev pub done_of : Result (Warehouse × Reply) Refusal → Result (Warehouse × Reply) Refusal
done_of = bare_result bare_done

-- ---- once is twice

pub tables_twice : (ts : List Table) → map bare_table (map bare_table ts) ≡ map bare_table ts
tables_twice ts = maps_same bare_table bare_table (λ t. refl) ts

pub store_twice : (s : Store) → bare_store (bare_store s) ≡ bare_store s
store_twice s = λ i. record { tables = tables_twice s.tables i; floor = s.floor }

pub pins_twice : (ps : List Pin) → map bare_pin (map bare_pin ps) ≡ map bare_pin ps
pins_twice ps = maps_same bare_pin bare_pin (λ (p : Pin). λ i. record p { store = store_twice p.store i }) ps

pub bare_twice : (w : Warehouse) → bare (bare w) ≡ bare w
bare_twice w = λ i. record w { store = store_twice w.store i; pins = pins_twice w.pins i }

-- a warehouse with these tables, done or not
with_store : (w : Warehouse) (s t : Store) (next : ℕ) (r : Reply) → bare_store s ≡ bare_store t
    → done_of (Ok (record w { store = s; next = next }, r)) ≡ done_of (Ok (record (bare w) { store = t; next = next }, r))
with_store w s t next r same = λ i. Ok (record w { store = same i; next = next; pins = sym (pins_twice w.pins) i }, bare_reply r)

-- ---- names

pub number_bare : (s : Store) (name : List ℕ) → table_number s name ≡ table_number (bare_store s) name
number_bare s name = ap (place_of name) (sym (maps_same bare_table (λ (t : Table). t.name) (λ t. refl) s.tables))

pub table_bare : (s : Store) (number : ℕ) → table_at (bare_store s) number ≡ bare_table (table_at s number)
table_bare s number = at_same bare_table s.tables number no_table

abbrev pub bare_relation : Relation → Relation
bare_relation r = record r { table = bare_table r.table }

abbrev in_table : Bool → Option View → ℕ → Table → Option Relation
in_table b v n t = if b then Some (record { number = n; table = t; view = None }) else option_map (λ view. record { number = n; table = t; view = Some view }) v

abbrev first_of : Option Relation → Option Relation → Option Relation
first_of o rest = elim o [ None ↦ rest | Some relation ↦ Some relation ]

one_more : (b : Bool) (v : Option View) (n : ℕ) (t : Table) (more rest : Option Relation) → more ≡ option_map bare_relation rest
    → first_of (in_table b v n (bare_table t)) more ≡ option_map bare_relation (first_of (in_table b v n t) rest)
one_more true v n t more rest is = refl
one_more false None n t more rest is = is
one_more false (Some view) n t more rest is = refl

relations_bare : (n : ℕ) (name : List ℕ) (ts : List Table) → relation_from n name (map bare_table ts) ≡ option_map bare_relation (relation_from n name ts)
relations_bare n name [] = refl
relations_bare n name (t ∷ ts) = one_more (same_bytes name t.name) (find (λ (v : View). same_bytes name v.name) t.lineage.views) n t _ _ (relations_bare (n + 1) name ts)

pub relation_bare : (s : Store) (name : List ℕ) → relation_of (bare_store s) name ≡ option_map bare_relation (relation_of s name)
relation_bare s name = relations_bare 0 name s.tables

taken_bare : (s : Store) (name : List ℕ) → is_taken s name ≡ is_taken (bare_store s) name
taken_bare s name = sym (ap is_some (relation_bare s name) ∙ is_some_same bare_relation (relation_of s name))

-- ---- tables

pub table-bare : (w : Warehouse) (words : TableWords) → done_of (make_table w words) ≡ done_of (make_table (bare w) words)
table-bare w words =
    let made = new_table w words.table (columns_asked words) in
    same_check done_of (refuse_closed w.closed) _ _ _ refl
    (same_check done_of (refuse_unless (is_name words.table) _) _ _ _ refl
    (same_check done_of (refuse_if (is_taken w.store words.table) no.TableExists) (refuse_if (is_taken (bare_store w.store) words.table) no.TableExists) _ _ (ap (λ b. refuse_if b no.TableExists) (taken_bare w.store words.table))
    (same_check done_of (refuse_unless (names_are_good (columns_asked words)) _) _ _ _ refl
    (same_check done_of (refused_as schema_refusal (schema_checked (columns_asked words))) _ _ _ refl
    (same_check done_of (refuse_if (nat_le max_tables (length w.store.tables)) (no.TablesFull max_tables)) (refuse_if (nat_le max_tables (length (map bare_table w.store.tables))) (no.TablesFull max_tables)) _ _
    (ap (λ n. refuse_if (nat_le max_tables n) (no.TablesFull max_tables)) (sym (length_same bare_table w.store.tables)))
    (with_store w _ _ w.next (reply.Table words.table) (λ i. record {
      tables = (append_same bare_table w.store.tables (made ∷ []) ∙ ap (λ xs. xs ++ bare_table made ∷ []) (sym (tables_twice w.store.tables)) ∙ sym (append_same bare_table (map bare_table w.store.tables) (made ∷ []))) i;
      floor = w.store.floor;
    })))))))

-- a table is set that was made of the one there
set_bare : (s : Store) (number : ℕ) (f : Table → Table) → ((t : Table) → bare_table (f t) ≡ bare_table (f (bare_table t)))
    → bare_store (record s { tables = set s.tables number (f (table_at s number)) }) ≡ bare_store (record (bare_store s) { tables = set (map bare_table s.tables) number (f (table_at (bare_store s) number)) })
set_bare s number f same = λ i. record {
  tables = (set_same bare_table s.tables number (f (table_at s number))
      ∙ ap (λ t. set (map bare_table s.tables) number t) (same (table_at s number) ∙ ap (λ t. bare_table (f t)) (sym (table_bare s number)))
      ∙ ap (λ ts. set ts number (bare_table (f (table_at (bare_store s) number)))) (sym (tables_twice s.tables))
      ∙ sym (set_same bare_table (map bare_table s.tables) number (f (table_at (bare_store s) number)))) i;
  floor = s.floor;
}

pub view-bare : (w : Warehouse) (words : ViewWords) → done_of (make_view w words) ≡ done_of (make_view (bare w) words)
view-bare w words =
    same_check done_of (refuse_closed w.closed) _ _ _ refl
    (same_check done_of (refuse_unless (is_name words.view) _) _ _ _ refl
    (same_check done_of (refuse_if (is_taken w.store words.view) no.TableExists) (refuse_if (is_taken (bare_store w.store) words.view) no.TableExists) _ _ (ap (λ b. refuse_if b no.TableExists) (taken_bare w.store words.view))
    (same_value done_of (ok_or (table_number w.store words.table) no_such_table) (ok_or (table_number (bare_store w.store) words.table) no_such_table) _ _ (ap (λ o. ok_or o no_such_table) (number_bare w.store words.table)) (λ number.
    same_check done_of (view_of_table_checked (table_at w.store number) words) (view_of_table_checked (table_at (bare_store w.store) number) words) _ _ (ap (λ (t : Table). view_of_table_checked t words) (sym (table_bare w.store number)))
    (with_store w _ _ w.next (reply.View words.view) (set_bare w.store number (λ (t : Table). record t { lineage = record t.lineage { views = t.lineage.views ++ record { name = words.view; keys = words.keys; values = words.values } ∷ [] } }) (λ t. refl)))))))

pub alter-bare : (w : Warehouse) (words : AlterWords) → done_of (alter_table w words) ≡ done_of (alter_table (bare w) words)
alter-bare w words =
    same_check done_of (refuse_closed w.closed) _ _ _ refl
    (same_value done_of (ok_or (table_number w.store words.table) no_such_table) (ok_or (table_number (bare_store w.store) words.table) no_such_table) _ _ (ap (λ o. ok_or o no_such_table) (number_bare w.store words.table)) (λ number.
    let lineage : (table_at w.store number).lineage ≡ (table_at (bare_store w.store) number).lineage = ap (λ (t : Table). t.lineage) (sym (table_bare w.store number)) in
    same_value done_of (change_asked (columns_of (table_at w.store number).lineage) words.change) (change_asked (columns_of (table_at (bare_store w.store) number).lineage) words.change) _ _ (ap (λ (l : Lineage). change_asked (columns_of l) words.change) lineage) (λ c.
    same_check done_of (refused_as (change_refusal (changed_name c)) (change_checked (table_at w.store number).lineage c)) (refused_as (change_refusal (changed_name c)) (change_checked (table_at (bare_store w.store) number).lineage c)) _ _
    (ap (λ (l : Lineage). refused_as (change_refusal (changed_name c)) (change_checked l c)) lineage)
    (with_store w _ _ w.next (reply.Altered words.table (epoch_of (table_at w.store number).lineage + 1)) (set_bare w.store number (λ (t : Table). table_changed t c) (λ t. refl))
    ∙ ap (λ (l : Lineage). done_of (Ok (record (bare w) { store = record (bare_store w.store) { tables = set (map bare_table w.store.tables) number (table_changed (table_at (bare_store w.store) number) c) } }, reply.Altered words.table (epoch_of l + 1)))) lineage))))

-- a recast leaves the same projection
pub recast_same : (w : Warehouse) (number : ℕ) (r : Recast) → bare (with_recast w number r) ≡ bare (with_recast (bare w) number r)
recast_same w number r = λ i. record w { store = set_bare w.store number (λ (t : Table). table_recast t r) (λ t. refl) i; pins = sym (pins_twice w.pins) i }

pub recast-bare : (w : Warehouse) (words : RecastWords) → done_of (recast_table w words) ≡ done_of (recast_table (bare w) words)
recast-bare w words =
    same_check done_of (refuse_closed w.closed) _ _ _ refl
    (same_value done_of (ok_or (table_number w.store words.table) no_such_table) (ok_or (table_number (bare_store w.store) words.table) no_such_table) _ _ (ap (λ o. ok_or o no_such_table) (number_bare w.store words.table)) (λ number.
    same_check done_of (refused_as recast_refusal (recast_checked (table_at w.store number).lineage (recast_asked words))) (refused_as recast_refusal (recast_checked (table_at (bare_store w.store) number).lineage (recast_asked words))) _ _
    (ap (λ (t : Table). refused_as recast_refusal (recast_checked t.lineage (recast_asked words))) (sym (table_bare w.store number)))
    (λ i. Ok (recast_same w number (recast_asked words) i, recast_reply (sym (table_bare w.store number) i)))))

-- ---- loads

bounds_bare : (batch : List Placed) (number : ℕ) (ts : List Table) → bounds_checked batch number ts ≡ bounds_checked batch number (map bare_table ts)
bounds_bare batch number [] = refl
bounds_bare batch number (t ∷ ts) = ap (λ rest. bound_checked t (rows_for number batch) >> rest) (bounds_bare batch (number + 1) ts)

loaded_bare : (batch : List Placed) (number : ℕ) (ts : List Table) → map bare_table (tables_loaded batch number ts) ≡ map bare_table (tables_loaded batch number (map bare_table ts))
loaded_bare batch number [] = refl
loaded_bare batch number (t ∷ ts) = ap (λ xs. bare_table (table_loaded t (rows_for number batch)) ∷ xs) (loaded_bare batch (number + 1) ts)

pub load-bare : (w : Warehouse) (rows : List RowWords) → done_of (load_batch w rows) ≡ done_of (load_batch (bare w) rows)
load-bare w rows =
    same_check done_of (refuse_closed w.closed) _ _ _ refl
    (same_value done_of (refused_as batch_refusal (batch_of (tables_named w.store) rows)) (refused_as batch_refusal (batch_of (tables_named (bare_store w.store)) rows)) _ _
    (ap (λ (named : List Named). refused_as batch_refusal (batch_of named rows)) (sym (maps_same bare_table (λ (t : Table). record { name = t.name; columns = columns_of t.lineage }) (λ t. refl) w.store.tables))) (λ batch.
    same_check done_of (refuse_if (nat_le max_versions w.next) _) _ _ _ refl
    (same_check done_of (bounds_checked batch 0 w.store.tables) (bounds_checked batch 0 (map bare_table w.store.tables)) _ _ (bounds_bare batch 0 w.store.tables)
    (with_store w _ _ (w.next + 1) (reply.Loaded w.next (length batch)) (λ i. record { tables = loaded_bare batch 0 w.store.tables i; floor = w.store.floor })))))

-- ---- expiries and pins

from_bare : (version : ℕ) (ts : List Table) → map bare_table (map (table_from version) ts) ≡ map bare_table (map (table_from version) (map bare_table ts))
from_bare version [] = refl
from_bare version (t ∷ ts) = ap (λ xs. bare_table (table_from version t) ∷ xs) (from_bare version ts)

all-bare : (w : Warehouse) (version : ℕ) → done_of (expire_all w version) ≡ done_of (expire_all (bare w) version)
all-bare w version =
    same_check done_of (refuse_closed w.closed) _ _ _ refl
    (same_check done_of (version_checked w w.store.floor version) _ _ _ refl
    (with_store w _ _ w.next (reply.Expired None version) (λ i. record { tables = from_bare version w.store.tables i; floor = version })))

one-bare : (w : Warehouse) (name : List ℕ) (version : ℕ) → done_of (expire_table w name version) ≡ done_of (expire_table (bare w) name version)
one-bare w name version =
    same_check done_of (refuse_closed w.closed) _ _ _ refl
    (same_value done_of (ok_or (table_number w.store name) no_such_table) (ok_or (table_number (bare_store w.store) name) no_such_table) _ _ (ap (λ o. ok_or o no_such_table) (number_bare w.store name)) (λ number.
    same_check done_of (version_checked w (table_at w.store number).oldest version) (version_checked (bare w) (table_at (bare_store w.store) number).oldest version) _ _
    (ap (λ (t : Table). version_checked w t.oldest version) (sym (table_bare w.store number)))
    (with_store w _ _ w.next (reply.Expired (Some name) version) (set_bare w.store number (table_from version) (λ t. refl)))))

pub expire-bare : (w : Warehouse) (table : Option (List ℕ)) (version : ℕ) → done_of (expire_to w table version) ≡ done_of (expire_to (bare w) table version)
expire-bare w None version = all-bare w version
expire-bare w (Some name) version = one-bare w name version

asked_bare : (w : Warehouse) (oldest : ℕ) (v : VersionWord) → version_asked w oldest v ≡ version_asked (bare w) oldest v
asked_bare w oldest asks.Latest = refl
asked_bare w oldest (asks.At version) = refl
asked_bare w oldest (asks.Pin token) = refl

-- the first version at which all tables can be queried is the same
among_bare : (floor : ℕ) (ts : List Table) → oldest_among floor ts ≡ oldest_among floor (map bare_table ts)
among_bare floor [] = refl
among_bare floor (t ∷ ts) = ap (max t.oldest) (among_bare floor ts)

with_pins : (w : Warehouse) (given : List ℕ) (ps qs : List Pin) (r : Reply) → map bare_pin ps ≡ map bare_pin qs
    → done_of (Ok (record w { given = given; pins = ps }, r)) ≡ done_of (Ok (record (bare w) { given = given; pins = qs }, r))
with_pins w given ps qs r same = λ i. Ok (record w { store = sym (store_twice w.store) i; given = given; pins = same i }, bare_reply r)

pinned_bare : (version : ℕ) (ts : List Table) → map bare_table (map (table_pinned version) ts) ≡ map bare_table (map (table_pinned version) (map bare_table ts))
pinned_bare version [] = refl
pinned_bare version (t ∷ ts) = ap (λ xs. bare_table (table_pinned version t) ∷ xs) (pinned_bare version ts)

pub pin-bare : (w : Warehouse) (session : ℕ) (asked : VersionWord) → done_of (make_pin w session asked) ≡ done_of (make_pin (bare w) session asked)
pin-bare w session asked =
    same_check done_of (refuse_closed w.closed) _ _ _ refl
    (same_value done_of (version_asked w (common_oldest w.store) asked) (version_asked (bare w) (common_oldest (bare_store w.store)) asked) _ _ (ap (λ oldest. version_asked w oldest asked) (among_bare w.store.floor w.store.tables) ∙ asked_bare w (common_oldest (bare_store w.store)) asked) (λ version.
    let new : Store → Pin = λ s. record { session = session; token = next_token w session; version = version; store = store_at s version } in
    same_check done_of (refuse_if (nat_le max_pins (length w.pins)) (no.PinsFull max_pins)) (refuse_if (nat_le max_pins (length (map bare_pin w.pins))) (no.PinsFull max_pins)) _ _
    (ap (λ n. refuse_if (nat_le max_pins n) (no.PinsFull max_pins)) (sym (length_same bare_pin w.pins)))
    (with_pins w _ _ _ (reply.Pinned (next_token w session) version) (
    append_same bare_pin w.pins (new w.store ∷ [])
    ∙ ap (λ ps. ps ++ bare_pin (new w.store) ∷ []) (sym (pins_twice w.pins))
    ∙ (λ i. map bare_pin (map bare_pin w.pins) ++ record (new w.store) { store = record { tables = pinned_bare version w.store.tables i; floor = version } } ∷ [])
    ∙ sym (append_same bare_pin (map bare_pin w.pins) (new (bare_store w.store) ∷ []))))))

pub held_bare : (w : Warehouse) (session token : ℕ) → pin_of (bare w) session token ≡ option_map bare_pin (pin_of w session token)
held_bare w session token = find_same bare_pin (is_pin session token) (λ p. refl) w.pins

none_same : {A : Type 0} (b : A → A) (o : Option A) → is_none (option_map b o) ≡ is_none o
none_same b None = refl
none_same b (Some x) = refl

pub release-bare : (w : Warehouse) (session token : ℕ) → done_of (release_pin w session token) ≡ done_of (release_pin (bare w) session token)
release-bare w session token =
    same_check done_of (refuse_closed w.closed) _ _ _ refl
    (same_check done_of (refuse_if (is_none (pin_of w session token)) (no.NoPin token)) (refuse_if (is_none (pin_of (bare w) session token)) (no.NoPin token)) _ _
    (ap (λ b. refuse_if b (no.NoPin token)) (sym (ap is_none (held_bare w session token) ∙ none_same bare_pin (pin_of w session token))))
    (with_pins w w.given _ _ (reply.Released token) (
    sym (pins_twice (filter (λ pin. not (is_pin session token pin)) w.pins))
    ∙ ap (map bare_pin) (sym (filter_same bare_pin (λ pin. not (is_pin session token pin)) (λ p. refl) w.pins)))))

-- ---- queries, explains and works

store_asked_bare : (w : Warehouse) (session : ℕ) (v : VersionWord) → store_asked (bare w) session v ≡ bare_result bare_store (store_asked w session v)
store_asked_bare w session asks.Latest = refl
store_asked_bare w session (asks.At version) = refl
store_asked_bare w session (asks.Pin token) = ap (λ o. ok_or o (no.NoPin token) >>= (λ (p : Pin). Ok p.store)) (held_bare w session token) ∙ of_pin (pin_of w session token)
  where
    of_pin : (o : Option Pin) → (ok_or (option_map bare_pin o) (no.NoPin token) >>= (λ (p : Pin). Ok p.store)) ≡ bare_result bare_store (ok_or o (no.NoPin token) >>= (λ (p : Pin). Ok p.store))
    of_pin None = refl
    of_pin (Some p) = refl

seen_bare : (w : Warehouse) (s : Store) (t : Table) (v : VersionWord) → version_seen w s t v ≡ version_seen (bare w) (bare_store s) (bare_table t) v
seen_bare w s t asks.Latest = refl
seen_bare w s t (asks.At version) = refl
seen_bare w s t (asks.Pin token) = refl

abbrev pub answer_of : Result Answer Refusal → Result Answer Refusal
answer_of = bare_result bare_answer

-- A query is refused alike, and answered alike but for its page's rows.
pub query-bare : (w : Warehouse) (session : ℕ) (words : QueryWords) → answer_of (query_answer w session words) ≡ answer_of (query_answer (bare w) session words)
query-bare w session words =
    same_check answer_of (refuse_closed w.closed) _ _ _ refl
    (same_bare answer_of bare_store (store_asked w session words.version) (store_asked (bare w) session words.version) _ _ (store_asked_bare w session words.version) (λ store.
    same_bare answer_of bare_relation (ok_or (relation_of store words.relation) no_such_table) (ok_or (relation_of (bare_store store) words.relation) no_such_table) _ _
    (ap (λ o. ok_or o no_such_table) (relation_bare store words.relation) ∙ some_bare bare_relation (relation_of store words.relation) no_such_table) (λ relation.
    same_value answer_of (refused_as query_refusal (asked_of (relation_columns relation) words)) _ _ _ refl (λ asked.
    same_value answer_of (version_seen w store relation.table words.version) (version_seen (bare w) (bare_store store) (bare_table relation.table) words.version) _ _ (seen_bare w store relation.table words.version) (λ version.
    same_value answer_of (refused_as query_refusal (resume_of (relation_columns relation) words.relation version (epoch_of relation.table.lineage) asked.columns words.resume)) _ _ _ refl (λ resume. refl))))))

pub explain-bare : (w : Warehouse) (m : Machine) (words : ExplainWords) → explained w m words ≡ explained (bare w) m words
explain-bare w m words =
    same_check (λ r. r) (refuse_closed w.closed) _ _ _ refl
    (same_bare (λ r. r) bare_relation (ok_or (relation_of w.store words.relation) no_such_table) (ok_or (relation_of (bare_store w.store) words.relation) no_such_table) _ _
    (ap (λ o. ok_or o no_such_table) (relation_bare w.store words.relation) ∙ some_bare bare_relation (relation_of w.store words.relation) no_such_table) (λ relation.
    same_value (λ r. r) (order_asked relation words.filter) (order_asked (bare_relation relation) words.filter) _ _ refl (λ by.
    same_value (λ r. r) (version_asked w relation.table.oldest words.version) (version_asked (bare w) relation.table.oldest words.version) _ _ (asked_bare w relation.table.oldest words.version) (λ version. refl))))

-- what a work on the table of a number is granted, where this is its oldest version
abbrev granted_at : Warehouse → Machine → ℕ → ℕ → ℕ → Result Claim Reply
granted_at w m position table oldest = do
  refuse_busy (holder m.leases table position)
  work ← ok_or (next_work (ranges_at m table) oldest (newest_of w)) reply.Idle
  Ok (record { table = table; lease = m.leases.granted + 1; errand = Merges work })

pub claim-bare : (w : Warehouse) (m : Machine) (position : ℕ) (name : List ℕ) → claim_of w m position name ≡ claim_of (bare w) m position name
claim-bare w m position name =
    same_check (λ r. r) (refused_as reply.Refused (refuse_closed w.closed)) _ _ _ refl
    (same_value (λ r. r) (ok_or (table_number w.store name) (reply.Refused no_such_table)) (ok_or (table_number (bare_store w.store) name) (reply.Refused no_such_table)) _ _ (ap (λ o. ok_or o (reply.Refused no_such_table)) (number_bare w.store name)) (λ table.
    ap (λ (t : Table). granted_at w m position table t.oldest) (sym (table_bare w.store table))))

-- what a recast of the table of a number is granted, where this is its lineage
abbrev recast_granted_at : Warehouse → Machine → ℕ → RecastWords → ℕ → Lineage → Result Claim Reply
recast_granted_at w m position words table l = do
  refused_as reply.Refused (refused_as recast_refusal (recast_checked l (recast_asked words)))
  refuse_busy (holder m.leases table position)
  refuse_if (nat_lt max_deltas (singletons_of w m table)) (reply.Refused (no.TooManyDeltas max_deltas))
  Ok (record { table = table; lease = m.leases.granted + 1; errand = Recasts (epoch_of l) (recast_asked words) })

pub recast_claim-bare : (w : Warehouse) (m : Machine) (position : ℕ) (words : RecastWords) → recast_claim_of w m position words ≡ recast_claim_of (bare w) m position words
recast_claim-bare w m position words =
    same_check (λ r. r) (refused_as reply.Refused (refuse_closed w.closed)) _ _ _ refl
    (same_value (λ r. r) (ok_or (table_number w.store words.table) (reply.Refused no_such_table)) (ok_or (table_number (bare_store w.store) words.table) (reply.Refused no_such_table)) _ _ (ap (λ o. ok_or o (reply.Refused no_such_table)) (number_bare w.store words.table)) (λ table.
    ap (λ (t : Table). recast_granted_at w m position words table t.lineage) (sym (table_bare w.store table))))

pub asked-bare : (w : Warehouse) (m : Machine) (position : ℕ) (c : Command) → claim_asked w m position c ≡ claim_asked (bare w) m position c
asked-bare w m position (command.Recast words) = recast_claim-bare w m position words
asked-bare w m position (command.Table words) = claim-bare w m position []
asked-bare w m position (command.View words) = claim-bare w m position []
asked-bare w m position (command.Alter words) = claim-bare w m position []
asked-bare w m position (command.Load rows) = claim-bare w m position []
asked-bare w m position (command.Query words) = claim-bare w m position []
asked-bare w m position (command.Explain words) = claim-bare w m position []
asked-bare w m position (command.Pin asked) = claim-bare w m position []
asked-bare w m position (command.Release token) = claim-bare w m position []
asked-bare w m position (command.Expire table version) = claim-bare w m position []
asked-bare w m position (command.Work words) = claim-bare w m position words.table

-- ---- Step

undone : (w : Warehouse) (r : Result (Warehouse × Reply) Refusal) → bare_done (done_or_refused w r) ≡ done_or_refused (bare w) (done_of r)
undone w (Ok done) = refl
undone w (Err e) = refl

steps : (w : Warehouse) (q r : Result (Warehouse × Reply) Refusal) → done_of q ≡ done_of r → bare_done (done_or_refused w q) ≡ bare_done (done_or_refused (bare w) r)
steps w q r same = undone w q ∙ ap (done_or_refused (bare w)) same ∙ ap (λ x. done_or_refused x (done_of r)) (sym (bare_twice w)) ∙ sym (undone (bare w) r)

told_of : (w v : Warehouse) (q r : Result Answer Refusal) → bare w ≡ bare v → answer_of q ≡ answer_of r → bare_done (w, reply_to_query q) ≡ bare_done (v, reply_to_query r)
told_of w v q r same is = λ i. (same i, (told q ∙ ap reply_to_query is ∙ sym (told r)) i)
  where
    told : (q : Result Answer Refusal) → bare_reply (reply_to_query q) ≡ reply_to_query (answer_of q)
    told (Ok a) = refl
    told (Err e) = refl

nothing-bare : (w : Warehouse) → done_of (refuse_closed w.closed >> Ok (w, reply.Idle)) ≡ done_of (refuse_closed w.closed >> Ok (bare w, reply.Idle))
nothing-bare w = same_check done_of (refuse_closed w.closed) _ _ _ refl (λ i. Ok (sym (bare_twice w) i, reply.Idle))

pub nothing_step-bare : (w : Warehouse) → bare_done (done_or_refused w (nothing_done w)) ≡ bare_done (done_or_refused (bare w) (nothing_done (bare w)))
nothing_step-bare w = steps w _ _ (nothing-bare w)

-- Step does the same to a warehouse without rows: the same refusal, the same reply but for a page's rows, the same warehouse but for its rows.
pub step-bare : (w : Warehouse) (session : ℕ) (c : Command) → bare_done (step w session c) ≡ bare_done (step (bare w) session c)
step-bare w session (command.Table words) = steps w _ _ (table-bare w words)
step-bare w session (command.View words) = steps w _ _ (view-bare w words)
step-bare w session (command.Alter words) = steps w _ _ (alter-bare w words)
step-bare w session (command.Load rows) = steps w _ _ (load-bare w rows)
step-bare w session (command.Query words) = told_of w (bare w) (query_answer w session words) (query_answer (bare w) session words) (sym (bare_twice w)) (query-bare w session words)
step-bare w session (command.Explain words) = steps w _ _ (nothing-bare w)
step-bare w session (command.Pin asked) = steps w _ _ (pin-bare w session asked)
step-bare w session (command.Release token) = steps w _ _ (release-bare w session token)
step-bare w session (command.Expire table version) = steps w _ _ (expire-bare w table version)
step-bare w session (command.Work words) = steps w _ _ (nothing-bare w)
step-bare w session (command.Recast words) = steps w _ _ (recast-bare w words)
