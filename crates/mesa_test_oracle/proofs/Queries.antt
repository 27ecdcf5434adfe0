-- What a query sees, and its page.
use Rattle.std.proofs.Common.{◌≡◌, ℕ, List, [], ◌∷◌, ap, sym, ◌∙◌, subst, Option, Some, None, Result, Ok, Err}
use Rattle.std.specs.Prelude.{IfOk, IsTrue, find, map, option_map}
use Rattle.std.specs.List.{AllByRecursion}
use Rattle.std.specs.Option.{ok_or}
use Rattle.mesa_list.specs.Checks.{◌>>=◌}
use Rattle.mesa_key.specs.declared.KeyType.{KeyType}
use Rattle.mesa_key.specs.declared.KeyValue.{KeyValue}
use Rattle.mesa_key.specs.Spelling.{IsKey, is_spelling, key_of, key_spelling}
use Rattle.mesa_oracle_tables.specs.mesa_columns.declared.columns.KeyColumn.{KeyColumn}
use Rattle.mesa_oracle_tables.specs.mesa_columns.declared.rows.Row.{Row}
use Rattle.mesa_schema.specs.Changes.{epoch_of}
use Rattle.mesa_oracle_tables.specs.mesa_columns.Columns.{Columns, chosen, kinds_of}
use Rattle.mesa_oracle_tables.specs.mesa_columns.Rows.{AreRowsOf, IsRowOf}
use Rattle.mesa_filter.specs.declared.words.QueryWords.{QueryWords}
use Rattle.mesa_filter.specs.declared.words.VersionWord.TheVariants as asks
use Rattle.mesa_filter.specs.Query.{BuiltQuery, IsQueryOf, group_kinds}
use Rattle.mesa_filter.specs.Resume.{resume_prefix}
use Rattle.mesa_model.specs.declared.replies.Page.{Page}
use Rattle.mesa_model.specs.declared.replies.Refusal.TheVariants as no
use Rattle.mesa_model.specs.Page.{page_of}
use Rattle.mesa_model.specs.Pins.{is_pin}
use Rattle.mesa_model.specs.Query.{answer_rows, query_answer, store_asked, version_seen}
use Rattle.mesa_model.specs.Relations.{Relation, relation_columns, relation_content, relation_of}
use Rattle.mesa_model.specs.Warehouse.{Pin, Store, Warehouse}
use Rattle.mesa_answer.specs.Answering.{grouped_columns}
use Rattle.mesa_answer.proofs.Picked.{chosen-map}
use Rattle.mesa_test_oracle.specs.declared.pins.PlainPin.{PlainPin}
use Rattle.mesa_binding.specs.Built.{IsBuiltOf}
use Rattle.mesa_binding.proofs.Queries.{answered}
use Rattle.mesa_oracle_tables.specs.Kept.{Versioned}
use Rattle.mesa_test_oracle.specs.Pinned.{pin_seen, warehouse_of}
use Rattle.mesa_test_oracle.specs.Plain.{answer_of}
use Rattle.mesa_test_oracle.proofs.Pinnings.{find-mapped}

-- the tables of a pin that is held, or that it isn't
pub pinned_tables : (s : Versioned) (given : List ℕ) (pins : List PlainPin) (session token : ℕ) (found : Option PlainPin) → found ≡ find (λ (p : PlainPin). is_pin session token (pin_seen p)) pins → store_asked (warehouse_of s given (map pin_seen pins)) session (asks.Pin token) ≡ (ok_or (option_map pin_seen found) (no.NoPin token) >>= λ pin. Ok pin.store)
pinned_tables s given pins session token found is =
    ap (λ o. ok_or o (no.NoPin token) >>= λ (pin : Pin). Ok pin.store) (find-mapped pin_seen (is_pin session token) pins ∙ ap (option_map pin_seen) (sym is))

-- rows of these columns spell keys of the columns' types
rows_spell : (passes : (types : List KeyType) (key : List KeyValue) → IsKey types key → IsTrue (is_spelling types (key_spelling key))) (s : Columns) (kinds : List KeyType) (rows : List Row) → kinds_of s ≡ kinds → AreRowsOf s rows → AllByRecursion (λ (row : Row). IsTrue (is_spelling kinds row.key)) rows
rows_spell passes s kinds [] same all = tt
rows_spell passes s kinds (row ∷ rows) same all =
    let form : IsRowOf s row = all.0 in
    let own : IsTrue (is_spelling (kinds_of s) row.key) = subst (λ bytes. IsTrue (is_spelling (kinds_of s) bytes)) form.spelled (passes (kinds_of s) (key_of (kinds_of s) row.key) form.key) in
    (subst (λ types. IsTrue (is_spelling types row.key)) same own, rows_spell passes s kinds rows same all.1)

-- a page's rows spell keys of the query's group columns
pub page_spells : {E : Type 0} (passes : (types : List KeyType) (key : List KeyValue) → IsKey types key → IsTrue (is_spelling types (key_spelling key))) (s : Columns) (q : BuiltQuery) (result : Result Page E) → IsQueryOf s q → IfOk result (λ page. AreRowsOf (grouped_columns s q.asked.columns q.asked.values) page.rows) → IfOk result (λ page. AllByRecursion (λ (row : Row). IsTrue (is_spelling (group_kinds q) row.key)) page.rows)
page_spells passes s q (Ok page) asked form =
    let same : kinds_of (grouped_columns s q.asked.columns q.asked.values) ≡ group_kinds q = chosen-map (λ (c : KeyColumn). c.kind) q.asked.columns s.keys ∙ ap (chosen q.asked.columns) (sym asked.kinds) in
    rows_spell passes (grouped_columns s q.asked.columns q.asked.values) (group_kinds q) page.rows same form
page_spells passes s q (Err e) asked form = tt

-- what a built query is given behind its page is the answer
answered_built : (w : Warehouse) (session : ℕ) (words : QueryWords) (store : Store) (r : Relation) (version : ℕ) (q : BuiltQuery) (page : Page) → w.closed ≡ None → store_asked w session words.version ≡ Ok store → relation_of store words.relation ≡ Some r → version_seen w store r.table words.version ≡ Ok version → IsBuiltOf (relation_columns r) version (epoch_of r.table.lineage) words q → page ≡ page_of q.version q.limit q.resume (answer_rows (relation_columns r) q.asked (relation_content r q.version)) → query_answer w session words ≡ Ok (answer_of (page, q))
answered_built w session words store r version q page opened tables relation there made is =
    let s = relation_columns r in
    let parts = made.parts in
    let page_is : page ≡ page_of version words.limit q.resume (answer_rows s q.asked (relation_content r version)) = is ∙ ap (λ (p : BuiltQuery). page_of p.version p.limit q.resume (answer_rows s q.asked (relation_content r p.version))) parts in
    let kinds : chosen q.asked.columns (kinds_of s) ≡ group_kinds q = ap (λ (p : BuiltQuery). chosen q.asked.columns p.kinds) (sym parts) in
    let prefix : resume_prefix s words.relation version (epoch_of r.table.lineage) q.asked.columns ≡ q.prefix = ap (λ (p : BuiltQuery). p.prefix) (sym parts) in
    answered w session words store r q.asked version q.resume opened tables relation made.asked there made.resume
    ∙ (λ j. Ok (record { page = sym page_is j; heading = record { kinds = kinds j; prefix = prefix j } }))

pub answered_by : (w : Warehouse) (session : ℕ) (words : QueryWords) (store : Store) (r : Relation) (s : Columns) (version : ℕ) (q : BuiltQuery) (page : Page) → w.closed ≡ None → store_asked w session words.version ≡ Ok store → relation_of store words.relation ≡ Some r → s ≡ relation_columns r → version_seen w store r.table words.version ≡ Ok version → IsBuiltOf s version (epoch_of r.table.lineage) words q → page ≡ page_of q.version q.limit q.resume (answer_rows s q.asked (relation_content r q.version)) → query_answer w session words ≡ Ok (answer_of (page, q))
answered_by w session words store r s version q page opened tables relation same there made is =
    answered_built w session words store r version q page opened tables relation there
    (subst (λ (s : Columns). IsBuiltOf s version (epoch_of r.table.lineage) words q) same made)
    (subst (λ (s : Columns). page ≡ page_of q.version q.limit q.resume (answer_rows s q.asked (relation_content r q.version))) same is)
