-- A query that is asked again and again with the resume key that was printed gets the pages of one answer.
use Rattle.std.proofs.Common.{◌≡◌, ℕ, zero, suc, ◌<◌, ◌≤◌, List, [], ◌∷◌, ◌++◌, length, take, refl, sym, ◌∙◌, ap, subst, arith, replicate, Option, Some, None, Result, Ok, Err, ok_or, nat_lt, true}
use Rattle.std.specs.List.{AllByRecursion}
use Rattle.std.proofs.lemmas.Bool.{cond-false, le-ltb}
use Rattle.std.proofs.lemmas.List.{length-replicate, take_all}
use Rattle.mesa_history_spec.specs.mesa_list.Checks.{◌>>=◌, ◌>>◌, refused_as}
use Rattle.mesa_history_spec.specs.mesa_key.declared.KeyType.{KeyType}
use Rattle.mesa_history_spec.specs.mesa_columns.declared.rows.Row.{Row}
use Rattle.mesa_history_spec.specs.mesa_columns.Columns.{Columns, chosen, kinds_of}
use Rattle.mesa_history_spec.specs.mesa_schema.Changes.{epoch_of}
use Rattle.mesa_history_spec.proofs.mesa_fold.KeyLifts.{Spells}
use Rattle.mesa_history_spec.specs.mesa_filter.declared.words.QueryError.{QueryError}
use Rattle.mesa_history_spec.specs.mesa_filter.declared.words.QueryWords.{QueryWords}
use Rattle.mesa_history_spec.specs.mesa_filter.Asked.{Asked, asked_of}
use Rattle.mesa_history_spec.specs.mesa_filter.Hex.{hex_of}
use Rattle.mesa_history_spec.specs.mesa_filter.Resume.{resume_of, resume_prefix}
use Rattle.mesa_history_spec.specs.mesa_model.declared.replies.Page.{Page}
use Rattle.mesa_history_spec.specs.mesa_model.declared.replies.Refusal.{Refusal}
use Rattle.mesa_history_spec.specs.mesa_model.Warehouse.{Store, Warehouse}
use Rattle.mesa_history_spec.specs.mesa_columns.Rows.{keys_rise}
use Rattle.mesa_history_spec.specs.mesa_model.Page.{last_key, page_of, rows_after}
use Rattle.mesa_history_spec.specs.mesa_model.Relations.{Relation, relation_columns, relation_content, relation_of}
use Rattle.mesa_history_spec.specs.mesa_model.Refusals.{no_such_table, query_refusal, refuse_closed}
use Rattle.mesa_history_spec.specs.mesa_model.Query.{Answer, answer_over, answer_rows, query_answer, store_asked, version_seen}
use Rattle.mesa_history_laws.specs.Pages.{ArePagesOf, Asking, IsWholeAnswer, asked_after, from_first, pages_asked, pages_asked_at, pages_from, rows_left, rows_of_pages}
use Rattle.mesa_history_laws.proofs.AnswersOver.{answer_in}
use Rattle.mesa_history_laws.proofs.Checks.{bound, bound_other, bound_some, passed}
use Rattle.mesa_history_spec.proofs.mesa_fold.GroupKeys.{AllSpell}
use Rattle.mesa_history_spec.proofs.mesa_columns.Lists.{all_filter, all_replicate, all_so}
use Rattle.mesa_history_laws.proofs.Pages.{answers_rise, consecutive_each, once_each, tells, whole_each}
use Rattle.mesa_history_laws.proofs.Resuming.{resume_again}
use Rattle.mesa_history_laws.proofs.StoredRows.{IsStored, answer_spells}

-- ---- the resume key of a page

last_of : (P : Row → Type 0) (rows : List Row) (n : ℕ) → suc n ≤ length rows → AllByRecursion P rows → (Q : List ℕ → Type 0) → ((row : Row) → P row → Q row.key) → Q (last_key (take (suc n) rows))
last_of P [] n lt all Q of = absurd (omega (arith, lt))
last_of P (row ∷ rows) zero lt all Q of = of row all.0
last_of P (row ∷ []) (suc n) lt all Q of = absurd (omega (arith, lt))
last_of P (row ∷ next ∷ rows) (suc n) lt all Q of = last_of P (next ∷ rows) n (omega (arith, lt)) all.1 Q of

all_behind : (P : Row → Type 0) (resume : Option (List ℕ)) (rows : List Row) → AllByRecursion P rows → AllByRecursion P (rows_after resume rows)
all_behind P None rows all = all
all_behind P (Some key) rows all = all_filter P _ rows all

-- a resume key is the key of a row
resume_spells : (types : List KeyType) (version limit : ℕ) (resume : Option (List ℕ)) (rows : List Row) (key : List ℕ) → 0 < limit → AllSpell types rows → (page_of version limit resume rows).resume ≡ Some key → Spells types key
resume_spells types version zero resume rows key some all gave = absurd (omega (arith, some))
resume_spells types version (suc n) resume rows key some all gave =
    let after : List Row = rows_after resume rows in
    let told = (tells version (suc n) after).some key gave in
    let lt = told.0 in
    subst (Spells types) told.1 (last_of (λ (row : Row). Spells types row.key) after n (omega (arith, lt)) (all_behind (λ (row : Row). Spells types row.key) resume rows all) (Spells types) (λ row is. is))

-- ---- one answer, asked for page by page

module _ (words : QueryWords) (limit : ℕ) (some : 0 < limit) where
  -- the query with a limit and a resume key
  abbrev W : ℕ → List ℕ → QueryWords
  W n text = record words { limit = n; resume = text }

  module _ (store : Store) (relation : Relation) (asked : Asked) (version : ℕ) (stored : IsStored store) (found : relation_of store words.relation ≡ Some relation) where
    abbrev columns : Columns
    columns = relation_columns relation

    abbrev rows : List Row
    rows = answer_rows columns asked (relation_content relation version)

    abbrev reads : List ℕ → Result (Option (List ℕ)) QueryError
    reads text = resume_of columns words.relation version (epoch_of relation.table.lineage) asked.columns text

    -- the pages that follow an outcome
    abbrev pages_after : QueryWords → List Asking → Result Answer Refusal → List Page
    pages_after asks askings (Err refusal) = []
    pages_after asks askings (Ok answer) = answer.page ∷ elim (answer.page.resume) [ None ↦ [] | Some key ↦ pages_asked_at askings (asked_after asks answer key) ]

    -- the query is answered there over these rows, whatever the resume key
    abbrev pub AnswersThere : Asking → Type 0
    AnswersThere asking = (text : List ℕ) (resume : Option (List ℕ)) → reads text ≡ Ok resume → query_answer asking.warehouse asking.session (W limit text) ≡ Ok (answer_over relation (W limit text) version asked resume)

    -- The pages that are asked for are those of the answer's rows.
    pages_are : (askings : List Asking) (text : List ℕ) (resume : Option (List ℕ)) → AllByRecursion AnswersThere askings → reads text ≡ Ok resume → pages_asked_at askings (W limit text) ≡ pages_from version rows resume (replicate (length askings) limit)
    pages_are [] text resume answers is = refl
    pages_are (asking ∷ askings) text resume answers is =
        let page : Page = page_of version limit resume rows in
        let prefix : List ℕ = resume_prefix columns words.relation version (epoch_of relation.table.lineage) asked.columns in
        ap (pages_after (W limit text) askings) (answers.0 text resume is)
        ∙ (elim (page.resume) as (λ (o : Option (List ℕ)). page.resume ≡ o
        → (page ∷ elim o as (λ _. List Page) [ None ↦ [] | Some key ↦ pages_asked_at askings (W limit (prefix ++ hex_of key)) ])
        ≡ (page ∷ elim o as (λ _. List Page) [ None ↦ [] | Some key ↦ pages_from version rows (Some key) (replicate (length askings) limit) ])) [
          | None ↦ λ gave. refl
          | Some key ↦ λ gave.
              let spells : Spells (chosen asked.columns (kinds_of columns)) key =
              resume_spells (chosen asked.columns (kinds_of columns)) version limit resume rows key some (answer_spells store words.relation relation asked version stored found) gave in
              ap (λ rest. page ∷ rest) (pages_are askings (prefix ++ hex_of key) (Some key) answers.1 (resume_again columns words.relation version (epoch_of relation.table.lineage) asked.columns key spells))
        ] refl)

-- ---- what an answer was made of

-- The tables, the relation, what is asked and the version of a query that was answered, and that it is answered so with any limit and resume key.
record Answered (w : Warehouse) (session : ℕ) (words : QueryWords) (all : ℕ) (whole : Answer) : Type 0 where
  store : Store
  relation : Relation
  asked : Asked
  version : ℕ
  sees : store_asked w session words.version ≡ Ok store
  found : relation_of store words.relation ≡ Some relation
  page : whole.page ≡ page_of version all None (answer_rows (relation_columns relation) asked (relation_content relation version))
  answers : (limit : ℕ) (text : List ℕ) (resume : Option (List ℕ)) → resume_of (relation_columns relation) words.relation version (epoch_of relation.table.lineage) asked.columns text ≡ Ok resume
      → query_answer w session (record words { limit = limit; resume = text }) ≡ Ok (answer_over relation (record words { limit = limit; resume = text }) version asked resume)

-- a check that has passed passes again
opened : {A B E : Type 0} (r : Result A E) (next other : Result B E) (y : B) → (r >> next) ≡ Ok y → (r >> other) ≡ other
opened (Ok x) next other y is = refl
opened (Err e) next other y is = cc

answered : (w : Warehouse) (session : ℕ) (words : QueryWords) (all : ℕ) (whole : Answer) → query_answer w session (from_first words all) ≡ Ok whole → Answered w session words all whole
answered w session words all whole is =
    let first : QueryWords = from_first words all in
    let over : Store → Result Answer Refusal = λ (s : Store). answer_in s first (λ t. version_seen w s t words.version) in
    let open' = passed (refuse_closed w.closed) (store_asked w session words.version >>= over) whole is in
    let store = bound (store_asked w session words.version) over whole open' in
    let s : Store = store.0 in
    let relation = bound_some (relation_of s words.relation) no_such_table _ whole store.2 in
    let r : Relation = relation.0 in
    let asked = bound_other query_refusal (asked_of (relation_columns r) first) _ whole relation.2 in
    let version = bound (version_seen w s r.table words.version) _ whole asked.2 in
    let last : Ok (answer_over r first version.0 asked.0 None) ≡ Ok whole = version.2 in
    let same : answer_over r first version.0 asked.0 None ≡ whole = cc in
    record {
      store = s;
      relation = r;
      asked = asked.0;
      version = version.0;
      sees = store.1;
      found = relation.1;
      page = ap (λ (a : Answer). a.page) (sym same);
      answers = λ limit text resume reads.
          let again : QueryWords = record words { limit = limit; resume = text } in
          let more : Relation → Asked → ℕ → Result Answer Refusal = λ (x : Relation) (a : Asked) (v : ℕ).
          refused_as query_refusal (resume_of (relation_columns x) words.relation v (epoch_of x.table.lineage) a.columns text) >>= (λ (key : Option (List ℕ)). Ok (answer_over x again v a key)) in
          opened (refuse_closed w.closed) (store_asked w session words.version >>= over) (store_asked w session words.version >>= (λ (s : Store). answer_in s again (λ t. version_seen w s t words.version))) whole is
          ∙ ap (λ o. o >>= (λ (s : Store). answer_in s again (λ t. version_seen w s t words.version))) store.1
          ∙ ap (λ o. ok_or o no_such_table >>= (λ (x : Relation). refused_as query_refusal (asked_of (relation_columns x) again) >>= (λ (a : Asked). version_seen w s x.table words.version >>= (λ (v : ℕ). more x a v)))) relation.1
          ∙ ap (λ o. refused_as query_refusal o >>= (λ (a : Asked). version_seen w s r.table words.version >>= (λ (v : ℕ). more r a v))) asked.1
          ∙ ap (λ o. o >>= (λ (v : ℕ). more r asked.0 v)) version.1
          ∙ ap (λ o. refused_as query_refusal o >>= (λ (key : Option (List ℕ)). Ok (answer_over r again version.0 asked.0 key))) reads;
    }

-- ---- the whole answer

-- a place where the query gets the answers that it gets elsewhere
abbrev pub AsksAlike : Warehouse → ℕ → QueryWords → ℕ → Asking → Type 0
AsksAlike w session words limit asking = (text : List ℕ) (answer : Answer) → query_answer w session (record words { limit = limit; resume = text }) ≡ Ok answer → query_answer asking.warehouse asking.session (record words { limit = limit; resume = text }) ≡ Ok answer

module _ (w : Warehouse) (session : ℕ) (words : QueryWords) (limit all : ℕ) (whole : Answer) (stored : (s : Store) → store_asked w session words.version ≡ Ok s → IsStored s)
    (some : 0 < limit) (is : query_answer w session (from_first words all) ≡ Ok whole) (last : whole.page.resume ≡ None) where
  -- the rows of the answer, and the pages of them
  record Whole : Type 0 where
    version : ℕ
    rows : List Row
    rises : keys_rise rows ≡ true
    same : whole.page.rows ≡ rows
    pages : (askings : List Asking) → AllByRecursion (AsksAlike w session words limit) askings → pages_asked_at askings (from_first words limit) ≡ pages_from version rows None (replicate (length askings) limit)

  read_whole : Whole
  read_whole =
      let made = answered w session words all whole is in
      let columns : Columns = relation_columns made.relation in
      let content : List Row = relation_content made.relation made.version in
      let rows : List Row = answer_rows columns made.asked content in
      let told : (page_of made.version all None rows).resume ≡ None = ap (λ (p : Page). p.resume) (sym made.page) ∙ last in
      let kept : IsStored made.store = stored made.store made.sees in
      record {
        version = made.version;
        rows = rows;
        rises = answers_rise columns made.asked content;
        same = ap (λ (p : Page). p.rows) made.page ∙ take_all all rows ((tells made.version all rows).none told);
        pages = λ askings alike. pages_are words limit some made.store made.relation made.asked made.version kept made.found askings [] None
            (all_so (AsksAlike w session words limit) (AnswersThere words limit some made.store made.relation made.asked made.version kept made.found) askings
            (λ asking asks text resume reads. asks text _ (made.answers limit text resume reads)) alike) refl;
      }

  -- The pages of a query, wherever they are asked for that it gets the same answers, are those of its whole answer.
  pub pages_of_whole : (askings : List Asking) → AllByRecursion (AsksAlike w session words limit) askings → ArePagesOf whole.page.rows (length askings) (pages_asked_at askings (from_first words limit))
  pages_of_whole askings alike =
      let read = read_whole in
      record {
        front = (λ i. rows_of_pages (read.pages askings alike i) ++ rows_left (read.same i) (read.pages askings alike i)) ∙ consecutive_each read.version limit (length askings) read.rows read.rises some ∙ sym read.same;
        once = subst (λ pages. keys_rise (rows_of_pages pages) ≡ true) (sym (read.pages askings alike)) (once_each read.version limit (length askings) read.rows read.rises some);
        all = λ lt. ap rows_of_pages (read.pages askings alike) ∙ whole_each read.version limit (length askings) read.rows read.rises some (subst (λ (xs : List Row). length xs < length askings) read.same lt) ∙ sym read.same;
      }

  pub pages_of_place : (times : ℕ) → ArePagesOf whole.page.rows times (pages_asked w session (from_first words limit) times)
  pages_of_place times =
      let place : Asking = record { warehouse = w; session = session } in
      subst (λ n. ArePagesOf whole.page.rows n (pages_asked w session (from_first words limit) times)) (length-replicate times place)
      (pages_of_whole (replicate times place) (all_replicate (AsksAlike w session words limit) place times (λ text answer is. is)))

-- A query that is answered has a whole answer: the limit is the number of its rows.
pub whole_there : (w : Warehouse) (session : ℕ) (words : QueryWords) (limit : ℕ) (first : Answer) → query_answer w session (from_first words limit) ≡ Ok first → (whole : Answer) × IsWholeAnswer w session words whole
whole_there w session words limit first is =
    let made = answered w session words limit first is in
    let rows : List Row = answer_rows (relation_columns made.relation) made.asked (relation_content made.relation made.version) in (
      answer_over made.relation (from_first words (length rows)) made.version made.asked None,
      record {
        limit = length rows;
        answers = made.answers (length rows) [] None refl;
        last = cond-false (nat_lt (length rows) (length rows)) (Some (last_key (take (length rows) rows))) None (le-ltb (length rows) (length rows) (omega arith));
      },
    )
