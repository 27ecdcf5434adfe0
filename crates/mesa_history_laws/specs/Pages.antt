-- Pages of one answer that are asked for one after another.
use Rattle.std.specs.Prelude.{IsTrue, ◌≡◌, ◌<◌, length, ℕ, replicate, List, [], ◌∷◌, ◌++◌, flat_map, Option, Some, None, Ok, Err}
use Rattle.mesa_history_spec.specs.mesa_columns.declared.rows.Row.{Row}
use Rattle.mesa_history_spec.specs.mesa_filter.Hex.{hex_of}
use Rattle.mesa_history_spec.specs.mesa_filter.declared.words.QueryWords.{QueryWords}
use Rattle.mesa_history_spec.specs.mesa_model.declared.replies.Page.{Page}
use Rattle.mesa_history_spec.specs.mesa_model.Warehouse.{Warehouse}
use Rattle.mesa_history_spec.specs.mesa_columns.Rows.{keys_rise}
use Rattle.mesa_history_spec.specs.mesa_model.Query.{Answer, query_answer}
use Rattle.mesa_history_spec.specs.mesa_model.Page.{page_of, rows_after}

-- The pages that come of asking with these limits one after another: each after the resume key that the page before it gave, until one gives none.
abbrev pub pages_from : ℕ → List Row → Option (List ℕ) → List ℕ → List Page
pages_from version rows resume [] = []
pages_from version rows resume (limit ∷ limits) =
    page_of version limit resume rows
    ∷ elim ((page_of version limit resume rows).resume) [ None ↦ [] | Some key ↦ pages_from version rows (Some key) limits ]

-- the rows of pages, one page's after another's
abbrev pub rows_of_pages : List Page → List Row
rows_of_pages pages = flat_map (λ (page : Page). page.rows) pages

-- what is left of an answer's rows after some of its pages: all where there was no page, those after the last page's resume key, and none where it gave none
abbrev pub rows_left : List Row → List Page → List Row
rows_left rows [] = rows
rows_left rows (page ∷ []) = elim (page.resume) [ None ↦ [] | Some key ↦ rows_after (Some key) rows ]
rows_left rows (page ∷ next ∷ pages) = rows_left rows (next ∷ pages)

-- ---- pages of a query

-- a query asked from the first row on, with this limit
abbrev pub from_first : QueryWords → ℕ → QueryWords
from_first words limit = record words { limit = limit; resume = [] }

-- a query asked again after a resume key, as it is printed behind an answer
abbrev pub asked_after : QueryWords → Answer → List ℕ → QueryWords
asked_after words answer key = record words { resume = answer.heading.prefix ++ hex_of key }

-- Where a page is asked for: of a warehouse, by a session.
pub record Asking : Type 0 where
  pub warehouse : Warehouse
  pub session : ℕ

-- The pages that come of asking a query at these places one after another: first as it stands, and then after the resume key that the page before it gave, as it is printed, until one gives none or is refused.
abbrev pub pages_asked_at : List Asking → QueryWords → List Page
pages_asked_at [] words = []
pages_asked_at (asking ∷ askings) words = elim (query_answer asking.warehouse asking.session words) [
  | Err refusal ↦ []
  | Ok answer ↦ answer.page ∷ elim (answer.page.resume) [ None ↦ [] | Some key ↦ pages_asked_at askings (asked_after words answer key) ]
]

-- the pages that come of asking so many times at one place
abbrev pub pages_asked : Warehouse → ℕ → QueryWords → ℕ → List Page
pages_asked w session words times = pages_asked_at (replicate times (record { warehouse = w; session = session })) words

-- A query's whole answer: what it is answered with a limit that leaves no further row.
pub record IsWholeAnswer (w : Warehouse) (session : ℕ) (words : QueryWords) (whole : Answer) : Type 0 where
  pub limit : ℕ
  pub answers : query_answer w session (from_first words limit) ≡ Ok whole
  pub last : whole.page.resume ≡ None

-- Pages that are consecutive parts of some rows, from the first on, in which no row comes twice, and all of the rows where they were asked for more often than there are rows.
pub record ArePagesOf (rows : List Row) (times : ℕ) (pages : List Page) : Type 0 where
  pub front : rows_of_pages pages ++ rows_left rows pages ≡ rows
  pub once : IsTrue (keys_rise (rows_of_pages pages))
  pub all : length rows < times → rows_of_pages pages ≡ rows
