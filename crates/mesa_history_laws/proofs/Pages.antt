-- Pages one after another: each goes on where the one before it ended.
use Rattle.std.proofs.Common.{◌≡◌, ℕ, zero, suc, ◌-◌, ◌<◌, ◌≤◌, List, [], ◌∷◌, ◌++◌, map, filter, take, drop, length, refl, sym, ◌∙◌, ap, subst, arith, Bool, true, false, cond, nat_lt, Option, Some, None, append_assoc, replicate, inl, inr}
use Rattle.std.specs.List.{AllByRecursion, list_all}
use Rattle.std.specs.Ordering.{is_lt}
use Rattle.std.specs.declared.cmp.Ordering.{Ordering}
use Rattle.std.specs.declared.cmp.Ordering.TheVariants.{Less, Equal, Greater}
use Rattle.std.proofs.lemmas.Bool.{and_from, and_parts, cases_lt, le-ltb, lt-ltb, ltb-true}
use Rattle.std.proofs.lemmas.Cmp.{nat_list_cmp_total, tied_itself}
use Rattle.std.proofs.lemmas.List.{append-nil, length-drop, take-append-drop, take_all}
use Rattle.mesa_history_spec.specs.mesa_key.Order.{byte_cmp}
use Rattle.mesa_history_spec.specs.mesa_columns.declared.rows.Row.{Row}
use Rattle.mesa_history_spec.specs.mesa_columns.Columns.{Columns, aggs_of, chosen}
use Rattle.mesa_history_spec.specs.mesa_fold.Folded.{regrouped}
use Rattle.mesa_history_spec.specs.mesa_filter.Asked.{Asked}
use Rattle.mesa_history_spec.specs.mesa_filter.Filter.{filtered}
use Rattle.mesa_history_spec.specs.mesa_model.declared.replies.Page.{Page}
use Rattle.mesa_history_spec.specs.mesa_model.Page.{last_key, page_from, page_of, rows_after}
use Rattle.mesa_history_spec.specs.mesa_model.Query.{answer_rows}
use Rattle.mesa_history_spec.specs.mesa_columns.Rows.{keys_rise}
use Rattle.mesa_history_laws.specs.Pages.{pages_from, rows_left, rows_of_pages}
use Rattle.mesa_history_spec.proofs.mesa_columns.Lists.{all_filter, all_pass, all_so}
use Rattle.mesa_history_spec.proofs.mesa_fold.RisingRows.{folded_rise}

-- ---- keys in order

-- whether a key stands before another
abbrev before : List ℕ → List ℕ → Bool
before a b = is_lt (byte_cmp a b)

less : (o : Ordering) → is_lt o ≡ true → o ≡ Less
less Less h = refl
less Equal h = cc
less Greater h = cc

pub before_trans : (a b c : List ℕ) → before a b ≡ true → before b c ≡ true → before a c ≡ true
before_trans a b c h k = ap is_lt (nat_list_cmp_total.trans a b c (less _ h) (less _ k))

not_itself : (a : List ℕ) → before a a ≡ false
not_itself a = ap is_lt (tied_itself nat_list_cmp_total a)

-- a key that stands before another does not stand behind it
not_back : (a b : List ℕ) → before a b ≡ true → before b a ≡ false
not_back a b h = elim (before b a) as (λ t. before b a ≡ t → t ≡ false) [
  | true ↦ λ back. let loop = before_trans a b a h back in let no = not_itself a in cc
  | false ↦ λ back. refl
] refl

-- rows all behind a key
abbrev pub AllBehind : List ℕ → List Row → Type 0
AllBehind key rows = AllByRecursion (λ (row : Row). before key row.key ≡ true) rows

-- rows each of which is before all that follow it
abbrev pub Rises : List Row → Type 0
Rises [] = Unit {0}
Rises (row ∷ rows) = AllBehind row.key rows × Rises rows

behind_more : (a b : List ℕ) (rows : List Row) → before a b ≡ true → AllBehind b rows → AllBehind a rows
behind_more a b rows h all = all_so (λ (row : Row). before b row.key ≡ true) (λ (row : Row). before a row.key ≡ true) rows (λ row later. before_trans a b row.key h later) all

pub rises : (rows : List Row) → keys_rise rows ≡ true → Rises rows
rises [] h = tt
rises (row ∷ []) h = (tt, tt)
rises (row ∷ next ∷ rows) h =
    let parts = and_parts (before row.key next.key) (keys_rise (next ∷ rows)) h in
    let rest = rises (next ∷ rows) parts.1 in
    ((parts.0, behind_more row.key next.key rows parts.0 rest.0), rest)

pub rising : (rows : List Row) → Rises rows → keys_rise rows ≡ true
rising [] is = refl
rising (row ∷ []) is = refl
rising (row ∷ next ∷ rows) is = and_from (before row.key next.key) (keys_rise (next ∷ rows)) is.0.0 (rising (next ∷ rows) is.1)

rises_filter : (p : Row → Bool) (rows : List Row) → Rises rows → Rises (filter p rows)
rises_filter p [] is = tt
rises_filter p (row ∷ rows) is = elim (p row) as (λ b. Rises (cond b (row ∷ filter p rows) (filter p rows))) [
  | true ↦ (all_filter (λ (r : Row). before row.key r.key ≡ true) p rows is.0, rises_filter p rows is.1)
  | false ↦ rises_filter p rows is.1
]

pub rises_front : (xs ys : List Row) → Rises (xs ++ ys) → Rises xs
rises_front [] ys is = tt
rises_front (x ∷ xs) ys is = (front x.key xs ys is.0, rises_front xs ys is.1)
  where
    front : (key : List ℕ) (xs ys : List Row) → AllBehind key (xs ++ ys) → AllBehind key xs
    front key [] ys all = tt
    front key (x ∷ xs) ys all = (all.0, front key xs ys all.1)

-- ---- one page

-- the rows from some on are behind the last of those before
last_behind : (key : List ℕ) (rows : List Row) (n : ℕ) → suc n ≤ length rows → AllBehind key rows → before key (last_key (take (suc n) rows)) ≡ true
last_behind key [] n lt all = absurd (omega (arith, lt))
last_behind key (row ∷ rows) zero lt all = all.0
last_behind key (row ∷ []) (suc n) lt all = absurd (omega (arith, lt))
last_behind key (row ∷ next ∷ rows) (suc n) lt all = last_behind key (next ∷ rows) n (omega (arith, lt)) all.1

-- the rows after the last key of the first rows are the rows behind these
after_last : (rows : List Row) (n : ℕ) → suc n ≤ length rows → Rises rows → rows_after (Some (last_key (take (suc n) rows))) rows ≡ drop (suc n) rows
after_last [] n lt is = absurd (omega (arith, lt))
after_last (row ∷ rows) zero lt is =
    ap (λ b. cond b (row ∷ filter (λ (r : Row). before row.key r.key) rows) (filter (λ (r : Row). before row.key r.key) rows)) (not_itself row.key)
    ∙ all_pass (λ (r : Row). before row.key r.key ≡ true) (λ (r : Row). before row.key r.key) rows (λ r h. h) is.0
after_last (row ∷ []) (suc n) lt is = absurd (omega (arith, lt))
after_last (row ∷ next ∷ rows) (suc n) lt is =
    let key : List ℕ = last_key (take (suc n) (next ∷ rows)) in
    ap (λ b. cond b (row ∷ rows_after (Some key) (next ∷ rows)) (rows_after (Some key) (next ∷ rows))) (not_back row.key key (last_behind row.key (next ∷ rows) n (omega (arith, lt)) is.0))
    ∙ after_last (next ∷ rows) n (omega (arith, lt)) is.1

-- rows after a later key are those of the rows after an earlier one
after_later : (first later : List ℕ) (rows : List Row) → before first later ≡ true → rows_after (Some later) (rows_after (Some first) rows) ≡ rows_after (Some later) rows
after_later first later [] h = refl
after_later first later (row ∷ rows) h =
    let rest = after_later first later rows h in
    let after : List Row = rows_after (Some first) rows in
    elim (before later row.key) as (λ b. before later row.key ≡ b
    → rows_after (Some later) (cond (before first row.key) (row ∷ after) after) ≡ cond b (row ∷ rows_after (Some later) rows) (rows_after (Some later) rows)) [
      | true ↦ λ is.
          ap (λ b. rows_after (Some later) (cond b (row ∷ after) after)) (before_trans first later row.key h is)
          ∙ ap (λ b. cond b (row ∷ rows_after (Some later) after) (rows_after (Some later) after)) is
          ∙ ap (λ rows. row ∷ rows) rest
      | false ↦ λ is. elim (before first row.key) as (λ b. rows_after (Some later) (cond b (row ∷ after) after) ≡ rows_after (Some later) rows) [
        | true ↦ ap (λ b. cond b (row ∷ rows_after (Some later) after) (rows_after (Some later) after)) is ∙ rest
        | false ↦ rest
      ]
    ] refl

all_after : (key : List ℕ) (rows : List Row) → AllBehind key (rows_after (Some key) rows)
all_after key [] = tt
all_after key (row ∷ rows) = elim (before key row.key) as (λ b. before key row.key ≡ b → AllBehind key (cond b (row ∷ rows_after (Some key) rows) (rows_after (Some key) rows))) [
  | true ↦ λ is. (is, all_after key rows)
  | false ↦ λ is. all_after key rows
] refl

-- The rows after the last key of a page are the rows behind the page.
behind_page : (resume : Option (List ℕ)) (rows : List Row) (limit : ℕ) → 0 < limit → limit < length (rows_after resume rows) → Rises rows
    → rows_after (Some (last_key (take limit (rows_after resume rows)))) rows ≡ drop limit (rows_after resume rows)
behind_page resume rows zero some lt is = absurd (omega (arith, some))
behind_page None rows (suc n) some lt is = after_last rows n (omega (arith, lt)) is
behind_page (Some first) rows (suc n) some lt is =
    let after : List Row = rows_after (Some first) rows in
    let key : List ℕ = last_key (take (suc n) after) in
    sym (after_later first key rows (last_behind first after n (omega (arith, lt)) (all_after first rows)))
    ∙ after_last after n (omega (arith, lt)) (rises_filter (λ (row : Row). before first row.key) rows is)

-- what a page says of the rows behind it
pub record Tells (limit : ℕ) (rows : List Row) (resume : Option (List ℕ)) : Type 0 where
  pub some : (key : List ℕ) → resume ≡ Some key → (limit < length rows) × (last_key (take limit rows) ≡ key)
  pub none : resume ≡ None → length rows ≤ limit

pub tells : (version limit : ℕ) (rows : List Row) → Tells limit rows (page_from version limit rows).resume
tells version limit rows = elim (cases_lt limit (length rows)) [
  | inl lt ↦ subst (λ b. Tells limit rows (cond b (Some (last_key (take limit rows))) None)) (sym (lt-ltb limit (length rows) lt)) (record { some = λ key e. (lt, cc); none = λ e. cc })
  | inr le ↦ subst (λ b. Tells limit rows (cond b (Some (last_key (take limit rows))) None)) (sym (le-ltb limit (length rows) le)) (record { some = λ key e. cc; none = λ e. le })
]

-- The rows after the resume key that a page gave are the rows behind the page.
pub goes_on : (version limit : ℕ) (resume : Option (List ℕ)) (rows : List Row) (key : List ℕ) → keys_rise rows ≡ true → 0 < limit
    → (page_of version limit resume rows).resume ≡ Some key → rows_after (Some key) rows ≡ drop limit (rows_after resume rows)
goes_on version limit resume rows key is some gave =
    let told = (tells version limit (rows_after resume rows)).some key gave in
    ap (λ k. rows_after (Some k) rows) (sym told.1) ∙ behind_page resume rows limit some told.0 (rises rows is)

-- ---- a chain of pages

-- what is left after some pages that were begun after a resume key
abbrev left_after : List Row → Option (List ℕ) → List Page → List Row
left_after rows resume [] = rows_after resume rows
left_after rows resume (page ∷ pages) = rows_left rows (page ∷ pages)

left_some : (rows : List Row) (page : Page) (key : List ℕ) (pages : List Page) → page.resume ≡ Some key → rows_left rows (page ∷ pages) ≡ left_after rows (Some key) pages
left_some rows page key [] gave = ap (λ (o : Option (List ℕ)). elim o as (λ _. List Row) [ None ↦ [] | Some key ↦ rows_after (Some key) rows ]) gave
left_some rows page key (next ∷ pages) gave = refl

left_none : (rows : List Row) (page : Page) → page.resume ≡ None → rows_left rows (page ∷ []) ≡ []
left_none rows page gave = ap (λ (o : Option (List ℕ)). elim o as (λ _. List Row) [ None ↦ [] | Some key ↦ rows_after (Some key) rows ]) gave

pub chained : (version : ℕ) (rows : List Row) (resume : Option (List ℕ)) (limits : List ℕ) → keys_rise rows ≡ true → list_all (nat_lt 0) limits ≡ true
    → rows_of_pages (pages_from version rows resume limits) ++ left_after rows resume (pages_from version rows resume limits) ≡ rows_after resume rows
chained version rows resume [] is some = refl
chained version rows resume (limit ∷ limits) is some =
    let parts = and_parts (nat_lt 0 limit) (list_all (nat_lt 0) limits) some in
    let page : Page = page_of version limit resume rows in
    let after : List Row = rows_after resume rows in
    elim (page.resume) as (λ (o : Option (List ℕ)). page.resume ≡ o
    → let rest : List Page = elim o as (λ _. List Page) [ None ↦ [] | Some key ↦ pages_from version rows (Some key) limits ] in
    (take limit after ++ rows_of_pages rest) ++ rows_left rows (page ∷ rest) ≡ after) [
      | None ↦ λ gave.
          ap (λ (left : List Row). (take limit after ++ []) ++ left) (left_none rows page gave) ∙ append-nil (take limit after ++ []) ∙ append-nil (take limit after)
          ∙ take_all limit after ((tells version limit after).none gave)
      | Some key ↦ λ gave.
          let rest : List Page = pages_from version rows (Some key) limits in
          append_assoc (take limit after) (rows_of_pages rest) (rows_left rows (page ∷ rest))
          ∙ ap (λ left. take limit after ++ (rows_of_pages rest ++ left)) (left_some rows page key rest gave)
          ∙ ap (λ (behind : List Row). take limit after ++ behind) (chained version rows (Some key) limits is parts.1 ∙ goes_on version limit resume rows key is (ltb-true 0 limit parts.0) gave)
          ∙ take-append-drop limit after
    ] refl

-- Pages are consecutive parts of the rows, from the first on.
pub consecutive : (version : ℕ) (rows : List Row) (limits : List ℕ) → keys_rise rows ≡ true → list_all (nat_lt 0) limits ≡ true
    → rows_of_pages (pages_from version rows None limits) ++ rows_left rows (pages_from version rows None limits) ≡ rows
consecutive version rows [] is some = refl
consecutive version rows (limit ∷ limits) is some = chained version rows None (limit ∷ limits) is some

-- No row comes twice.
pub once : (version : ℕ) (rows : List Row) (limits : List ℕ) → keys_rise rows ≡ true → list_all (nat_lt 0) limits ≡ true → keys_rise (rows_of_pages (pages_from version rows None limits)) ≡ true
once version rows limits is some =
    let pages : List Page = pages_from version rows None limits in
    rising (rows_of_pages pages) (rises_front (rows_of_pages pages) (rows_left rows pages) (subst Rises (sym (consecutive version rows limits is some)) (rises rows is)))

-- The rows of every answer rise.
pub answers_rise : (s : Columns) (asked : Asked) (rows : List Row) → keys_rise (answer_rows s asked rows) ≡ true
answers_rise s asked rows = folded_rise (chosen asked.values (aggs_of s)) (map (regrouped s asked.columns asked.values) (filtered s asked.terms rows) ∷ [])

-- Rows that are asked for page by page, more often than there are rows, are all read.
pub all_read : (version limit : ℕ) (rows : List Row) (resume : Option (List ℕ)) (times : ℕ) → keys_rise rows ≡ true → 0 < limit → length (rows_after resume rows) < times
    → left_after rows resume (pages_from version rows resume (replicate times limit)) ≡ []
all_read version limit rows resume zero is some lt = absurd (omega (arith, lt))
all_read version limit rows resume (suc times) is some lt =
    let page : Page = page_of version limit resume rows in
    let after : List Row = rows_after resume rows in
    elim (page.resume) as (λ (o : Option (List ℕ)). page.resume ≡ o
    → rows_left rows (page ∷ elim o as (λ _. List Page) [ None ↦ [] | Some key ↦ pages_from version rows (Some key) (replicate times limit) ]) ≡ []) [
      | None ↦ λ gave. left_none rows page gave
      | Some key ↦ λ gave.
          let told = (tells version limit after).some key gave in
          let more = told.0 in
          let behind : length (rows_after (Some key) rows) ≡ length after - limit = ap length (goes_on version limit resume rows key is some gave) ∙ length-drop limit after in
          left_some rows page key (pages_from version rows (Some key) (replicate times limit)) gave ∙ all_read version limit rows (Some key) times is some (omega (arith, behind, more, lt, some))
    ] refl

some_each : (limit times : ℕ) → 0 < limit → list_all (nat_lt 0) (replicate times limit) ≡ true
some_each limit zero some = refl
some_each limit (suc times) some = and_from (nat_lt 0 limit) (list_all (nat_lt 0) (replicate times limit)) (lt-ltb 0 limit some) (some_each limit times some)

-- The pages of one limit are consecutive parts of the rows, and all of them where one asks more often than there are rows.
pub consecutive_each : (version limit times : ℕ) (rows : List Row) → keys_rise rows ≡ true → 0 < limit
    → rows_of_pages (pages_from version rows None (replicate times limit)) ++ rows_left rows (pages_from version rows None (replicate times limit)) ≡ rows
consecutive_each version limit times rows is some = consecutive version rows (replicate times limit) is (some_each limit times some)

pub whole_each : (version limit times : ℕ) (rows : List Row) → keys_rise rows ≡ true → 0 < limit → length rows < times → rows_of_pages (pages_from version rows None (replicate times limit)) ≡ rows
whole_each version limit times rows is some lt =
    let pages : List Page = pages_from version rows None (replicate times limit) in
    sym (append-nil (rows_of_pages pages)) ∙ ap (λ (left : List Row). rows_of_pages pages ++ left) (sym (all_read version limit rows None times is some lt))
    ∙ chained version rows None (replicate times limit) is (some_each limit times some)

pub once_each : (version limit times : ℕ) (rows : List Row) → keys_rise rows ≡ true → 0 < limit → keys_rise (rows_of_pages (pages_from version rows None (replicate times limit))) ≡ true
once_each version limit times rows is some = once version rows (replicate times limit) is (some_each limit times some)
