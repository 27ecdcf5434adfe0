-- The answer over a relation's rows, by the rows that were put in.
use Rattle.std.proofs.Common.{◌≡◌, ℕ, ◌<◌, ◌≤◌, get_or, List, [], ◌∷◌, ◌++◌, map, take, cond, inl, inr, refl, sym, ◌∙◌, ap, subst, arith, true, false}
use Rattle.std.specs.Prelude.{◌⊎◌, Bool, filter, Option, None, Some, slice_get, sum_by, nat_abs, not, pos}
use Rattle.std.specs.List.{AllByRecursion}
use Rattle.std.proofs.Math.Seq.{take-nil}
use Rattle.std.proofs.lemmas.Bool.{le-ltb}
use Rattle.std.proofs.lemmas.List.Elements.{filter-append}
use Rattle.std.proofs.lemmas.List.Filters.{sum_by-filter_both}
use Rattle.mesa_model.specs.mesa_value.Agg.{sum_bound}
use Rattle.mesa_group_blocks.specs.mesa_key.Spelling.{key_of}
use Rattle.mesa_group_blocks.specs.mesa_columns.declared.rows.Row.{Row}
use Rattle.mesa_group_blocks.specs.mesa_columns.Columns.{Columns, aggs_of, kinds_of}
use Rattle.mesa_group_blocks.specs.mesa_fold.Folded.{folded, grouped, rows_of}
use Rattle.mesa_group_blocks.specs.mesa_columns.Rows.{AreRowsOf}
use Rattle.mesa_group_blocks.proofs.mesa_fold.FilteredFolds.{filtered_folds}
use Rattle.mesa_filter.specs.declared.terms.Term.{Term}
use Rattle.mesa_filter.specs.Filter.{filtered, meets}
use Rattle.mesa_filter.specs.Query.{BuiltQuery, IsQueryOf}
use Rattle.mesa_model.specs.declared.replies.Page.{Page}
use Rattle.mesa_model.specs.Page.{last_key, page_from, page_of, rows_after}
use Rattle.mesa_model.specs.Query.{answer_rows}
use Rattle.mesa_group_blocks.specs.mesa_answer.Answering.{AnswersParts, KeepsSums}
use Rattle.mesa_group_blocks.specs.mesa_answer.Gathering.{Wanted, wanted_by}
use Rattle.mesa_group_blocks.specs.mesa_open_files.Inputs.{lineage_of}
use Rattle.mesa_group_blocks.specs.mesa_open_files.Pins.{IsOfRelation, IsPinnedInput}
use Rattle.mesa_group_blocks.specs.mesa_open_files.declared.querying.PinnedInput.{PinnedInput}
use Rattle.mesa_file.specs.declared.damage.Damage.{Damage}
use Rattle.mesa_query.specs.Files.{IsDamageIn}
use Rattle.mesa_group_blocks.specs.Ungrouped.{parts_ungrouped}
use Rattle.mesa_query.specs.Relation.{page_over, parts_pinned}
use Rattle.mesa_query.specs.Sums.{IsSumIn}
use Rattle.mesa_query.proofs.Ungrouped.{pinned_ungrouped}

-- ---- rows that are filtered again

twice : (test : Row → Bool) (rows : List Row) → filter test (filter test rows) ≡ filter test rows
twice test [] = refl
twice test (row ∷ rows) =
    elim (test row) as (λ t. test row ≡ t → filter test (cond t (row ∷ filter test rows) (filter test rows)) ≡ cond t (row ∷ filter test rows) (filter test rows)) [
      | true ↦ λ e. ap (λ b. cond b (row ∷ filter test (filter test rows)) (filter test (filter test rows))) e ∙ ap (λ (others : List Row). row ∷ others) (twice test rows)
      | false ↦ λ e. twice test rows
    ] refl

parts_twice : (s : Columns) (terms : List Term) (parts : List (List Row)) → map (filtered s terms) (map (filtered s terms) parts) ≡ map (filtered s terms) parts
parts_twice s terms [] = refl
parts_twice s terms (part ∷ parts) = λ k. twice (λ (row : Row). meets (key_of (kinds_of s) row.key) terms) part k ∷ parts_twice s terms parts k

rows_filtered : (s : Columns) (terms : List Term) (parts : List (List Row)) → rows_of (map (filtered s terms) parts) ≡ filtered s terms (rows_of parts)
rows_filtered s terms [] = refl
rows_filtered s terms (part ∷ parts) =
    ap (λ (rows : List Row). filtered s terms part ++ rows) (rows_filtered s terms parts) ∙ sym (filter-append (λ (row : Row). meets (key_of (kinds_of s) row.key) terms) part (rows_of parts))

fold_filtered : (s : Columns) (terms : List Term) (parts : List (List Row)) → filtered s terms (folded (aggs_of s) parts) ≡ folded (aggs_of s) (map (filtered s terms) parts)
fold_filtered s terms parts = filtered_folds (λ key. meets (key_of (kinds_of s) key) terms) (aggs_of s) parts

-- ---- the answer

-- The matching rows of parts, grouped, are the answer over their fold.
pub answered : (s : Columns) (q : BuiltQuery) (parts : List (List Row)) (given : List Row) → AnswersParts → IsQueryOf s q → AreRowsOf s given → given ≡ filtered s q.asked.terms (rows_of parts)
    → answer_rows s q.asked (folded (aggs_of s) parts) ≡ grouped s q.asked.columns q.asked.values given
answered s q parts given law is form e =
    let terms : List Term = q.asked.terms in
    let kept : List (List Row) = map (filtered s terms) parts in
    let group : List Row → List Row = grouped s q.asked.columns q.asked.values in
    let these : rows_of kept ≡ given = rows_filtered s terms parts ∙ sym e in
    let again : folded (aggs_of s) kept ≡ filtered s terms (folded (aggs_of s) kept) = ap (folded (aggs_of s)) (sym (parts_twice s terms parts)) ∙ sym (fold_filtered s terms kept) in
    ap group (fold_filtered s terms parts ∙ again)
    ∙ law.filtered s q kept is (subst (AreRowsOf s) (sym these) form)
    ∙ ap (λ (ps : List (List Row)). group (rows_of ps)) (parts_twice s terms parts) ∙ ap group these

-- So is the page that is made of them.
pub page_pinned : {R : Type 0} (bytes : R → Option (List ℕ)) (s : Columns) (q : BuiltQuery) (view : Option ℕ) (files : List (PinnedInput R)) (contents : List (List Row)) (given : List Row) (page : Page) → AnswersParts → IsQueryOf s q
    → AllByRecursion (IsPinnedInput bytes s view) files → AreRowsOf s given → given ≡ filtered s q.asked.terms (rows_of (parts_ungrouped view files contents)) → page ≡ page_of q.version q.limit q.resume (grouped s q.asked.columns q.asked.values given)
    → page ≡ page_over s q (parts_pinned view files contents)
page_pinned bytes s q view files contents given page law is all form e made =
    made ∙ ap (page_of q.version q.limit q.resume) (sym (ap (answer_rows s q.asked) (pinned_ungrouped bytes s view files contents all) ∙ answered s q (parts_ungrouped view files contents) given law is form e))

-- ---- no files

after_none : (resume : Option (List ℕ)) → rows_after resume [] ≡ []
after_none None = refl
after_none (Some key) = refl

page_none : (version limit : ℕ) → record { version = version; rows = []; resume = None } ≡ page_from version limit []
page_none version limit = sym (λ k. record {
  version = version;
  rows = take-nil {A = Row} limit k;
  resume = cond (le-ltb limit 0 (omega arith) k) (Some (last_key (take limit []))) None;
})

pub page_empty : {R : Type 0} (s : Columns) (q : BuiltQuery) (view : Option ℕ) (files : List (PinnedInput R)) (contents : List (List Row)) (page : Page) → files ≡ [] → page ≡ record { version = q.version; rows = []; resume = None } → page ≡ page_over s q (parts_pinned view files contents)
page_empty s q view files contents page none made =
    made ∙ page_none q.version q.limit ∙ ap (page_from q.version q.limit) (sym (after_none q.resume)) ∙ sym (ap (λ fs. page_over s q (parts_pinned view fs contents)) none)

-- ---- what an answer is made of

-- the first file is one of the relation or of its table
pub first_relation : {R : Type 0} (bytes : R → Option (List ℕ)) (s : Columns) (view : Option ℕ) (files : List (PinnedInput R)) (file : PinnedInput R) → Some file ≡ slice_get files 0 → AllByRecursion (IsPinnedInput bytes s view) files → IsOfRelation s view (lineage_of file.input) file.own
first_relation bytes s view [] file is all = cc is
first_relation {R = R} bytes s view (first ∷ files) file is all =
    let same : file ≡ first = cc is in
    subst (λ (f : PinnedInput R). IsOfRelation s view (lineage_of f.input) f.own) (sym same) all.0.relation

pub none_first : {X : Type 0} (xs : List X) → None ≡ slice_get xs 0 → xs ≡ []
none_first [] is = refl
none_first (x ∷ xs) is = cc is

-- what the groups were wanted for, by the relation's columns
pub wanted_columns : (s schema : Columns) (q : BuiltQuery) (before now : Wanted) → schema ≡ s → before ≡ wanted_by schema q → now ≡ before → now.schema ≡ s
wanted_columns s schema q before now same wanted stays = ap (λ (w : Wanted). w.schema) (stays ∙ wanted) ∙ same

pub page_made : {R : Type 0} (bytes : R → Option (List ℕ)) (s schema : Columns) (q : BuiltQuery) (view : Option ℕ) (files : List (PinnedInput R)) (contents : List (List Row)) (before now : Wanted) (terms : List Term) (given : List Row) (page : Page) → AnswersParts → IsQueryOf s q
    → AllByRecursion (IsPinnedInput bytes s view) files → schema ≡ s → before ≡ wanted_by schema q → now ≡ before → terms ≡ q.asked.terms → AreRowsOf now.schema given → given ≡ filtered before.schema terms (rows_of (parts_ungrouped view files contents))
    → page ≡ page_of q.version q.limit q.resume (grouped now.schema q.asked.columns q.asked.values given) → page ≡ page_over s q (parts_pinned view files contents)
page_made bytes s schema q view files contents before now terms given page law is all same wanted stays asked form e made =
    let then : before.schema ≡ s = ap (λ (w : Wanted). w.schema) wanted ∙ same in
    let here : now.schema ≡ s = wanted_columns s schema q before now same wanted stays in
    page_pinned bytes s q view files contents given page law is all (subst (λ (t : Columns). AreRowsOf t given) here form)
    (e ∙ (λ k. filtered (then k) (asked k) (rows_of (parts_ungrouped view files contents))))
    (made ∙ ap (λ (t : Columns). page_of q.version q.limit q.resume (grouped t q.asked.columns q.asked.values given)) here)

-- ---- sums

sums_less : (weigh : Row → ℕ) (test : Row → Bool) (rows : List Row) → sum_by weigh (filter test rows) ≤ sum_by weigh rows
sums_less weigh test rows = omega (arith, sum_by-filter_both test (λ row. not (test row)) (λ row. refl) weigh rows)

-- the sums of those that match keep the bound that those of all keep
pub sums_matching : (s t : Columns) (asked terms : List Term) (rows : List Row) → t ≡ s → terms ≡ asked → KeepsSums s rows → KeepsSums t (filtered t terms rows)
sums_matching s t asked terms rows same is keeps =
    subst (λ (u : Columns). KeepsSums u (filtered u terms rows)) (sym same) (λ c p.
    let weigh : Row → ℕ = λ (row : Row). nat_abs (get_or row.values c (pos 0)) in
    let all : sum_by weigh rows < sum_bound = keeps c p in
    omega (arith, all, sums_less weigh (λ (row : Row). meets (key_of (kinds_of s) row.key) terms) rows))

-- damage told by what the groups were wanted for is told by the query
pub sum_wanted : {R : Type 0} (bytes : R → Option (List ℕ)) (size : R → ℕ) (s schema : Columns) (q : BuiltQuery) (view : Option ℕ) (old new : List (PinnedInput R)) (w : Wanted) (terms : List Term) (d : Damage) → schema ≡ s → w ≡ wanted_by schema q → terms ≡ q.asked.terms
    → IsDamageIn bytes size d old new ⊎ IsSumIn bytes w terms view old d → IsDamageIn bytes size d old new ⊎ IsSumIn bytes (wanted_by s q) q.asked.terms view old d
sum_wanted bytes size s schema q view old new w terms d same wanted asked h =
    elim h [ inl block ↦ inl block | inr sum ↦ inr (subst (λ (v : Wanted). IsSumIn bytes v q.asked.terms view old d) (wanted ∙ ap (λ (t : Columns). wanted_by t q) same) (subst (λ (ts : List Term). IsSumIn bytes w ts view old d) asked sum)) ]
