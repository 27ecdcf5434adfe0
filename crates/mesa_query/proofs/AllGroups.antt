-- The whole answer over a relation's rows, by the rows that were put in.
use Rattle.std.proofs.Common.{◌≡◌, ℕ, ◌^◌, ◌-◌, ◌<◌, List, [], length, inl, inr, sym, ◌∙◌, ap, subst, arith}
use Rattle.std.specs.Prelude.{◌⊎◌, Option}
use Rattle.std.specs.List.{AllByRecursion}
use Rattle.mesa_group_blocks.specs.mesa_columns.declared.rows.Row.{Row}
use Rattle.mesa_group_blocks.specs.mesa_columns.Columns.{Columns}
use Rattle.mesa_group_blocks.specs.mesa_fold.Folded.{grouped, rows_of}
use Rattle.mesa_group_blocks.specs.mesa_columns.Rows.{AreRowsOf}
use Rattle.mesa_group_blocks.proofs.mesa_fold.GroupKeys.{groups_form}
use Rattle.mesa_filter.specs.declared.terms.Term.{Term}
use Rattle.mesa_filter.specs.Filter.{filtered}
use Rattle.mesa_filter.specs.Query.{BuiltQuery, IsQueryOf}
use Rattle.mesa_model.specs.Query.{answer_rows}
use Rattle.mesa_group_blocks.specs.mesa_answer.Answering.{AnswersParts, grouped_columns}
use Rattle.mesa_group_blocks.specs.mesa_answer.Gathering.{Wanted, first_groups}
use Rattle.mesa_group_blocks.proofs.mesa_answer.Steps.{all_groups}
use Rattle.mesa_group_blocks.specs.mesa_open_files.Pins.{IsPinnedInput}
use Rattle.mesa_group_blocks.specs.mesa_open_files.declared.querying.PinnedInput.{PinnedInput}
use Rattle.mesa_file.specs.declared.damage.Damage.{Damage}
use Rattle.mesa_query.specs.Files.{IsDamageIn}
use Rattle.mesa_group_blocks.specs.Ungrouped.{parts_ungrouped}
use Rattle.mesa_query.specs.Relation.{parts_pinned}
use Rattle.mesa_query.specs.Sums.{IsSumIn}
use Rattle.mesa_query.specs.Whole.{all_wanted, whole_over}
use Rattle.mesa_query.proofs.Answered.{answered}
use Rattle.mesa_query.proofs.Ungrouped.{pinned_ungrouped}

-- The groups of a list that is shorter than any list may be are all of them.
all_put : (s schema : Columns) (q : BuiltQuery) (before now : Wanted) (given rows : List Row) → schema ≡ s → before ≡ all_wanted schema q → now ≡ before → rows ≡ first_groups now given → length rows < 2 ^ 63
    → rows ≡ grouped s q.asked.columns q.asked.values given
all_put s schema q before now given rows same wanted stays first few =
    all_groups s q.asked.columns q.asked.values (2 ^ 64 - 1) now given rows (stays ∙ wanted ∙ ap (λ t. all_wanted t q) same) first (omega (arith, few))

pub whole_made : {R : Type 0} (bytes : R → Option (List ℕ)) (s schema : Columns) (q : BuiltQuery) (view : Option ℕ) (files : List (PinnedInput R)) (contents : List (List Row)) (before now : Wanted) (terms : List Term) (given rows : List Row) → AnswersParts → IsQueryOf s q
    → AllByRecursion (IsPinnedInput bytes s view) files → schema ≡ s → before ≡ all_wanted schema q → now ≡ before → terms ≡ q.asked.terms → AreRowsOf now.schema given → given ≡ filtered before.schema terms (rows_of (parts_ungrouped view files contents))
    → rows ≡ first_groups now given → length rows < 2 ^ 63 → rows ≡ whole_over s q (parts_pinned view files contents)
whole_made bytes s schema q view files contents before now terms given rows law is all same wanted stays asked form e first few =
    let then : before.schema ≡ s = ap (λ (w : Wanted). w.schema) wanted ∙ same in
    let here : now.schema ≡ s = ap (λ (w : Wanted). w.schema) (stays ∙ wanted) ∙ same in
    all_put s schema q before now given rows same wanted stays first few
    ∙ sym (ap (answer_rows s q.asked) (pinned_ungrouped bytes s view files contents all)
    ∙ answered s q (parts_ungrouped view files contents) given law is (subst (λ (t : Columns). AreRowsOf t given) here form) (e ∙ (λ k. filtered (then k) (asked k) (rows_of (parts_ungrouped view files contents)))))

-- They have the form that is asked.
pub whole_form : (s schema : Columns) (q : BuiltQuery) (before now : Wanted) (given rows : List Row) → schema ≡ s → before ≡ all_wanted schema q → now ≡ before → AreRowsOf now.schema given → rows ≡ first_groups now given → length rows < 2 ^ 63
    → AreRowsOf (grouped_columns s q.asked.columns q.asked.values) rows
whole_form s schema q before now given rows same wanted stays form first few =
    let here : now.schema ≡ s = ap (λ (w : Wanted). w.schema) (stays ∙ wanted) ∙ same in
    subst (AreRowsOf (grouped_columns s q.asked.columns q.asked.values)) (sym (all_put s schema q before now given rows same wanted stays first few))
    (groups_form s q.asked.columns q.asked.values given (subst (λ (t : Columns). AreRowsOf t given) here form))

pub whole_empty : {R : Type 0} (s : Columns) (q : BuiltQuery) (view : Option ℕ) (files : List (PinnedInput R)) (contents : List (List Row)) (rows : List Row) → files ≡ [] → rows ≡ [] → rows ≡ whole_over s q (parts_pinned view files contents)
whole_empty s q view files contents rows none made = made ∙ sym (ap (λ fs. whole_over s q (parts_pinned view fs contents)) none)

-- damage told by what the groups were wanted for is told by the query
pub sum_all_wanted : {R : Type 0} (bytes : R → Option (List ℕ)) (size : R → ℕ) (s schema : Columns) (q : BuiltQuery) (view : Option ℕ) (old new : List (PinnedInput R)) (w : Wanted) (terms : List Term) (d : Damage) → schema ≡ s → w ≡ all_wanted schema q → terms ≡ q.asked.terms
    → IsDamageIn bytes size d old new ⊎ IsSumIn bytes w terms view old d → IsDamageIn bytes size d old new ⊎ IsSumIn bytes (all_wanted s q) q.asked.terms view old d
sum_all_wanted bytes size s schema q view old new w terms d same wanted asked h =
    elim h [ inl block ↦ inl block | inr sum ↦ inr (subst (λ (v : Wanted). IsSumIn bytes v q.asked.terms view old d) (wanted ∙ ap (λ (t : Columns). all_wanted t q) same) (subst (λ (ts : List Term). IsSumIn bytes w ts view old d) asked sum)) ]
