use Rattle.std.proofs.Common.{◌≡◌, ◌∷◌, [], ◌++◌, List, refl, sym, ap, subst, ◌∙◌, append_assoc}
use Rattle.std.proofs.lemmas.Bool.{false≢true}
use Rattle.mesa_schema.specs.mesa_columns.declared.rows.Row.{Row}
use Rattle.mesa_schema.specs.mesa_fold.Folded.{rows_of}
use Rattle.mesa_examine.specs.mesa_batch.Bound.{KeepsBound}
use Rattle.mesa_schema.specs.mesa_columns.Columns.{aggs_of}
use Rattle.mesa_merge.specs.Inputs.{AreAll, AreTold, lifted_parts}
use Rattle.mesa_merge.specs.Merged.{row_in}
use Rattle.std.specs.Prelude.{Ok, Err}
use Rattle.mesa_examine.specs.mesa_delta.declared.error.FileError.TheVariants.{Memory, Read}
use Rattle.mesa_compare.proofs.Counting.{failed_after, quiet_after}
use Rattle.mesa_compare.proofs.Stepping.{may_go_on}
use Rattle.mesa_compare.proofs.finishing.finish_merge.Goals as goal

pub next-requires-after_bounds : goal.next-requires-after_bounds
next-requires-after_bounds g c = λ _ _.
    let start = c.requires in
    let now = c.rows.invariant.merged start.0 start.1 start.2 in
    may_go_on g.R.FileReader.bytes c.rows.merge start.0 now.0 now.2

pub rows-preserved : goal.rows-preserved
rows-preserved g c =
    let inv = c.rows.invariant in
    let start = c.requires in
    let answer = c.in-Ok.ensures.next (inv.merged start.0 start.1 start.2).2.going in
    let some = rw c.if-not-more.false at answer.some in
    let row : Row = row_in c.next.new.self in
    record {
      known = answer.known ∙ inv.known;
      faults = answer.cause.quiet ∙ inv.faults;
      merged = λ s givens h.
          let now = inv.merged s givens h in
          let next = some s now.0 now.2 in
          (next.0, now.1 ++ row ∷ [], next.1, next.2 ∙ ap (λ (l : List Row). l ++ row ∷ []) now.3 ∙ append_assoc _ now.1 (row ∷ []));
    }

pub returns-then-not-more-clause-rest : goal.returns-then-not-more-clause-rest
returns-then-not-more-clause-rest g c = λ s givens h ended.
    let inv = c.rows.invariant in
    let now = inv.merged s givens h in
    let answer = c.in-Ok.ensures.next now.2.going in
    let none = rw c.if-not-more.true at answer.none in
    (now.0, now.1, subst (λ ks. AreAll ks now.0) (answer.known ∙ inv.known) (none s now.0 now.2).1, now.3, λ t. absurd (false≢true (sym c.if-ended.false ∙ t)))

pub returns-then-ended-clause-cause : goal.returns-then-ended-clause-cause
returns-then-ended-clause-cause g c = quiet_after (λ e. e ≡ Read) _ _ (Ok tt) refl tt

pub returns-in-Err-clause-cause : goal.returns-in-Err-clause-cause
returns-in-Err-clause-cause g c =
    let start = c.requires in
    let inv = c.rows.invariant in
    failed_after (λ e. e ≡ Read) _ _ _ c.in-Err.error inv.faults (c.in-Err.ensures.next (inv.merged start.0 start.1 start.2).2.going).cause

pub returns-in-Err-clause-never : goal.returns-in-Err-clause-never
returns-in-Err-clause-never g c = λ d is s givens h contents told bound.
    let inv = c.rows.invariant in
    let now = inv.merged s givens h in
    (c.in-Err.ensures.next now.2.going).accepts d is s now.0 now.2 contents (subst (λ ks. AreTold ks contents) (sym inv.known) told)
    (subst (λ ks. KeepsBound (aggs_of s) [] (rows_of (lifted_parts ks contents))) (sym inv.known) bound)

pub returns-clause-cause : goal.returns-clause-cause
returns-clause-cause g c = quiet_after (λ e. e ≡ Read) _ _ (Err Memory) c.rows.invariant.faults (λ e. cc)
