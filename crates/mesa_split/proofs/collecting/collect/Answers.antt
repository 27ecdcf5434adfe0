use Rattle.std.proofs.Common.{◌≡◌, ◌++◌, ◌∷◌, [], ℕ, List, refl, sym, ap, ◌∙◌, subst}
use Rattle.std.specs.Prelude.{IsTrue, Option}
use Rattle.std.specs.List.{AllByRecursion}
use Rattle.mesa_compact.specs.mesa_columns.declared.rows.Row.{Row}
use Rattle.mesa_compact.specs.mesa_columns.Columns.{Columns, aggs_of}
use Rattle.mesa_open_files.specs.mesa_fold.Folded.{folded, rows_of}
use Rattle.mesa_compact.specs.mesa_columns.Lent.{lent}
use Rattle.mesa_compact.specs.mesa_columns.Rows.{AreRowsOf, IsRowOf, keys_rise}
use Rattle.mesa_batch.specs.Bound.{KeepsBound}
use Rattle.mesa_compact.specs.mesa_scan.Cut.{cut, lies_in}
use Rattle.mesa_merge.specs.Inputs.{AreTold, knowns_of, lifted_parts}
use Rattle.mesa_merge.specs.Merged.{HasMergedBetween, failed_of, inputs_of}
use Rattle.mesa_compact.proofs.Poured.{if_none_from}
use Rattle.mesa_split.proofs.Collected.{all_one_more, failed_cause, gained_cause, goes_between, memory_caused}
use Rattle.mesa_split.proofs.Buffers.{as_long}
use Rattle.mesa_split.proofs.collecting.collect.Goals as goal

pub rows-init : goal.rows-init
rows-init g c = record {
  merging = λ low high s givens h none. (givens, h, c.new-rows.ensures ∙ sym none, subst (AreRowsOf s) (sym c.new-rows.ensures) tt, subst (AllByRecursion (λ (row : Row). IsTrue (lies_in low high row.key))) (sym c.new-rows.ensures) tt);
  known = refl;
  inputs = λ all. all;
  reads = refl;
}

pub next-requires-after_bounds : goal.next-requires-after_bounds
next-requires-after_bounds g c = λ _ _.
    let start = c.requires in
    let now = c.rows.invariant.merging start.0 start.1 start.2 start.3 start.4 start.5 in
    let all : (low : Option (List ℕ)) × (high : Option (List ℕ)) × (s : Columns) × (givens : List (List Row)) × HasMergedBetween g.R.FileReader.bytes low high s c.rows.merge givens = (start.0, start.1, start.2, now.0, now.1) in
    (if_none_from (failed_of c.rows.merge) ((low : Option (List ℕ)) × (high : Option (List ℕ)) × (s : Columns) × (givens : List (List Row)) × HasMergedBetween g.R.FileReader.bytes low high s c.rows.merge givens) all)

pub push-requires : goal.push-requires
push-requires g c =
    let start = c.requires in
    let now = c.rows.invariant.merging start.0 start.1 start.2 start.3 start.4 start.5 in
    let row : Row = lent c.row.result in
    let answer = c.in-Ok.ensures.between now.1.going in
    let some = goes_between g.R.FileReader.bytes _ _ _ _ _ row answer c.if-not-more.false c.row.ensures in
    as_long start.2 c.rows.rows row now.3 (some start.0 start.1 start.2 now.0 now.1).3

pub rows-preserved : goal.rows-preserved
rows-preserved g c =
    let start = c.requires in
    let inv = c.rows.invariant in
    let answer = c.in-Ok.ensures.between (inv.merging start.0 start.1 start.2 start.3 start.4 start.5).1.going in
    let row : Row = lent c.row.result in
    let some = goes_between g.R.FileReader.bytes _ _ _ _ _ row answer c.if-not-more.false c.row.ensures in
    let added : c.push.new.self ≡ c.rows.rows ++ row ∷ [] = c.in-Ok-push.ensures.ok in
    record {
      merging = λ low high s givens h none.
          let now = inv.merging low high s givens h none in
          let next = some low high s now.0 now.1 in (
            next.0,
            next.1,
            added ∙ ap (λ rows. rows ++ row ∷ []) now.2 ∙ sym next.2,
            subst (AreRowsOf s) (sym added) (all_one_more (IsRowOf s) c.rows.rows row now.3 next.3),
            subst (AllByRecursion (λ (r : Row). IsTrue (lies_in low high r.key))) (sym added) (all_one_more (λ (r : Row). IsTrue (lies_in low high r.key)) c.rows.rows row now.4 next.4),
          );
      known = answer.known ∙ inv.known;
      inputs = λ all. answer.inputs (inv.inputs all);
      reads = answer.cause.quiet ∙ inv.reads;
    }

pub returns-then-not-more-clause-rows : goal.returns-then-not-more-clause-rows
returns-then-not-more-clause-rows g c = λ low high s givens h none.
    let inv = c.rows.invariant in
    let now = inv.merging low high s givens h none in
    let end = rw c.if-not-more.true at (c.in-Ok.ensures.between now.1.going).none in
    let all = end low high s now.0 now.1 in
    let same : knowns_of g.R.FileReader.bytes (inputs_of c.next.new.self) ≡ knowns_of g.R.FileReader.bytes (inputs_of c.args.merge.now) = (c.in-Ok.ensures.between now.1.going).known ∙ inv.known in
    record {
      form = now.3;
      rise = ap keys_rise now.2 ∙ c.folds_by_key.ensures.rise (aggs_of s) now.0;
      within = now.4;
      told = λ contents told. now.2 ∙ all.1 contents (subst (λ ks. AreTold ks contents) (sym same) told) ∙ ap (λ ks. cut low high (folded (aggs_of s) (lifted_parts ks contents))) same;
    }

pub returns-then-not-more-clause-known : goal.returns-then-not-more-clause-known
returns-then-not-more-clause-known g c =
    let start = c.requires in
    let inv = c.rows.invariant in
    (c.in-Ok.ensures.between (inv.merging start.0 start.1 start.2 start.3 start.4 start.5).1.going).known ∙ inv.known

pub returns-then-not-more-clause-inputs : goal.returns-then-not-more-clause-inputs
returns-then-not-more-clause-inputs g c = λ all.
    let start = c.requires in
    let inv = c.rows.invariant in
    (c.in-Ok.ensures.between (inv.merging start.0 start.1 start.2 start.3 start.4 start.5).1.going).inputs (inv.inputs all)

pub returns-then-not-more-clause-cause : goal.returns-then-not-more-clause-cause
returns-then-not-more-clause-cause g c =
    let start = c.requires in
    let inv = c.rows.invariant in
    gained_cause _ _ c.rows.rows ((c.in-Ok.ensures.between (inv.merging start.0 start.1 start.2 start.3 start.4 start.5).1.going).cause.quiet ∙ inv.reads)

pub returns-in-Err-clause-known : goal.returns-in-Err-clause-known
returns-in-Err-clause-known g c =
    let start = c.requires in
    let inv = c.rows.invariant in
    (c.in-Err.ensures.between (inv.merging start.0 start.1 start.2 start.3 start.4 start.5).1.going).known ∙ inv.known

pub returns-in-Err-clause-inputs : goal.returns-in-Err-clause-inputs
returns-in-Err-clause-inputs g c = λ all.
    let start = c.requires in
    let inv = c.rows.invariant in
    (c.in-Err.ensures.between (inv.merging start.0 start.1 start.2 start.3 start.4 start.5).1.going).inputs (inv.inputs all)

pub returns-in-Err-clause-cause : goal.returns-in-Err-clause-cause
returns-in-Err-clause-cause g c =
    let start = c.requires in
    let inv = c.rows.invariant in
    failed_cause _ _ _ c.in-Err.error inv.reads (c.in-Err.ensures.between (inv.merging start.0 start.1 start.2 start.3 start.4 start.5).1.going).cause

pub returns-in-Err-clause-damaged : goal.returns-in-Err-clause-damaged
returns-in-Err-clause-damaged g c =
    let start = c.requires in
    let inv = c.rows.invariant in
    (c.in-Err.ensures.between (inv.merging start.0 start.1 start.2 start.3 start.4 start.5).1.going).damaged

pub returns-in-Err-clause-accepts : goal.returns-in-Err-clause-accepts
returns-in-Err-clause-accepts g c = λ d is low high s givens h none contents told bound.
    let inv = c.rows.invariant in
    let now = inv.merging low high s givens h none in
    (c.in-Err.ensures.between now.1.going).accepts d is low high s now.0 now.1 contents (subst (λ ks. AreTold ks contents) (sym inv.known) told)
    (subst (λ ks. KeepsBound (aggs_of s) [] (rows_of (lifted_parts ks contents))) (sym inv.known) bound)

pub returns-in_default-clause-known : goal.returns-in_default-clause-known
returns-in_default-clause-known g c =
    let start = c.requires in
    let inv = c.rows.invariant in
    (c.in-Ok.ensures.between (inv.merging start.0 start.1 start.2 start.3 start.4 start.5).1.going).known ∙ inv.known

pub returns-in_default-clause-inputs : goal.returns-in_default-clause-inputs
returns-in_default-clause-inputs g c = λ all.
    let start = c.requires in
    let inv = c.rows.invariant in
    (c.in-Ok.ensures.between (inv.merging start.0 start.1 start.2 start.3 start.4 start.5).1.going).inputs (inv.inputs all)

pub returns-in_default-clause-cause : goal.returns-in_default-clause-cause
returns-in_default-clause-cause g c =
    let start = c.requires in
    let inv = c.rows.invariant in
    memory_caused _ _ ((c.in-Ok.ensures.between (inv.merging start.0 start.1 start.2 start.3 start.4 start.5).1.going).cause.quiet ∙ inv.reads)

pub returns-clause-cause : goal.returns-clause-cause
returns-clause-cause g c = memory_caused _ _ c.rows.invariant.reads
