use Rattle.std.proofs.Common.{◌≡◌, ◌<◌, ◌++◌, ◌∷◌, [], inl, inr, ℕ, List, map, sym, ◌∙◌, ap, subst, true, false}
use Rattle.std.specs.List.{AllByRecursion}
use Rattle.std.specs.Prelude.{slice_get, None, Some}
use Rattle.mesa_open_files.specs.mesa_value.declared.Agg.TheVariants.{Sum}
use Rattle.mesa_batch.specs.Totals.{abs_total, sum_bound}
use Rattle.mesa_open_files.specs.mesa_block.Rows.{Rise}
use Rattle.mesa_open_files.specs.mesa_block.Spelling.{key_of}
use Rattle.mesa_open_files.specs.mesa_columns.declared.rows.Row.{Row}
use Rattle.mesa_open_files.specs.mesa_columns.Columns.{Columns, aggs_of}
use Rattle.mesa_open_files.specs.mesa_fold.Folded.{folded, rows_of}
use Rattle.mesa_open_files.specs.mesa_columns.Lent.{lent}
use Rattle.mesa_batch.specs.Bound.{KeepsBound}
use Rattle.mesa_delta.specs.declared.error.FileError.TheVariants.{Damaged}
use Rattle.mesa_delta.specs.Writing.{HasTaken, columns_of}
use Rattle.mesa_answer.specs.Answering.{KeepsSums}
use Rattle.mesa_merge.specs.Inputs.{AreTold, knowns_of, lifted_parts}
use Rattle.mesa_merge.specs.Merged.{HasMerged, IsGoing, failed_of, inputs_of}
use Rattle.mesa_merge.specs.Sums.{sum_damage}
use Rattle.mesa_merge.proofs.Ending.{AreFronts, givens_fronts}
use Rattle.mesa_merge.proofs.Lasting.{last_there}
use Rattle.mesa_compact.specs.Grouping.{HavePut, TakesRows}
use Rattle.mesa_compact.proofs.Causing.{caused_damage, caused_file, caused_memory, caused_ok, caused_unread, caused_write, no_write_damage}
use Rattle.mesa_compact.proofs.Following.{folded_bound, rises, sums_follow, taken_form}
use Rattle.mesa_compact.specs.Bounded.{AreBounded}
use Rattle.mesa_compact.proofs.Whole.{told_sums}
use Rattle.mesa_compact.proofs.Poured.{goes_on, if_none_from, merged_formed}
use Rattle.mesa_compact.proofs.Putting.{takes_kept}
use Rattle.mesa_compact.proofs.Leaving.{refused}
use Rattle.mesa_compact.proofs.Totals.{total_of}
use Rattle.mesa_compact.proofs.pouring.pour.Goals as goal

pub next-requires-after_bounds : goal.next-requires-after_bounds
next-requires-after_bounds g c = λ _ _.
    let start = c.requires.pouring in
    let now = c.rows.invariant.poured start.0 start.1 start.2 start.3 in
    let all : IsGoing g.R.FileReader.bytes c.rows.merge = (None, None, columns_of c.rows.writer, now.0, now.1) in
    if_none_from (failed_of c.rows.merge) (IsGoing g.R.FileReader.bytes c.rows.merge) all

pub last_file-newest-requires-after_bounds : goal.last_file-newest-requires-after_bounds
last_file-newest-requires-after_bounds g c = λ _ _.
    let start = c.requires.pouring in
    let s = columns_of c.rows.writer in
    let now = c.rows.invariant.poured start.0 start.1 start.2 start.3 in
    let next = goes_on g.R.FileReader.bytes _ _ _ _ _ _ (c.in-Ok.ensures.next now.1.going) c.if-not-more.false c.row-row.ensures s now.0 now.1 in
    last_there g.R.FileReader.bytes s c.next.new.self next.0 _ _ next.1 next.4

pub put_all-requires-clause-gathering : goal.put_all-requires-clause-gathering
put_all-requires-clause-gathering g c =
    let start = c.requires.pouring in
    let now = c.rows.invariant.poured start.0 start.1 start.2 start.3 in
    (folded (aggs_of (columns_of c.rows.writer)) now.0, now.3)

pub put_all-requires-clause-form : goal.put_all-requires-clause-form
put_all-requires-clause-form g c =
    let start = c.requires.pouring in
    let inv = c.rows.invariant in
    let s = columns_of c.rows.writer in
    let now = inv.poured start.0 start.1 start.2 start.3 in
    let next = goes_on g.R.FileReader.bytes _ _ _ _ _ _ (c.in-Ok.ensures.next now.1.going) c.if-not-more.false c.row-row.ensures s now.0 now.1 in
    (s, next.3, takes_kept s c.args.groups.now c.rows.groups inv.wanted (subst (λ (t : Columns). AllByRecursion (TakesRows t) c.args.groups.now) (sym inv.columns) c.requires.takes))

pub push-requires-after_bounds : goal.push-requires-after_bounds
push-requires-after_bounds g c = λ _ _.
    let start = c.requires.pouring in
    let s = columns_of c.rows.writer in
    let now = c.rows.invariant.poured start.0 start.1 start.2 start.3 in
    let next = goes_on g.R.FileReader.bytes _ _ _ _ _ _ (c.in-Ok.ensures.next now.1.going) c.if-not-more.false c.row-row.ensures s now.0 now.1 in (
      folded (aggs_of s) now.0,
      now.2,
      record {
        form = next.3;
        greater = subst (λ xs. Rise (map key_of xs)) next.2 (rises (folded (aggs_of s) next.0) (c.folds_by_key.ensures.rise (aggs_of s) next.0));
        sums = (c.allows.ensures (folded (aggs_of s) now.0) now.2).0 c.if-not-allows.false;
      },
    )

pub rows-preserved : goal.rows-preserved
rows-preserved g c =
    let bytes = g.R.FileReader.bytes in
    let inv = c.rows.invariant in
    let start = c.requires.pouring in
    let first = inv.poured start.0 start.1 start.2 start.3 in
    let answer = c.in-Ok.ensures.next first.1.going in
    let some = goes_on bytes _ _ _ _ _ _ answer c.if-not-more.false c.row-row.ensures in
    let cols : columns_of c.push.new.self ≡ columns_of c.rows.writer = c.in-Ok-push.ensures.columns in
    record {
      columns = cols ∙ inv.columns;
      id = c.in-Ok-push.ensures.id ∙ inv.id;
      draft = c.in-Ok-push.ensures.draft ∙ inv.draft;
      faults = c.in-Ok-push.ensures.cause.quiet ∙ inv.faults;
      known = answer.known ∙ inv.known;
      inputs = λ all. answer.inputs (inv.inputs all);
      reads = answer.cause.quiet ∙ inv.reads;
      wanted = c.in-Ok-put_all.ensures.wanted ∙ inv.wanted;
      poured = λ givens h taken put.
          let s = columns_of c.rows.writer in
          let now = inv.poured givens h taken put in
          let next = some s now.0 now.1 in
          let more : HasTaken g.T.Draft.bytes c.push.new.self (folded (aggs_of s) now.0 ++ lent c.row-row.result ∷ []) = c.in-Ok-push.ensures.taken (folded (aggs_of s) now.0) now.2 in
          let grouped : HavePut c.put_all.new.groups (folded (aggs_of s) now.0 ++ lent c.row-row.result ∷ []) = c.in-Ok-put_all.ensures.put (folded (aggs_of s) now.0) now.3 in (
            next.0,
            subst (λ (t : Columns). HasMerged bytes t c.next.new.self next.0) (sym cols) next.1,
            subst (λ (t : Columns). HasTaken g.T.Draft.bytes c.push.new.self (folded (aggs_of t) next.0)) (sym cols) (subst (HasTaken g.T.Draft.bytes c.push.new.self) (sym next.2) more),
            subst (λ (t : Columns). HavePut c.put_all.new.groups (folded (aggs_of t) next.0)) (sym cols) (subst (HavePut c.put_all.new.groups) (sym next.2) grouped),
          );
    }

-- ---- a failed read, or damage, of an input

pub returns-in-Err-clause-accepts : goal.returns-in-Err-clause-accepts
returns-in-Err-clause-accepts g c = λ d e givens h taken put contents told bound.
    let bytes = g.R.FileReader.bytes in
    let inv = c.rows.invariant in
    let s = columns_of c.rows.writer in
    let now = inv.poured givens h taken put in
    let is : c.in-Err.error ≡ Damaged d = cc in
    (c.in-Err.ensures.next now.1.going).accepts d is s now.0 now.1 contents (subst (λ ks. AreTold ks contents) (sym inv.known) told)
    (subst (λ (t : Columns). KeepsBound (aggs_of t) [] (rows_of (lifted_parts (knowns_of bytes (inputs_of c.rows.merge)) contents))) (sym inv.columns)
    (subst (λ ks. KeepsBound (aggs_of (columns_of c.args.writer.now)) [] (rows_of (lifted_parts ks contents))) (sym inv.known) bound))

pub returns-in-Err-clause-causes : goal.returns-in-Err-clause-causes
returns-in-Err-clause-causes g c =
    let start = c.requires.pouring in
    let inv = c.rows.invariant in
    let now = inv.poured start.0 start.1 start.2 start.3 in
    let answer = c.in-Err.ensures.next now.1.going in
    caused_file _ _ _ _ _ _ c.in-Err.error inv.faults inv.reads answer.cause (λ d is. inl (answer.damaged d is))

pub returns-in-Err-clause-known : goal.returns-in-Err-clause-known
returns-in-Err-clause-known g c =
    let start = c.requires.pouring in
    let inv = c.rows.invariant in
    (c.in-Err.ensures.next (inv.poured start.0 start.1 start.2 start.3).1.going).known ∙ inv.known

pub returns-in-Err-clause-inputs : goal.returns-in-Err-clause-inputs
returns-in-Err-clause-inputs g c = λ all.
    let start = c.requires.pouring in
    let inv = c.rows.invariant in
    (c.in-Err.ensures.next (inv.poured start.0 start.1 start.2 start.3).1.going).inputs (inv.inputs all)

-- ---- the end

pub returns-then-not-more-clause-taken : goal.returns-then-not-more-clause-taken
returns-then-not-more-clause-taken g c = λ givens h taken put.
    let inv = c.rows.invariant in
    let s = columns_of c.rows.writer in
    let now = inv.poured givens h taken put in
    let none = rw c.if-not-more.true at (c.in-Ok.ensures.next now.1.going).none in
    let all = none s now.0 now.1 in (
      now.0,
      all.1,
      subst (λ (t : Columns). HasTaken g.T.Draft.bytes c.rows.writer (folded (aggs_of t) now.0)) inv.columns now.2,
      subst (λ (t : Columns). HavePut c.rows.groups (folded (aggs_of t) now.0)) inv.columns now.3,
      subst (λ (t : Columns). AreBounded t (knowns_of g.R.FileReader.bytes (inputs_of c.next.new.self)) → KeepsSums t (folded (aggs_of t) now.0)) inv.columns (told_sums c.folds_totals.ensures s _ now.0 (merged_formed g.R.FileReader.bytes s c.rows.merge now.0 now.1) all.1),
    )

pub returns-then-not-more-clause-causes : goal.returns-then-not-more-clause-causes
returns-then-not-more-clause-causes g c =
    let start = c.requires.pouring in
    let inv = c.rows.invariant in
    let now = inv.poured start.0 start.1 start.2 start.3 in
    caused_ok _ _ _ _ _ _ inv.faults ((c.in-Ok.ensures.next now.1.going).cause.quiet ∙ inv.reads)

pub returns-then-not-more-clause-known : goal.returns-then-not-more-clause-known
returns-then-not-more-clause-known g c =
    let start = c.requires.pouring in
    let inv = c.rows.invariant in
    (c.in-Ok.ensures.next (inv.poured start.0 start.1 start.2 start.3).1.going).known ∙ inv.known

pub returns-then-not-more-clause-inputs : goal.returns-then-not-more-clause-inputs
returns-then-not-more-clause-inputs g c = λ all.
    let start = c.requires.pouring in
    let inv = c.rows.invariant in
    (c.in-Ok.ensures.next (inv.poured start.0 start.1 start.2 start.3).1.going).inputs (inv.inputs all)

-- ---- a total that leaves its type

pub returns-then-not-allows-clause-accepts : goal.returns-then-not-allows-clause-accepts
returns-then-not-allows-clause-accepts g c = λ d e givens h taken put contents told bound.
    let bytes = g.R.FileReader.bytes in
    let inv = c.rows.invariant in
    let s : Columns = columns_of c.rows.writer in
    let row = lent c.row-row.result in
    let now = inv.poured givens h taken put in
    let answer = c.in-Ok.ensures.next now.1.going in
    let next = goes_on g.R.FileReader.bytes _ _ _ _ _ _ (c.in-Ok.ensures.next now.1.going) c.if-not-more.false c.row-row.ensures s now.0 now.1 in
    let known : knowns_of bytes (inputs_of c.next.new.self) ≡ knowns_of bytes (inputs_of c.args.merge.now) = answer.known ∙ inv.known in
    let parts : List (List Row) = lifted_parts (knowns_of bytes (inputs_of c.next.new.self)) contents in
    let fronts : AreFronts None next.0 parts = givens_fronts bytes None (inputs_of c.next.new.self) _ next.0 contents next.1.given (subst (λ ks. AreTold ks contents) (sym known) told) in
    let keeps : KeepsBound (aggs_of s) [] (rows_of parts) = subst (λ (t : Columns). KeepsBound (aggs_of t) [] (rows_of parts)) (sym inv.columns)
    (subst (λ ks. KeepsBound (aggs_of (columns_of c.args.writer.now)) [] (rows_of (lifted_parts ks contents))) (sym known) bound) in
    let all : (k : ℕ) → slice_get (aggs_of s) k ≡ Some Sum → abs_total k (folded (aggs_of s) now.0 ++ row ∷ []) < sum_bound =
    subst (λ rows. (k : ℕ) → slice_get (aggs_of s) k ≡ Some Sum → abs_total k rows < sum_bound) next.2 (folded_bound c.folds_totals.ensures s None next.0 parts (merged_formed bytes s c.next.new.self next.0 next.1) fronts keeps) in
    let no : false ≡ true = sym c.if-not-allows.true ∙ (c.allows.ensures (folded (aggs_of s) now.0) now.2).1 (λ _. sums_follow s (folded (aggs_of s) now.0) row (taken_form s _ now.2.good) all) in
    cc

pub returns-then-not-allows-clause-causes : goal.returns-then-not-allows-clause-causes
returns-then-not-allows-clause-causes g c =
    let start = c.requires.pouring in
    let inv = c.rows.invariant in
    let now = inv.poured start.0 start.1 start.2 start.3 in
    let s : Columns = columns_of c.rows.writer in
    let row = lent c.row-row.result in
    let next = goes_on g.R.FileReader.bytes _ _ _ _ _ _ (c.in-Ok.ensures.next now.1.going) c.if-not-more.false c.row-row.ensures s now.0 now.1 in
    let file = c.last_file-newest.ensures in
    let leaves : KeepsSums s (folded (aggs_of s) now.0 ++ row ∷ []) → ⊥ = λ all.
    (let no : false ≡ true = sym c.if-not-allows.true ∙ (c.allows.ensures (folded (aggs_of s) now.0) now.2).1 (λ _. sums_follow s (folded (aggs_of s) now.0) row (taken_form s _ now.2.good) all) in cc) in
    caused_damage _ _ _ _ _ _ (sum_damage c.last_file-newest.result) inv.faults ((c.in-Ok.ensures.next now.1.going).cause.quiet ∙ inv.reads) c.sum_fault.ensures
    (inr (total_of g.R.FileReader.bytes s c.next.new.self next.0 (folded (aggs_of s) now.0) row file.0 _ next.1 next.2 next.4 (inl (refused s (folded (aggs_of s) now.0) row c.allows.result (c.allows.ensures (folded (aggs_of s) now.0) now.2) c.if-not-allows.true)) leaves file.1 (ap sum_damage file.2)))

pub returns-then-not-allows-clause-known : goal.returns-then-not-allows-clause-known
returns-then-not-allows-clause-known g c =
    let start = c.requires.pouring in
    let inv = c.rows.invariant in
    (c.in-Ok.ensures.next (inv.poured start.0 start.1 start.2 start.3).1.going).known ∙ inv.known

pub returns-then-not-allows-clause-inputs : goal.returns-then-not-allows-clause-inputs
returns-then-not-allows-clause-inputs g c = λ all.
    let start = c.requires.pouring in
    let inv = c.rows.invariant in
    (c.in-Ok.ensures.next (inv.poured start.0 start.1 start.2 start.3).1.going).inputs (inv.inputs all)

-- ---- a sum of a group that leaves its type

pub returns-in-Err-put_all-clause-accepts : goal.returns-in-Err-put_all-clause-accepts
returns-in-Err-put_all-clause-accepts g c = λ d e givens h taken put contents told bound.
    let bytes = g.R.FileReader.bytes in
    let inv = c.rows.invariant in
    let s : Columns = columns_of c.rows.writer in
    let row = lent c.row-row.result in
    let now = inv.poured givens h taken put in
    let answer = c.in-Ok.ensures.next now.1.going in
    let next = goes_on g.R.FileReader.bytes _ _ _ _ _ _ (c.in-Ok.ensures.next now.1.going) c.if-not-more.false c.row-row.ensures s now.0 now.1 in
    let known : knowns_of bytes (inputs_of c.next.new.self) ≡ knowns_of bytes (inputs_of c.args.merge.now) = answer.known ∙ inv.known in
    let parts : List (List Row) = lifted_parts (knowns_of bytes (inputs_of c.next.new.self)) contents in
    let fronts : AreFronts None next.0 parts = givens_fronts bytes None (inputs_of c.next.new.self) _ next.0 contents next.1.given (subst (λ ks. AreTold ks contents) (sym known) told) in
    let keeps : KeepsBound (aggs_of s) [] (rows_of parts) = subst (λ (t : Columns). KeepsBound (aggs_of t) [] (rows_of parts)) (sym inv.columns)
    (subst (λ ks. KeepsBound (aggs_of (columns_of c.args.writer.now)) [] (rows_of (lifted_parts ks contents))) (sym known) bound) in
    let all : KeepsSums s (folded (aggs_of s) now.0 ++ row ∷ []) =
    subst (KeepsSums s) next.2 (folded_bound c.folds_totals.ensures s None next.0 parts (merged_formed bytes s c.next.new.self next.0 next.1) fronts keeps) in
    let is : c.in-Err-put_all.unfit ≡ Damaged d = cc in
    c.in-Err-put_all.ensures.never d is s (folded (aggs_of s) now.0) now.3 (takes_kept s c.args.groups.now c.rows.groups inv.wanted (subst (λ (t : Columns). AllByRecursion (TakesRows t) c.args.groups.now) (sym inv.columns) c.requires.takes)) all

pub returns-in-Err-put_all-clause-causes : goal.returns-in-Err-put_all-clause-causes
returns-in-Err-put_all-clause-causes g c =
    let start = c.requires.pouring in
    let inv = c.rows.invariant in
    let now = inv.poured start.0 start.1 start.2 start.3 in
    let s : Columns = columns_of c.rows.writer in
    let row = lent c.row-row.result in
    let next = goes_on g.R.FileReader.bytes _ _ _ _ _ _ (c.in-Ok.ensures.next now.1.going) c.if-not-more.false c.row-row.ensures s now.0 now.1 in
    let file = c.last_file-newest.ensures in
    let takes = takes_kept s c.args.groups.now c.rows.groups inv.wanted (subst (λ (t : Columns). AllByRecursion (TakesRows t) c.args.groups.now) (sym inv.columns) c.requires.takes) in
    caused_unread _ _ _ _ _ c.in-Err-put_all.unfit inv.faults ((c.in-Ok.ensures.next now.1.going).cause.quiet ∙ inv.reads) c.in-Err-put_all.ensures.unread
    (λ d is. inr (total_of g.R.FileReader.bytes s c.next.new.self next.0 (folded (aggs_of s) now.0) row file.0 d next.1 next.2 next.4 (inr (c.in-Err-put_all.ensures.leaves d is s (folded (aggs_of s) now.0) now.3 takes))
    (λ all. c.in-Err-put_all.ensures.never d is s (folded (aggs_of s) now.0) now.3 takes all) file.1 (c.in-Err-put_all.ensures.damaged d is ∙ ap sum_damage file.2)))

pub returns-in-Err-put_all-clause-known : goal.returns-in-Err-put_all-clause-known
returns-in-Err-put_all-clause-known g c =
    let start = c.requires.pouring in
    let inv = c.rows.invariant in
    (c.in-Ok.ensures.next (inv.poured start.0 start.1 start.2 start.3).1.going).known ∙ inv.known

pub returns-in-Err-put_all-clause-inputs : goal.returns-in-Err-put_all-clause-inputs
returns-in-Err-put_all-clause-inputs g c = λ all.
    let start = c.requires.pouring in
    let inv = c.rows.invariant in
    (c.in-Ok.ensures.next (inv.poured start.0 start.1 start.2 start.3).1.going).inputs (inv.inputs all)

-- ---- a draft that fails

pub returns-in-Err-push-clause-accepts : goal.returns-in-Err-push-clause-accepts
returns-in-Err-push-clause-accepts g c = λ d e givens h taken put contents told bound. no_write_damage c.in-Err-push.error c.from.result c.from.ensures d e

pub returns-in-Err-push-clause-causes : goal.returns-in-Err-push-clause-causes
returns-in-Err-push-clause-causes g c =
    let start = c.requires.pouring in
    let inv = c.rows.invariant in
    let now = inv.poured start.0 start.1 start.2 start.3 in
    caused_write _ _ _ _ _ _ c.in-Err-push.error c.from.result inv.faults ((c.in-Ok.ensures.next now.1.going).cause.quiet ∙ inv.reads) c.from.ensures c.in-Err-push.ensures.cause

pub returns-in-Err-push-clause-known : goal.returns-in-Err-push-clause-known
returns-in-Err-push-clause-known g c =
    let start = c.requires.pouring in
    let inv = c.rows.invariant in
    (c.in-Ok.ensures.next (inv.poured start.0 start.1 start.2 start.3).1.going).known ∙ inv.known

pub returns-in-Err-push-clause-inputs : goal.returns-in-Err-push-clause-inputs
returns-in-Err-push-clause-inputs g c = λ all.
    let start = c.requires.pouring in
    let inv = c.rows.invariant in
    (c.in-Ok.ensures.next (inv.poured start.0 start.1 start.2 start.3).1.going).inputs (inv.inputs all)

-- ---- too many rows

pub returns-clause-causes : goal.returns-clause-causes
returns-clause-causes g c = caused_memory _ _ _ _ _ c.rows.invariant.faults c.rows.invariant.reads
