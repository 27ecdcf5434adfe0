use Rattle.std.proofs.Common.{◌≡◌, [], ◌∷◌, ◌++◌, List, map, refl, sym, ap, subst, ◌∙◌}
use Rattle.std.proofs.lemmas.Result.{err_from_is_err_and}
use Rattle.std.specs.Bool.{then_some}
use Rattle.std.specs.Prelude.{Option, None, Err, IsTrue, option_map, option_to_list}
use Rattle.mesa_schema.specs.mesa_columns.declared.rows.Row.{Row}
use Rattle.mesa_schema.specs.Changes.{columns_of}
use Rattle.mesa_schema.specs.mesa_columns.Columns.{Columns, aggs_of}
use Rattle.mesa_schema.specs.mesa_fold.Folded.{folded, rows_of}
use Rattle.mesa_schema.specs.mesa_columns.Lent.{lent}
use Rattle.mesa_schema.specs.mesa_columns.Rows.{keys_rise}
use Rattle.mesa_examine.specs.mesa_batch.Bound.{KeepsBound}
use Rattle.mesa_examine.specs.mesa_delta.declared.error.FileError.TheVariants.{Memory, Read}
use Rattle.mesa_examine.specs.mesa_delta.Reading.{IsIndexed}
use Rattle.mesa_examine.specs.mesa_scan.Cursors.{IsSameInput, at_hand, lift_by}
use Rattle.mesa_merge.specs.Inputs.{AreTold, knowns_of, lifted_parts}
use Rattle.mesa_merge.specs.Merged.{inputs_of, row_in}
use Rattle.mesa_compare.specs.Difference.{first_difference}
use Rattle.mesa_examine.proofs.Streams.{same_input}
use Rattle.mesa_compare.specs.Compared.{Shows}
use Rattle.mesa_compare.proofs.Counting.{failed_after, none_failed}
use Rattle.mesa_compare.proofs.Differing.{differs, fold_of, front_rises, whole_of}
use Rattle.mesa_compare.proofs.Stepping.{GivesOn, GoesOn, ended, gives_on, goes_on, lent_some, may_go_on, no_row}
use Rattle.mesa_compare.proofs.merged.merged_difference.Goals as goal

-- ---- the loop

pub next-requires-after_bounds : goal.next-requires-after_bounds
next-requires-after_bounds g c = λ _ _. may_go_on g.R.FileReader.bytes c.rows.merge (columns_of c.args.input.now.evolving.value) c.rows.invariant.givens c.rows.invariant.merged

pub rows-preserved : goal.rows-preserved
rows-preserved g c =
    let bytes = g.R.FileReader.bytes in
    let s : Columns = columns_of c.args.input.now.evolving.value in
    let inv = c.rows.invariant in
    let row : Option Row = then_some c.in-Ok.given (row_in c.next.new.self) in
    let beside : Option Row = then_some c.in-Ok-next_row.read c.next_row.new.row in
    let answer = c.in-Ok.ensures.next inv.merged.going in
    let on = goes_on bytes s c.rows.merge c.next.new.self inv.givens row inv.merged answer.some answer.none in
    let by = gives_on bytes c.rows.input c.next_row.new.input c.rows.cursor c.next_row.new.cursor (columns_of c.rows.input.evolving.value) inv.given beside inv.read c.in-Ok-next_row.ensures.some c.in-Ok-next_row.ensures.none in
    let lends : option_map lent c.then_some-one.result ≡ row = lent_some _ _ _ _ c.then_some-one.ensures c.row.ensures in
    let lends_beside : option_map lent c.then_some-other.result ≡ beside = lent_some _ _ _ _ c.then_some-other.ensures c.lend.ensures in
    let alike : row ≡ beside = sym lends ∙ (rw c.in_default.is at c.in_ok-difference.ensures.same) ∙ lends_beside in
    record {
      known = answer.known ∙ inv.known;
      counts = answer.cause.quiet ∙ inv.counts;
      input = c.in-Ok-next_row.ensures.input inv.input;
      same = same_input bytes c.args.input.now c.rows.input c.next_row.new.input inv.same c.in-Ok-next_row.ensures.same;
      faults = c.in-Ok-next_row.ensures.cause.quiet ∙ inv.faults;
      given = inv.given ++ option_to_list beside;
      read = by.given;
      givens = on.after;
      merged = on.merged;
      alike = on.grows ∙ (λ k. inv.alike k ++ option_to_list (alike k));
    }

-- ---- want of memory, failed reads and damage

pub returns-in_err-cursor-clause-cause : goal.returns-in_err-cursor-clause-cause
returns-in_err-cursor-clause-cause g c =
    let p = err_from_is_err_and c.from_residual.result c.from_residual.ensures.1 in
    rw (p.1, p.2) (none_failed (λ e. e ≡ Read) _ _ _ _ (Err Memory) refl refl (λ e. cc))

pub returns-clause-cause : goal.returns-clause-cause
returns-clause-cause g c = none_failed (λ e. e ≡ Read) _ _ _ _ (Err Memory) c.rows.invariant.faults c.rows.invariant.counts (λ e. cc)

pub returns-in-Err-clause-never : goal.returns-in-Err-clause-never
returns-in-Err-clause-never g c = λ d is contents b all told read indexed keeps.
    let inv = c.rows.invariant in
    let s : Columns = columns_of c.args.input.now.evolving.value in
    (c.in-Err.ensures.next inv.merged.going).accepts d is s inv.givens inv.merged contents (subst (λ ks. AreTold ks contents) (sym inv.known) told)
    (subst (λ ks. KeepsBound (aggs_of s) [] (rows_of (lifted_parts ks contents))) (sym inv.known) keeps)

pub returns-in-Err-next_row-clause-never : goal.returns-in-Err-next_row-clause-never
returns-in-Err-next_row-clause-never g c = λ d is contents b all told read indexed keeps.
    let inv = c.rows.invariant in
    c.in-Err-next_row.ensures.accepts d is inv.read.key inv.input b all (inv.same.told ∙ read) (subst (λ x. IsIndexed x all b) (sym inv.same.index) indexed)

pub returns-in_err-difference-clause-cause : goal.returns-in_err-difference-clause-cause
returns-in_err-difference-clause-cause g c =
    let p = err_from_is_err_and c.from_residual-in_err-difference.result c.from_residual-in_err-difference.ensures.1 in
    let inv = c.rows.invariant in
    rw (p.1, p.2) (none_failed (λ e. e ≡ Read) _ _ _ _ (Err Memory) (c.in-Ok-next_row.ensures.cause.quiet ∙ inv.faults) ((c.in-Ok.ensures.next inv.merged.going).cause.quiet ∙ inv.counts) (λ e. cc))

pub returns-in_err-difference-clause-never : goal.returns-in_err-difference-clause-never
returns-in_err-difference-clause-never g c =
    let p = err_from_is_err_and c.from_residual-in_err-difference.result c.from_residual-in_err-difference.ensures.1 in
    rw (p.1, p.2) (λ d is contents b all told read indexed keeps. cc)

-- ---- a difference, behind which both are read to their ends

pub finish_both-requires-clause-merge : goal.finish_both-requires-clause-merge
finish_both-requires-clause-merge g c κs within =
    let bytes = g.R.FileReader.bytes in
    let s : Columns = columns_of c.args.input.now.evolving.value in
    let inv = c.rows.invariant in
    let answer = c.in-Ok.ensures.next inv.merged.going in
    let on = goes_on bytes s c.rows.merge c.next.new.self inv.givens (then_some c.in-Ok.given (row_in c.next.new.self)) inv.merged answer.some answer.none in
    (s, on.after, on.merged)

pub finish_both-requires-clause-whole : goal.finish_both-requires-clause-whole
finish_both-requires-clause-whole g c κs within = c.next_row.ensures.low ∙ c.rows.invariant.read.key

pub returns-in_err-finish_both-clause-cause : goal.returns-in_err-finish_both-clause-cause
returns-in_err-finish_both-clause-cause g c =
    let p = err_from_is_err_and c.from_residual-in_err-finish_both.result c.from_residual-in_err-finish_both.ensures.1 in
    let inv = c.rows.invariant in
    let one = c.in-Ok-next_row.ensures.cause.quiet ∙ inv.faults in
    let others = (c.in-Ok.ensures.next inv.merged.going).cause.quiet ∙ inv.counts in
    rw (p.1, p.2) (failed_after (λ e. e ≡ Read) _ _ _ _ (λ i. one i ∷ others i) c.in_err-finish_both.ensures.cause)

pub returns-in_err-finish_both-clause-never : goal.returns-in_err-finish_both-clause-never
returns-in_err-finish_both-clause-never g c =
    let p = err_from_is_err_and c.from_residual-in_err-finish_both.result c.from_residual-in_err-finish_both.ensures.1 in
    let bytes = g.R.FileReader.bytes in
    let s : Columns = columns_of c.args.input.now.evolving.value in
    let inv = c.rows.invariant in
    let answer = c.in-Ok.ensures.next inv.merged.going in
    let on = goes_on bytes s c.rows.merge c.next.new.self inv.givens (then_some c.in-Ok.given (row_in c.next.new.self)) inv.merged answer.some answer.none in
    let known = answer.known ∙ inv.known in
    let same = same_input bytes c.args.input.now c.rows.input c.next_row.new.input inv.same c.in-Ok-next_row.ensures.same in
    rw (p.1, p.2) (λ d is contents b all told read indexed keeps.
    c.in_err-finish_both.ensures.never d is s on.after on.merged contents b all (subst (λ ks. AreTold ks contents) (sym known) told) (same.told ∙ read) (subst (λ x. IsIndexed x all b) (sym same.index) indexed)
    (subst (λ ks. KeepsBound (aggs_of s) [] (rows_of (lifted_parts ks contents))) (sym known) keeps))

pub returns-in-Some-clause-difference : goal.returns-in-Some-clause-difference
returns-in-Some-clause-difference g c = λ contents b all told read indexed.
    let bytes = g.R.FileReader.bytes in
    let s : Columns = columns_of c.args.input.now.evolving.value in
    let inv = c.rows.invariant in
    let row : Option Row = then_some c.in-Ok.given (row_in c.next.new.self) in
    let beside : Option Row = then_some c.in-Ok-next_row.read c.next_row.new.row in
    let answer = c.in-Ok.ensures.next inv.merged.going in
    let on : GoesOn bytes s c.next.new.self (folded (aggs_of s) inv.givens) row = goes_on bytes s c.rows.merge c.next.new.self inv.givens row inv.merged answer.some answer.none in
    let by : GivesOn bytes c.next_row.new.input c.next_row.new.cursor inv.given beside =
    gives_on bytes c.rows.input c.next_row.new.input c.rows.cursor c.next_row.new.cursor (columns_of c.rows.input.evolving.value) inv.given beside inv.read c.in-Ok-next_row.ensures.some c.in-Ok-next_row.ensures.none in
    let rest = c.in_ok-finish_both.ensures.rest s on.after on.merged (λ t. on.ends (no_row c.in-Ok.given (row_in c.next.new.self) t)) in
    let more = c.in_ok-finish_both.ensures.rows (inv.given ++ option_to_list beside) by.given (λ t. by.ends (no_row c.in-Ok-next_row.read c.next_row.new.row t)) in
    let given : List Row = (inv.given ++ option_to_list beside) ++ more.0 in
    let known = answer.known ∙ inv.known in
    let total : folded (aggs_of s) (lifted_parts (knowns_of bytes (inputs_of c.args.merge.now)) contents) ≡ (inv.given ++ option_to_list row) ++ rest.1 =
    fold_of (aggs_of s) (knowns_of bytes (inputs_of c.args.merge.now)) (knowns_of bytes (inputs_of c.next.new.self)) rest.0 contents c.all_are_told.ensures known rest.2 told
    ∙ rest.3 ∙ ap (λ (l : List Row). l ++ rest.1) (on.grows ∙ ap (λ (l : List Row). l ++ option_to_list row) inv.alike) in
    let same : IsSameInput bytes c.args.input.now c.finish_both.new.input =
    same_input bytes c.args.input.now c.next_row.new.input c.finish_both.new.input (same_input bytes c.args.input.now c.rows.input c.next_row.new.input inv.same c.in-Ok-next_row.ensures.same) c.in_ok-finish_both.ensures.same in
    let whole : map (lift_by c.args.input.now) all ≡ given = whole_of bytes c.args.input.now c.finish_both.new.input given all b same more.2 read indexed in
    let lends : option_map lent c.then_some-one.result ≡ row = lent_some _ _ _ _ c.then_some-one.ensures c.row.ensures in
    let lends_beside : option_map lent c.then_some-other.result ≡ beside = lent_some _ _ _ _ c.then_some-other.ensures c.lend.ensures in
    let first : Shows c.in-Some.key (option_map lent c.then_some-one.result) (option_map lent c.then_some-other.result) = rw c.in-Some.is at c.in_ok-difference.ensures.first in
    let shows : Shows c.in-Some.key row beside = λ front rows others one other rises rise. first front rows others (one ∙ sym lends) (other ∙ sym lends_beside) rises rise in
    let rises : IsTrue (keys_rise (folded (aggs_of s) (lifted_parts (knowns_of bytes (inputs_of c.args.merge.now)) contents))) = c.folds_by_key.ensures.rise (aggs_of s) (lifted_parts (knowns_of bytes (inputs_of c.args.merge.now)) contents) in
    let rise : IsTrue (keys_rise (map (lift_by c.args.input.now) all)) = subst (λ (l : List Row). IsTrue (keys_rise l)) (sym whole) (front_rises given (at_hand c.finish_both.new.cursor) (c.rises.ensures.rise None given more.1)) in
    differs inv.given row beside rest.1 more.0 _ _ c.in-Some.key shows total (λ e. rest.4 (ended c.in-Ok.given (row_in c.next.new.self) e)) whole (λ e. more.3 (ended c.in-Ok-next_row.read c.next_row.new.row e)) rises rise

-- ---- both at their ends

pub returns-then-not-given-clause-difference : goal.returns-then-not-given-clause-difference
returns-then-not-given-clause-difference g c = λ contents b all told read indexed.
    let bytes = g.R.FileReader.bytes in
    let s : Columns = columns_of c.args.input.now.evolving.value in
    let inv = c.rows.invariant in
    let row : Option Row = then_some c.in-Ok.given (row_in c.next.new.self) in
    let beside : Option Row = then_some c.in-Ok-next_row.read c.next_row.new.row in
    let answer = c.in-Ok.ensures.next inv.merged.going in
    let on : GoesOn bytes s c.next.new.self (folded (aggs_of s) inv.givens) row = goes_on bytes s c.rows.merge c.next.new.self inv.givens row inv.merged answer.some answer.none in
    let by : GivesOn bytes c.next_row.new.input c.next_row.new.cursor inv.given beside =
    gives_on bytes c.rows.input c.next_row.new.input c.rows.cursor c.next_row.new.cursor (columns_of c.rows.input.evolving.value) inv.given beside inv.read c.in-Ok-next_row.ensures.some c.in-Ok-next_row.ensures.none in
    let lends : option_map lent c.then_some-one.result ≡ row = lent_some _ _ _ _ c.then_some-one.ensures c.row.ensures in
    let lends_beside : option_map lent c.then_some-other.result ≡ beside = lent_some _ _ _ _ c.then_some-other.ensures c.lend.ensures in
    let alike : row ≡ beside = sym lends ∙ (rw c.in_default.is at c.in_ok-difference.ensures.same) ∙ lends_beside in
    let none : row ≡ None = ap (λ more. then_some more (row_in c.next.new.self)) c.if-not-given.true in
    let given : List Row = inv.given ++ option_to_list beside in
    let same : IsSameInput bytes c.args.input.now c.next_row.new.input = same_input bytes c.args.input.now c.rows.input c.next_row.new.input inv.same c.in-Ok-next_row.ensures.same in
    let total : folded (aggs_of s) (lifted_parts (knowns_of bytes (inputs_of c.args.merge.now)) contents) ≡ given =
    fold_of (aggs_of s) (knowns_of bytes (inputs_of c.args.merge.now)) (knowns_of bytes (inputs_of c.next.new.self)) on.after contents c.all_are_told.ensures (answer.known ∙ inv.known) (on.ends none) told
    ∙ on.grows ∙ (λ k. inv.alike k ++ option_to_list (alike k)) in
    let whole : map (lift_by c.args.input.now) all ≡ given = whole_of bytes c.args.input.now c.next_row.new.input given all b same (by.ends (sym alike ∙ none)) read indexed in
    sym (c.same_rows_differ_nowhere.ensures.same given) ∙ (λ k. first_difference (sym total k) (sym whole k))
