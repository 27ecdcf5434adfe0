use Rattle.std.proofs.Common.{◌≡◌, ◌+◌, ◌≤◌, ◌++◌, List, length, map, take, drop, sym, ap, subst, ◌∙◌, arith}
use Rattle.std.proofs.lemmas.Result.{err_from_is_err_and}
use Rattle.std.proofs.lemmas.List.{take_all, take-append-drop}
use Rattle.std.specs.Bool.{then_some}
use Rattle.std.specs.Prelude.{Option, None, Some, IsTrue, option_map, option_to_list}
use Rattle.mesa_schema.specs.mesa_columns.declared.rows.Row.{Row}
use Rattle.mesa_schema.specs.mesa_columns.Lent.{lent}
use Rattle.mesa_schema.specs.mesa_columns.Rows.{keys_rise}
use Rattle.mesa_schema.specs.Changes.{columns_of}
use Rattle.mesa_examine.specs.mesa_delta.Reading.{IsIndexed}
use Rattle.mesa_examine.specs.mesa_scan.Cursors.{HasGiven, IsSameInput, at_hand, lift_by}
use Rattle.mesa_compare.specs.Difference.{first_difference}
use Rattle.mesa_view.proofs.mesa_answer.Passing.{one_more_row}
use Rattle.mesa_view.proofs.mesa_answer.Results.{if_err, if_ok}
use Rattle.mesa_examine.proofs.Streams.{same_input}
use Rattle.mesa_compare.specs.Compared.{Shows}
use Rattle.mesa_compare.proofs.Differing.{differs, front_rises, lifts_same, whole_of}
use Rattle.mesa_compare.proofs.Stepping.{GivesOn, ended, gives_on, lent_some, no_row}
use Rattle.mesa_compare.proofs.grouped.listed_difference.Goals as goal

pub loop-row-preserved : goal.loop-row-preserved
loop-row-preserved g c =
    let bytes = g.R.FileReader.bytes in
    let inv = c.loop-row.invariant in
    let rows : List Row = c.args.rows.now in
    let i = c.loop-row.row-index in
    let row : Row = c.row-item.result in
    let beside : Option Row = then_some c.in-Ok.read c.next_row.new.row in
    let by = gives_on bytes c.loop-row.input c.next_row.new.input c.loop-row.cursor c.next_row.new.cursor (columns_of c.loop-row.input.evolving.value) (take i rows) beside inv.read c.in-Ok.ensures.some c.in-Ok.ensures.none in
    let lends : option_map lent c.then_some-other.result ≡ beside = lent_some _ _ _ _ c.then_some-other.ensures c.lend-in-loop-row.ensures in
    let alike : Some row ≡ beside = ap Some (sym c.lend.ensures) ∙ (rw c.in_default.is at c.in_ok-difference.ensures.same) ∙ lends in
    let more : take i rows ++ option_to_list beside ≡ take (i + 1) rows = ap (λ (o : Option Row). take i rows ++ option_to_list o) (sym alike) ∙ sym (one_more_row i rows row c.loop-row-test.true c.row-item.is) in
    record {
      input = c.in-Ok.ensures.input inv.input;
      same = same_input bytes c.args.input.now c.loop-row.input c.next_row.new.input inv.same c.in-Ok.ensures.same;
      faults = c.in-Ok.ensures.cause.quiet ∙ inv.faults;
      read = subst (HasGiven bytes c.next_row.new.input c.next_row.new.cursor) more by.given;
    }

pub returns-in-Err-clause-never : goal.returns-in-Err-clause-never
returns-in-Err-clause-never g c = λ d is b all read indexed.
    let inv = c.loop-row.invariant in
    c.in-Err.ensures.accepts d is inv.read.key inv.input b all (inv.same.told ∙ read) (subst (λ x. IsIndexed x all b) (sym inv.same.index) indexed)

-- ---- a difference, behind which the file is read to its end

pub finish_input-requires-clause-whole : goal.finish_input-requires-clause-whole
finish_input-requires-clause-whole g c κs within = c.next_row.ensures.low ∙ c.loop-row.invariant.read.key

pub returns-in_err-finish_input-clause-never : goal.returns-in_err-finish_input-clause-never
returns-in_err-finish_input-clause-never g c =
    let p = err_from_is_err_and c.from_residual-in_err-finish_input.result c.from_residual-in_err-finish_input.ensures.1 in
    let inv = c.loop-row.invariant in
    let same = same_input g.R.FileReader.bytes c.args.input.now c.loop-row.input c.next_row.new.input inv.same c.in-Ok.ensures.same in
    rw (p.1, p.2) (λ d is b all read indexed. c.in_err-finish_input.ensures.never d is b all (same.told ∙ read) (subst (λ x. IsIndexed x all b) (sym same.index) indexed))

pub returns-in-Some-clause-difference : goal.returns-in-Some-clause-difference
returns-in-Some-clause-difference g c = λ b all rises read indexed.
    let bytes = g.R.FileReader.bytes in
    let inv = c.loop-row.invariant in
    let rows : List Row = c.args.rows.now in
    let i = c.loop-row.row-index in
    let row : Row = c.row-item.result in
    let beside : Option Row = then_some c.in-Ok.read c.next_row.new.row in
    let front : List Row = take i rows in
    let by : GivesOn bytes c.next_row.new.input c.next_row.new.cursor front beside =
    gives_on bytes c.loop-row.input c.next_row.new.input c.loop-row.cursor c.next_row.new.cursor (columns_of c.loop-row.input.evolving.value) front beside inv.read c.in-Ok.ensures.some c.in-Ok.ensures.none in
    let more = c.in_ok-finish_input.ensures.rest (front ++ option_to_list beside) by.given (λ t. by.ends (no_row c.in-Ok.read c.next_row.new.row t)) in
    let given : List Row = (front ++ option_to_list beside) ++ more.0 in
    let total : rows ≡ (front ++ option_to_list (Some row)) ++ drop (i + 1) rows =
    sym (take-append-drop (i + 1) rows) ∙ ap (λ (l : List Row). l ++ drop (i + 1) rows) (one_more_row i rows row c.loop-row-test.true c.row-item.is) in
    let same : IsSameInput bytes c.args.input.now c.finish_input.new.input =
    same_input bytes c.args.input.now c.next_row.new.input c.finish_input.new.input (same_input bytes c.args.input.now c.loop-row.input c.next_row.new.input inv.same c.in-Ok.ensures.same) c.in_ok-finish_input.ensures.same in
    let whole : map (lift_by c.args.input.now) all ≡ given = whole_of bytes c.args.input.now c.finish_input.new.input given all b same more.2 read indexed in
    let lends : option_map lent c.then_some-other.result ≡ beside = lent_some _ _ _ _ c.then_some-other.ensures c.lend-in-loop-row.ensures in
    let first : Shows c.in-Some.key (Some (lent c.lend.result)) (option_map lent c.then_some-other.result) = rw c.in-Some.is at c.in_ok-difference.ensures.first in
    let shows : Shows c.in-Some.key (Some row) beside = λ before ones others one other rises rise. first before ones others (one ∙ ap Some (sym c.lend.ensures)) (other ∙ sym lends) rises rise in
    let rise : IsTrue (keys_rise (map (lift_by c.args.input.now) all)) = subst (λ (l : List Row). IsTrue (keys_rise l)) (sym whole) (front_rises given (at_hand c.finish_input.new.cursor) (c.rises.ensures.rise None given more.1)) in
    differs front (Some row) beside (drop (i + 1) rows) more.0 rows _ c.in-Some.key shows total (λ e. absurd cc) whole (λ e. more.3 (ended c.in-Ok.read c.next_row.new.row e)) rises rise

-- ---- rows of the file behind them

pub further_key-requires-clause-whole : goal.further_key-requires-clause-whole
further_key-requires-clause-whole g c κs within = c.loop-row.invariant.read.key

pub returns-clause-difference : goal.returns-clause-difference
returns-clause-difference g c = if_ok c.further_key.result _ _ (λ o first b all rises read indexed.
    let bytes = g.R.FileReader.bytes in
    let inv = c.loop-row.invariant in
    let rows : List Row = c.args.rows.now in
    let long : length rows ≤ c.loop-row.row-index = omega arith in
    let given : HasGiven bytes c.loop-row.input c.loop-row.cursor rows = subst (HasGiven bytes c.loop-row.input c.loop-row.cursor) (take_all c.loop-row.row-index rows long) inv.read in
    first rows b all given (inv.same.told ∙ read) (subst (λ x. IsIndexed x all b) (sym inv.same.index) indexed)
    ∙ ap (first_difference rows) (lifts_same bytes c.args.input.now c.loop-row.input all inv.same)) c.further_key.ensures.difference

pub returns-clause-never : goal.returns-clause-never
returns-clause-never g c = if_err c.further_key.result _ _ (λ e never d is b all read indexed.
    let inv = c.loop-row.invariant in
    never d is b all (inv.same.told ∙ read) (subst (λ x. IsIndexed x all b) (sym inv.same.index) indexed)) c.further_key.ensures.never
