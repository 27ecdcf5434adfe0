use Rattle.std.proofs.Common.{◌≡◌, [], ◌++◌, List, map, refl, sym, ap, subst, ◌∙◌, append-nil}
use Rattle.std.proofs.lemmas.Result.{err_from_is_err_and}
use Rattle.std.specs.Bool.{then_some}
use Rattle.std.specs.Prelude.{Option, Some, None, IsTrue, option_map, option_to_list}
use Rattle.mesa_schema.specs.mesa_columns.declared.rows.Row.{Row}
use Rattle.mesa_schema.specs.mesa_columns.Lent.{lent}
use Rattle.mesa_schema.specs.mesa_columns.Rows.{keys_rise}
use Rattle.mesa_schema.specs.Changes.{columns_of}
use Rattle.mesa_examine.specs.mesa_delta.Reading.{IsIndexed}
use Rattle.mesa_examine.specs.mesa_scan.Cursors.{IsSameInput, at_hand, lift_by}
use Rattle.mesa_compare.specs.Difference.{first_difference}
use Rattle.mesa_examine.proofs.Streams.{same_input}
use Rattle.mesa_compare.specs.Compared.{Shows}
use Rattle.mesa_compare.proofs.Differing.{differs, front_rises, whole_of}
use Rattle.mesa_compare.proofs.Stepping.{GivesOn, gives_on, lent_some}
use Rattle.mesa_compare.proofs.grouped.further_key.Goals as goal

pub returns-in-Err-clause-never : goal.returns-in-Err-clause-never
returns-in-Err-clause-never g c = λ d is b all read indexed. c.in-Err.ensures.accepts d is c.requires.whole c.requires.input b all read indexed

pub returns-in_err-finish_input-clause-never : goal.returns-in_err-finish_input-clause-never
returns-in_err-finish_input-clause-never g c =
    let p = err_from_is_err_and c.from_residual-in_err-finish_input.result c.from_residual-in_err-finish_input.ensures.1 in
    let same = c.in-Ok.ensures.same in
    rw (p.1, p.2) (λ d is b all read indexed. c.in_err-finish_input.ensures.never d is b all (same.told ∙ read) (subst (λ x. IsIndexed x all b) (sym same.index) indexed))

pub finish_input-requires-clause-whole : goal.finish_input-requires-clause-whole
finish_input-requires-clause-whole g c κs within = c.next_row.ensures.low ∙ c.requires.whole

-- ---- a row that the file has behind them, and none

pub returns-clause-difference : goal.returns-clause-difference
returns-clause-difference g c = λ front b all h read indexed.
    let bytes = g.R.FileReader.bytes in
    let beside : Option Row = then_some c.in-Ok.read c.next_row.new.row in
    let by : GivesOn bytes c.next_row.new.input c.next_row.new.cursor front beside =
    gives_on bytes c.args.input.now c.next_row.new.input c.args.cursor.now c.next_row.new.cursor (columns_of c.args.input.now.evolving.value) front beside h c.in-Ok.ensures.some c.in-Ok.ensures.none in
    let more = c.in_ok-finish_input.ensures.rest (front ++ option_to_list beside) by.given (λ t. absurd cc) in
    let given : List Row = (front ++ option_to_list beside) ++ more.0 in
    let total : front ≡ (front ++ option_to_list None) ++ [] = sym (append-nil (front ++ []) ∙ append-nil front) in
    let same : IsSameInput bytes c.args.input.now c.finish_input.new.input = same_input bytes c.args.input.now c.next_row.new.input c.finish_input.new.input c.in-Ok.ensures.same c.in_ok-finish_input.ensures.same in
    let whole : map (lift_by c.args.input.now) all ≡ given = whole_of bytes c.args.input.now c.finish_input.new.input given all b same more.2 read indexed in
    let lends : option_map lent c.then_some-other.result ≡ beside = lent_some _ _ _ _ c.then_some-other.ensures c.lend.ensures in
    let first : Shows c.in-Some.key None (option_map lent c.then_some-other.result) = rw c.in-Some.is at c.in_ok-difference.ensures.first in
    let shows : Shows c.in-Some.key None beside = λ before ones others one other rises rise. first before ones others one (other ∙ sym lends) rises rise in
    let none : beside ≡ None → more.0 ≡ [] = λ e. (let no : first_difference [] [] ≡ Some c.in-Some.key = shows [] [] [] refl (sym e) refl refl in absurd cc) in
    let rises : IsTrue (keys_rise front) = front_rises front (at_hand c.args.cursor.now) (c.rises.ensures.rise None front h) in
    let rise : IsTrue (keys_rise (map (lift_by c.args.input.now) all)) = subst (λ (l : List Row). IsTrue (keys_rise l)) (sym whole) (front_rises given (at_hand c.finish_input.new.cursor) (c.rises-2.ensures.rise None given more.1)) in
    differs front None beside [] more.0 front _ c.in-Some.key shows total (λ e. refl) whole none rises rise

pub returns-in_default-clause-difference : goal.returns-in_default-clause-difference
returns-in_default-clause-difference g c = λ front b all h read indexed.
    let bytes = g.R.FileReader.bytes in
    let beside : Option Row = then_some c.in-Ok.read c.next_row.new.row in
    let by : GivesOn bytes c.next_row.new.input c.next_row.new.cursor front beside =
    gives_on bytes c.args.input.now c.next_row.new.input c.args.cursor.now c.next_row.new.cursor (columns_of c.args.input.now.evolving.value) front beside h c.in-Ok.ensures.some c.in-Ok.ensures.none in
    let lends : option_map lent c.then_some-other.result ≡ beside = lent_some _ _ _ _ c.then_some-other.ensures c.lend.ensures in
    let none : None ≡ beside = (rw c.in_default.is at c.in_ok-difference.ensures.same) ∙ lends in
    let whole : map (lift_by c.args.input.now) all ≡ front =
    whole_of bytes c.args.input.now c.next_row.new.input (front ++ option_to_list beside) all b c.in-Ok.ensures.same (by.ends (sym none)) read indexed ∙ ap (λ (o : Option Row). front ++ option_to_list o) (sym none) ∙ append-nil front in
    sym (c.same_rows_differ_nowhere.ensures.same front) ∙ (λ k. first_difference front (sym whole k))
