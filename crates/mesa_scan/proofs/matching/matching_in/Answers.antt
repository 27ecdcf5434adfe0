use Rattle.std.proofs.Common.{◌∙◌, ◌+◌, ◌<◌, ◌∷◌, [], ℕ, Bool, ap, arith, subst, sym}
use Rattle.std.proofs.lemmas.List.{take_all}
use Rattle.std.specs.List.{AllByRecursion}
use Rattle.mesa_delta.specs.mesa_key.Spelling.{key_of}
use Rattle.mesa_delta.specs.mesa_columns.declared.rows.Row.{Row}
use Rattle.mesa_delta.specs.mesa_columns.Columns.{chosen}
use Rattle.mesa_delta.specs.mesa_columns.Lent.{lent}
use Rattle.mesa_schema.proofs.mesa_columns.Lists.{all_append, all_so}
use Rattle.mesa_filter.specs.Filter.{meets}
use Rattle.mesa_scan.specs.MatchingRows.{matching_rows}
use Rattle.mesa_scan.proofs.Chosen.{match_more, match_not}
use Rattle.mesa_scan.proofs.matching.matching_in.Goals as goal
use Rattle.mesa_scan.proofs.matching.matching_in.Goals.{else-matches, then-matches+in_ok-push}

pub loop-place-preserved : goal.loop-place-preserved
loop-place-preserved c =
    let test : Row → Bool = λ (row : Row). meets (key_of c.args.filter.now.kinds row.key) c.args.filter.now.terms in
    let i = c.loop-place.place in
    let inv = c.loop-place.invariant in
    let block = c.args.block in
    let row : Row = lent c.row.result in
    let later : AllByRecursion (λ (place : ℕ). place < i + 1) c.loop-place.places.items =
    all_so (λ (place : ℕ). place < i) (λ (place : ℕ). place < i + 1) c.loop-place.places.items (λ place lt. (let next : place < i + 1 = omega (arith, lt) in next)) inv.within in
    elim c.if-matches.branch [
      | then-matches+in_ok-push w ↦
          let items = ap (λ places. places.items) w.places-is ∙ w.in_ok-push.ensures.items in
          record {
            within = subst (AllByRecursion (λ (place : ℕ). place < i + 1)) (sym items) (all_append (λ (place : ℕ). place < i + 1) c.loop-place.places.items (i ∷ []) later (omega arith, tt));
            rows = ap (λ places. chosen places block) items ∙ match_more test c.loop-place.places.items block i row c.row.ensures (sym c.matches.ensures ∙ w.if-matches.true) inv.rows;
          }
      | else-matches w ↦ record {
        within = subst (λ places. AllByRecursion (λ (place : ℕ). place < i + 1) places.items) (sym w.places-is) later;
        rows = ap (λ places. chosen places.items block) w.places-is ∙ match_not test c.loop-place.places.items block i row c.row.ensures (sym c.matches.ensures ∙ w.if-matches.false) inv.rows;
      }
    ]

pub returns : goal.returns
returns c = c.loop-place.invariant.rows ∙ ap (matching_rows c.args.filter.now) (take_all c.loop-place.place c.args.block (omega (arith, c.loop-place-test.false, c.len.ensures)))
