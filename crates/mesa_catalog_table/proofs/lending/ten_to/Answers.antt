use Rattle.std.proofs.Common.{◌∙◌, ◌+◌, ◌-◌, ◌/◌, ◌%◌, ap, sym, refl, length, arith}
use Rattle.std.specs.Prelude.{Some, option_map}
use Rattle.std.proofs.lemmas.Option.{slice_get_past, slice_get_read}
use Rattle.mesa_catalog_table.specs.Copied.{value_in}
use Rattle.mesa_catalog_table.proofs.Ranged.{none_between, none_early, ten_found}
use Rattle.mesa_catalog_table.proofs.lending.ten_to.Goals as goal
use Rattle.mesa_catalog_table.proofs.lending.ten_to.Goals.{then-behind-start-via-then-behind-start, then-behind-start-via-else-behind-start+then-behind-start-ne0}

pub returns-then-behind-start : goal.returns-then-behind-start
returns-then-behind-start c =
    let ds = c.args.cumulatives.now in
    let start = c.args.start in
    let to = c.args.to in
    elim c.then-behind-start.branch [
      | then-behind-start-via-then-behind-start w ↦ let early = w.if-behind-start.true in sym (none_early start to ds (omega arith))
      | then-behind-start-via-else-behind-start+then-behind-start-ne0 w ↦
          let late = w.if-behind-start.false in
          let rest = w.if-behind-start-ne0.true in
          sym (none_between start to ((to + 1 - start) / 10) ((to + 1 - start) % 10) ds (omega arith) (omega arith) (omega arith))
    ]

pub returns-in-Some : goal.returns-in-Some
returns-in-Some c =
    let ds = c.args.cumulatives.now in
    let start = c.args.start in
    let to = c.args.to in
    let k = (to + 1 - start) / 10 - 1 in
    let d = c.in-Some.delta.now in
    let late = c.if-behind-start.false in
    let rest = c.if-behind-start-ne0.false in
    let there = c.in-Some.ensures.lookup.3 in
    ap Some c.deref.ensures ∙ sym (ten_found start to k ds (omega arith) ∙ ap (option_map value_in) (slice_get_read ds (length ds) k d refl there.0 (there.1 d)))

pub returns-in-None : goal.returns-in-None
returns-in-None c =
    let ds = c.args.cumulatives.now in
    let start = c.args.start in
    let to = c.args.to in
    let k = (to + 1 - start) / 10 - 1 in
    let late = c.if-behind-start.false in
    let rest = c.if-behind-start-ne0.false in
    sym (ten_found start to k ds (omega arith) ∙ ap (option_map value_in) (slice_get_past ds k c.in-None.ensures.lookup.3))
