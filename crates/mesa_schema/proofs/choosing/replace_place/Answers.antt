use Rattle.std.proofs.Common.{◌∙◌, sym, ap, map}
use Rattle.mesa_columns.specs.declared.columns.ValueColumn.{ValueColumn}
use Rattle.mesa_columns.specs.Columns.{place_of}
use Rattle.mesa_schema.proofs.Choices.{replace_found, replace_none, replace_not}
use Rattle.mesa_schema.proofs.choosing.replace_place.Goals as goal
use Rattle.mesa_schema.proofs.choosing.replace_place.Goals.{in-Some+else-is_replace, in_default}

pub returns-then-is_replace-clause-name : goal.returns-then-is_replace-clause-name
returns-then-is_replace-clause-name c =
    let place = ap (λ n. place_of n (map (λ (col : ValueColumn). col.name) c.args.columns.now)) (sym c.bytes.ensures.same) ∙ sym c.place_of.ensures.place in
    replace_found c.args.columns.now c.args.names.now c.loop-i.i c.index-names-i.result c.in-Some.place c.index-columns-place.result
    c.loop-i-test.true (sym c.index-names-i.is) (place ∙ c.in-Some.is) c.in-Some.ensures.within c.index-columns-place.is (sym c.if-is_replace.ensures) c.loop-i.invariant

pub loop-i-preserved : goal.loop-i-preserved
loop-i-preserved c =
    let place = ap (λ n. place_of n (map (λ (col : ValueColumn). col.name) c.args.columns.now)) (sym c.bytes.ensures.same) ∙ sym c.place_of.ensures.place in
    elim c.match-place_of.branch [
      | in-Some+else-is_replace w ↦
          replace_not c.args.columns.now c.args.names.now c.loop-i.i c.index-names-i.result w.in-Some.place w.index-columns-place.result
          c.loop-i-test.true (sym c.index-names-i.is) (place ∙ w.in-Some.is) w.in-Some.ensures.within w.index-columns-place.is (sym w.if-is_replace.ensures) ∙ c.loop-i.invariant
      | in_default w ↦ replace_none c.args.columns.now c.args.names.now c.loop-i.i c.index-names-i.result c.loop-i-test.true (sym c.index-names-i.is) (place ∙ w.in_default.is) ∙ c.loop-i.invariant
    ]
