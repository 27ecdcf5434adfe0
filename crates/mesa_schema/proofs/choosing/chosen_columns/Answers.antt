use Rattle.std.proofs.Common.{◌∙◌, ◌++◌, ◌∷◌, [], sym, ap, map}
use Rattle.mesa_columns.specs.Columns.{place_of}
use Rattle.mesa_schema.proofs.Choices.{chosen_more, chosen_same}
use Rattle.mesa_schema.proofs.choosing.chosen_columns.Goals as goal
use Rattle.mesa_schema.proofs.choosing.chosen_columns.Goals.{in-Some+in_ok-copy+in_ok-push, in_default}

pub loop-name-preserved : goal.loop-name-preserved
loop-name-preserved g c =
    let names = map g.C.Named.name_of c.args.columns.now in
    let place = ap (λ n. place_of n names) (sym c.bytes.ensures.same) ∙ sym c.place_of.ensures.place in
    elim c.match-place_of.branch [
      | in-Some+in_ok-copy+in_ok-push w ↦
          chosen_more names c.args.columns.now c.args.names.now c.loop-name.name-index c.name-item.result w.in-Some.place w.index-columns-place.result c.loop-name.found.items c.match-place_of.found.items _
          c.loop-name-test.true (sym c.name-item.is) (place ∙ w.in-Some.is) w.in-Some.ensures.within w.index-columns-place.is
          (ap (λ v. v.items) w.found-is ∙ w.in_ok-push.ensures.items ∙ ap (λ column. c.loop-name.found.items ++ column ∷ []) w.in_ok-copy.ensures)
          c.loop-name.invariant
      | in_default w ↦
          chosen_same names c.args.columns.now c.args.names.now c.loop-name.name-index c.name-item.result c.loop-name.found.items c.match-place_of.found.items _
          c.loop-name-test.true (sym c.name-item.is) (place ∙ w.in_default.is) (ap (λ v. v.items) w.found-is) c.loop-name.invariant
    ]
