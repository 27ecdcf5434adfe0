use Rattle.std.proofs.Common.{◌+◌, drop, length, map, true, Some, None, sym, ◌∙◌, ap, subst, arith}
use Rattle.std.proofs.lemmas.List.{length-set}
use Rattle.mesa_model.specs.mesa_columns.Columns.{place_of, places_in}
use Rattle.mesa_order.proofs.Marks.{Marks, all_left, mark_more, marked_all, none_yet}
use Rattle.mesa_order.proofs.Scores.{names_next}
use Rattle.mesa_order.proofs.marking.marks.Goals as goal
use Rattle.mesa_order.proofs.marking.marks.Goals.{in-Some, in_default}

pub names-init : goal.names-init
names-init g c = record {
  count = omega arith;
  marked = none_yet 16 (places_in (map g.C.Named.name_of c.args.columns.now) c.args.names.now);
}

pub names-preserved : goal.names-preserved
names-preserved g c =
    let names = map g.C.Named.name_of c.args.columns.now in
    let asked = c.args.names.now in
    let i = c.names.name-index in
    let left = places_in names (drop (i + 1) asked) in
    let found = ap (λ name. place_of name names) (sym c.bytes.ensures.same) ∙ sym c.place_of.ensures.place in
    elim c.match-place_of.branch [
      | in-Some w ↦
          let next = names_next names asked i c.name-item.result (Some w.in-Some.place) c.names-test.true c.name-item.is (found ∙ w.in-Some.is) in
          let was = subst (λ ps. Marks c.names.marks ps (places_in names asked)) next c.names.invariant.marked in
          record {
            count = ap length w.marks-is ∙ length-set c.names.marks w.in-Some.place true ∙ c.names.invariant.count;
            marked = subst (λ ms. Marks ms left (places_in names asked)) (sym w.marks-is) (mark_more c.names.marks w.in-Some.place left (places_in names asked) (omega (arith, w.in-Some.ensures.within, c.requires, c.names.invariant.count)) was);
          }
      | in_default w ↦
          let next = names_next names asked i c.name-item.result None c.names-test.true c.name-item.is (found ∙ w.in_default.is) in
          let was = subst (λ ps. Marks c.names.marks ps (places_in names asked)) next c.names.invariant.marked in
          record {
            count = ap length w.marks-is ∙ c.names.invariant.count;
            marked = subst (λ ms. Marks ms left (places_in names asked)) (sym w.marks-is) was;
          }
    ]

pub returns : goal.returns
returns g c =
    let names = map g.C.Named.name_of c.args.columns.now in
    let none = all_left names c.args.names.now c.names.name-index (omega arith) in
    marked_all c.names.marks (places_in names c.args.names.now) (subst (λ left. Marks c.names.marks left (places_in names c.args.names.now)) none c.names.invariant.marked)
