use Rattle.std.proofs.Common.{◌+◌, drop, map, sym, ◌∙◌, ap, arith}
use Rattle.mesa_model.specs.mesa_columns.declared.columns.KeyColumn.{KeyColumn}
use Rattle.mesa_model.specs.mesa_columns.Columns.{place_of, places_in}
use Rattle.mesa_model.specs.Orders.{leading}
use Rattle.mesa_order.proofs.Scores.{chosen_all, chosen_ends, chosen_leads, chosen_past}
use Rattle.mesa_order.proofs.scoring.chosen_score.Goals as goal
use Rattle.mesa_order.proofs.scoring.chosen_score.Goals.{in-Some+else-not-has_equal, in_default}

pub returns-then-not-has_equal : goal.returns-then-not-has_equal
returns-then-not-has_equal c =
    let names = map (λ (x : KeyColumn). x.name) c.args.columns.now in
    let there = ap (λ name. place_of name names) (sym c.bytes.ensures.same) ∙ sym c.place_of.ensures.place ∙ c.in-Some.is in
    chosen_ends c.args.terms.now names c.args.names.now c.names.name-index c.name-item.result c.in-Some.place c.names.count _ c.names-test.true c.name-item.is there (sym c.has_equal.ensures ∙ c.if-not-has_equal.true) c.names.invariant.leads

pub names-preserved : goal.names-preserved
names-preserved c =
    let names = map (λ (x : KeyColumn). x.name) c.args.columns.now in
    let asked = c.args.names.now in
    let i = c.names.name-index in
    let terms = c.args.terms.now in
    let found = ap (λ name. place_of name names) (sym c.bytes.ensures.same) ∙ sym c.place_of.ensures.place in
    elim c.match-place_of.branch [
      | in-Some+else-not-has_equal w ↦
          let next = chosen_leads terms names asked i c.name-item.result w.in-Some.place c.names.count _ c.names-test.true c.name-item.is (found ∙ w.in-Some.is) (sym w.has_equal.ensures ∙ w.if-not-has_equal.false) c.names.invariant.leads in
          record { few = omega (arith, w.count-is, c.names.invariant.few); leads = ap (λ n. n + leading terms (places_in names (drop (i + 1) asked))) w.count-is ∙ next }
      | in_default w ↦
          let next = chosen_past terms names asked i c.name-item.result c.names.count _ c.names-test.true c.name-item.is (found ∙ w.in_default.is) c.names.invariant.leads in
          record { few = omega (arith, w.count-is, c.names.invariant.few); leads = ap (λ n. n + leading terms (places_in names (drop (i + 1) asked))) w.count-is ∙ next }
    ]

pub returns : goal.returns
returns c = chosen_all c.args.terms.now (map (λ (x : KeyColumn). x.name) c.args.columns.now) c.args.names.now c.names.name-index c.names.count _ (omega arith) c.names.invariant.leads
