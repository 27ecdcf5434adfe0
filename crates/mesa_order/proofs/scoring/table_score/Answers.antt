use Rattle.std.proofs.Common.{sym, ◌∙◌, arith}
use Rattle.mesa_order.proofs.Scores.{own_all, own_ends, own_first, own_leads}
use Rattle.mesa_order.proofs.scoring.table_score.Goals as goal

pub places-init : goal.places-init
places-init c = own_first c.args.terms.now c.args.columns.now

pub returns-then-not-has_equal : goal.returns-then-not-has_equal
returns-then-not-has_equal c = own_ends c.args.terms.now c.args.columns.now c.places.place _ (omega arith) (sym c.has_equal.ensures ∙ c.if-not-has_equal.true) c.places.invariant

pub places-preserved : goal.places-preserved
places-preserved c = own_leads c.args.terms.now c.args.columns.now c.places.place _ (omega arith) (sym c.has_equal.ensures ∙ c.if-not-has_equal.false) c.places.invariant

pub returns : goal.returns
returns c = own_all c.args.terms.now c.args.columns.now c.places.place _ (omega arith) c.places.invariant
