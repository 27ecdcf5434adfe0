use Rattle.std.proofs.Common.{List, ℕ, ◌∙◌, subst}
use Rattle.std.specs.Prelude.{IfSome, IsTrue, slice_get}
use Rattle.mesa_schema.specs.Changes.{columns_of}
use Rattle.mesa_model.specs.Orders.{choice, is_candidate}
use Rattle.mesa_order.proofs.choosing.choose.Goals as goal

pub returns-clause-choice : goal.returns-clause-choice
returns-clause-choice c =
    let l = c.args.evolving.now in
    let terms = c.terms.ensures.terms ∙ c.filter.ensures.terms in
    c.best_order.ensures.choice ∙ (λ i. choice (columns_of l) l.views (c.values.ensures i) (terms i))

pub returns-clause-candidate : goal.returns-clause-candidate
returns-clause-candidate c =
    let l = c.args.evolving.now in
    subst (λ (values : List ℕ). IfSome c.best_order.result (λ view. IfSome (slice_get l.views view) (λ v. IsTrue (is_candidate (columns_of l) values v)))) c.values.ensures c.best_order.ensures.candidate
