use Rattle.std.proofs.Common.{◌≡◌, ◌+◌, [], ◌∷◌, ◌++◌, length, take, sym, ◌∙◌, ap, arith}
use Rattle.std.proofs.lemmas.List.{length-take-le, take_all, take_more}
use Rattle.std.proofs.lemmas.Option.{get_or_from_slice_get, slice_get_within}
use Rattle.mesa_model.specs.mesa_columns.declared.views.View.{View}
use Rattle.mesa_schema.specs.Changes.{columns_of}
use Rattle.mesa_model.specs.mesa_columns.Columns.{Columns}
use Rattle.mesa_filter.specs.Asked.{places_below}
use Rattle.mesa_model.specs.Orders.{leading, table_score, view_score}
use Rattle.mesa_order.specs.declared.choosing.Best.{Best}
use Rattle.mesa_order.specs.Best.{best_of, better_of}
use Rattle.mesa_order.proofs.Choices.{best_next, chosen_candidate, chosen_there, none_yet}
use Rattle.mesa_order.proofs.choosing.best_order.Goals as goal

pub orders-init : goal.orders-init
orders-init c =
    let s : Columns = columns_of c.args.evolving.now in
    let values = c.args.values.now in
    let terms = c.args.terms.now in
    let keys = c.keys.ensures.same ∙ ap (λ (t : Columns). t.keys) c.present-table.ensures.columns in
    let score : c.table_score.result ≡ table_score s terms = c.table_score.ensures ∙ ap (λ ks. leading terms (places_below ks)) keys in
    λ i. record { score = score i; view = sym (none_yet s values terms) i }

pub orders-preserved : goal.orders-preserved
orders-preserved c =
    let s : Columns = columns_of c.args.evolving.now in
    let values = c.args.values.now in
    let terms = c.args.terms.now in
    let views = c.args.evolving.now.views in
    let view = c.orders.view in
    let v : View = c.view.result.now in
    let lt = slice_get_within views view v c.view.ensures in
    let more : take (view + 1) views ≡ take view views ++ v ∷ [] = take_more views view v lt ∙ ap (λ (w : View). take view views ++ w ∷ []) (get_or_from_slice_get views view v v c.view.ensures) in
    let count : length (take view views) ≡ view = length-take-le view views (omega (arith, lt)) in
    let score : c.view_score-score.result ≡ view_score s values terms v = c.view_score-score.ensures ∙ ap (λ (t : Columns). view_score t values terms v) c.present-table.ensures.columns in
    c.better-best.ensures ∙ (λ i. better_of (c.orders.invariant i) view (score i)) ∙ ap (λ n. better_of (best_of s values terms (take view views)) n (view_score s values terms v)) (sym count)
    ∙ sym (best_next s values terms (take view views) v) ∙ ap (best_of s values terms) (sym more)

pub returns-clause-choice : goal.returns-clause-choice
returns-clause-choice c =
    let s : Columns = columns_of c.args.evolving.now in
    let views = c.args.evolving.now.views in
    let whole : take c.orders.view views ≡ views = take_all c.orders.view views (omega (arith, c.orders-test.false, c.views-view-end.ensures)) in
    ap (λ (b : Best). b.view) (c.orders.invariant ∙ ap (best_of s c.args.values.now c.args.terms.now) whole)

pub returns-clause-there : goal.returns-clause-there
returns-clause-there c =
    let s : Columns = columns_of c.args.evolving.now in
    let views = c.args.evolving.now.views in
    let whole : take c.orders.view views ≡ views = take_all c.orders.view views (omega (arith, c.orders-test.false, c.views-view-end.ensures)) in
    chosen_there s c.args.values.now c.args.terms.now views c.orders.best.view (ap (λ (b : Best). b.view) (c.orders.invariant ∙ ap (best_of s c.args.values.now c.args.terms.now) whole))

pub returns-clause-candidate : goal.returns-clause-candidate
returns-clause-candidate c =
    let s : Columns = columns_of c.args.evolving.now in
    let views = c.args.evolving.now.views in
    let whole : take c.orders.view views ≡ views = take_all c.orders.view views (omega (arith, c.orders-test.false, c.views-view-end.ensures)) in
    chosen_candidate s c.args.values.now c.args.terms.now views c.orders.best.view (ap (λ (b : Best). b.view) (c.orders.invariant ∙ ap (best_of s c.args.values.now c.args.terms.now) whole))
