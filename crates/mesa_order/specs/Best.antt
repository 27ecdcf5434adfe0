-- The best order among some.
use Rattle.std.specs.Prelude.{ℕ, List, Some, nat_lt, if◌then◌else◌}
use Rattle.mesa_model.specs.mesa_columns.declared.views.View.{View}
use Rattle.mesa_model.specs.mesa_columns.Columns.{Columns}
use Rattle.mesa_filter.specs.declared.terms.Term.{Term}
use Rattle.mesa_model.specs.Orders.{best_score, choice}
use Rattle.mesa_order.specs.declared.choosing.Best.{Best}

-- the best of a table and of these views
abbrev pub best_of : Columns → List ℕ → List Term → List View → Best
best_of s values terms views = record { score = best_score s values terms views; view = choice s views values terms }

-- the best so far, or the view of a number, where its score is greater
abbrev pub better_of : Best → ℕ → ℕ → Best
better_of best view score = if nat_lt best.score score then record { score = score; view = Some view } else best
