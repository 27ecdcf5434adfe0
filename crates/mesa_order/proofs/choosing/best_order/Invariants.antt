use Rattle.std.proofs.Common.{◌≡◌, take}
use Rattle.mesa_schema.specs.Changes.{columns_of}
use Rattle.mesa_order.specs.Best.{best_of}
use Rattle.mesa_order.proofs.choosing.best_order.Given as goal

-- the best of the table and of the views so far
abbrev pub invariant-orders : goal.invariant-orders
invariant-orders l = l.best ≡ best_of (columns_of l.evolving) l.values l.terms (take l.view l.evolving.views)
