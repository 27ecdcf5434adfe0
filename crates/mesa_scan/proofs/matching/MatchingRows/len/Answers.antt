use Rattle.std.proofs.Common.{List, length, ap, arith}
use Rattle.mesa_delta.specs.mesa_columns.declared.rows.Row.{Row}
use Rattle.mesa_scan.proofs.Chosen.{chosen_count}
use Rattle.mesa_scan.proofs.matching.MatchingRows.len.Goals as goal

pub returns : goal.returns
returns c =
    let b = c.self.inside in
    omega (arith, c.len.ensures, b.places.ok, chosen_count b.places.items b.block c.self.invariant, ap (λ (rows : List Row). length rows) c.self.view_is)
