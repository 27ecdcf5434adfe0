use Rattle.std.proofs.Common.{◌≡◌, List, length, refl, sym, ap, ◌∙◌, arith, Some}
use Rattle.std.specs.Prelude.{slice_get}
use Rattle.std.proofs.lemmas.Option.{slice_get_read}
use Rattle.mesa_delta.specs.mesa_columns.declared.rows.Row.{Row}
use Rattle.mesa_scan.proofs.Chosen.{chosen_at, chosen_count, place_there}
use Rattle.mesa_scan.proofs.matching.MatchingRows.row.Goals as goal

pub index-requires : goal.index-requires
index-requires c =
    let b = c.self.inside in
    omega (arith, c.requires, b.places.ok, chosen_count b.places.items b.block c.self.invariant, ap (λ (rows : List Row). length rows) c.self.view_is)

pub row-requires : goal.row-requires
row-requires c =
    let b = c.self.inside in
    let place = c.index.result.now in
    let count = chosen_count b.places.items b.block c.self.invariant in
    let at : slice_get b.places.items c.args.i ≡ Some place =
    slice_get_read b.places.items (length b.places.items) c.args.i place refl (omega (arith, c.requires, count, ap (λ (rows : List Row). length rows) c.self.view_is)) c.index.ensures in
    place_there (length b.block) b.places.items c.args.i place c.self.invariant at

pub returns : goal.returns
returns c =
    let b = c.self.inside in
    let place = c.index.result.now in
    let count = chosen_count b.places.items b.block c.self.invariant in
    let at : slice_get b.places.items c.args.i ≡ Some place =
    slice_get_read b.places.items (length b.places.items) c.args.i place refl (omega (arith, c.requires, count, ap (λ (rows : List Row). length rows) c.self.view_is)) c.index.ensures in
    ap (λ (rows : List Row). slice_get rows c.args.i) (sym c.self.view_is) ∙ chosen_at b.places.items b.block c.args.i place c.self.invariant at ∙ c.row.ensures
