use Rattle.std.proofs.Common.{rules, is_lt}
use Rattle.std.proofs.lemmas.List.Sorted.{All-permutation, IsPermutation-map, ranks_by}
use Rattle.std.proofs.lemmas.Fn.{always_returns_same}
use Rattle.mesa_batch.specs.declared.spots.Spot.{Spot}
use Rattle.mesa_batch.specs.Heads.{IsSpot, place_of, spotted_cmp}
use Rattle.mesa_batch.proofs.Heads.{places_sorted, spotted_total}
use Rattle.mesa_batch.proofs.ordering.sort.Goals as goal

pub returns-clause-permutation : goal.returns-clause-permutation
returns-clause-permutation c = IsPermutation-map place_of _ _ c.sort_unstable_by.ensures.permutation

pub returns-clause-sorted : goal.returns-clause-sorted
returns-clause-sorted c =
    let rows = c.args.rows.now in
    places_sorted rows _ (All-permutation (IsSpot rows) _ _ c.sort_unstable_by.ensures.permutation c.requires)
    (c.sort_unstable_by.ensures.sorted (λ a b. is_lt (spotted_cmp rows a b)) (ranks_by (spotted_total rows) (λ (s : Spot). s)) (always_returns_same _ _ _ (λ a r f k. search rules)))

pub returns-clause-spots : goal.returns-clause-spots
returns-clause-spots c = All-permutation (IsSpot c.args.rows.now) _ _ c.sort_unstable_by.ensures.permutation c.requires
