-- Totals of no rows.
use Rattle.std.proofs.Common.{◌≡◌, ◌<◌, ℕ, List, [], ◌∷◌, map, min, refl, arith}
use Rattle.std.specs.List.{AllByRecursion}
use Rattle.mesa_batch.specs.Totals.{abs_total, capped, sum_bound}

-- they are counted to their end
pub none_whole : (places : List ℕ) → capped (map (λ column. abs_total column []) places) ≡ map (λ column. abs_total column []) places
none_whole [] = refl
none_whole (place ∷ places) =
    let here : min sum_bound 0 ≡ 0 = omega arith in
    λ i. here i ∷ none_whole places i

-- and none passes the bound
pub none_passes : (places : List ℕ) → AllByRecursion (λ n. n < sum_bound) (map (λ column. abs_total column []) places)
none_passes [] = tt
none_passes (place ∷ places) = (omega arith, none_passes places)
