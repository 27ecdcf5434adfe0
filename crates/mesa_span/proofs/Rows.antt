-- A table of 93 versions whose oldest is 60, and later 75: its works one after another, and plans between them.
use Rattle.std.proofs.Common.{◌≡◌, [], ◌∷◌, Some, None, refl}
use Rattle.mesa_span.specs.declared.ranges.Ranges.{Ranges}
use Rattle.mesa_span.specs.declared.works.Work.TheVariants.{Base, Cumulative}
use Rattle.mesa_span.specs.Plan.{plan}
use Rattle.mesa_span.specs.Work.{next_work, swapped}

abbrev begun : Ranges
begun = record { base_to = None; cumulatives = [] }

base_first : next_work begun 60 (Some 92) ≡ Some (Base 60)
base_first = refl

abbrev based : Ranges
based = swapped (Base 60) begun

ten : next_work based 60 (Some 92) ≡ Some (Cumulative 61 70)
ten = refl

twenty : next_work (swapped (Cumulative 61 70) based) 60 (Some 92) ≡ Some (Cumulative 61 80)
twenty = refl

abbrev worked : Ranges
worked = swapped (Cumulative 61 90) (swapped (Cumulative 61 80) (swapped (Cumulative 61 70) based))

idle : next_work worked 60 (Some 92) ≡ None
idle = refl

by_the_longest : plan worked 91 ≡ (0, 60) ∷ (61, 90) ∷ (91, 91) ∷ []
by_the_longest = refl

by_a_shorter : plan worked 75 ≡ (0, 60) ∷ (61, 70) ∷ (71, 71) ∷ (72, 72) ∷ (73, 73) ∷ (74, 74) ∷ (75, 75) ∷ []
by_a_shorter = refl

base_again : next_work worked 75 (Some 92) ≡ Some (Base 75)
base_again = refl

-- a new base drops the cumulatives that straddle its end
straddlers_dropped : plan (swapped (Base 75) worked) 78 ≡ (0, 75) ∷ (76, 76) ∷ (77, 77) ∷ (78, 78) ∷ []
straddlers_dropped = refl
