-- The device work of a record, said of the places that a vault's memory has.
use Rattle.std.proofs.Common.{◌≡◌, ℕ, List, subst, Option}
use Rattle.mesa_disk.specs.Story.{Story}
use Rattle.mesa_disk.specs.declared.area.Area.{Area}
use Rattle.mesa_write_turns.specs.Committing.{IsWhole, IsWorked}

module _ (story new : Story) (a area : Area) (area_is : a ≡ area) (e end : ℕ) (end_is : e ≡ end) (body : List ℕ) (made : List (ℕ × Option (List ℕ))) (d dropped : List ℕ) (dropped_is : d ≡ dropped) where
  pub worked_at : IsWorked story new a e body made d → IsWorked story new area end body made dropped
  worked_at worked =
      subst (λ k. IsWorked story new k end body made dropped) area_is (subst (λ k. IsWorked story new a k body made dropped) end_is (subst (λ k. IsWorked story new a e body made k) dropped_is worked))

  pub whole_at : (l later : ℕ) → l ≡ later → IsWhole story new a e body made d l → IsWhole story new area end body made dropped later
  whole_at l later later_is whole =
      subst (λ k. IsWhole story new area end body made dropped k) later_is
      (subst (λ k. IsWhole story new k end body made dropped l) area_is (subst (λ k. IsWhole story new a k body made dropped l) end_is (subst (λ k. IsWhole story new a e body made k l) dropped_is whole)))
