-- Files that are opened one after another.
use Rattle.std.proofs.Common.{◌≡◌, ℕ, zero, suc, take, drop, List, [], ◌∷◌, ◌++◌, Option, None, Some, refl, ap}
use Rattle.std.specs.List.{AllByRecursion}
use Rattle.mesa_disk.specs.Image.{Image}
use Rattle.mesa_file.specs.declared.damage.Damage.{Damage}
use Rattle.mesa_delta.specs.declared.input.Input.{Input}
use Rattle.mesa_scan.specs.Cursors.{reader_in}
use Rattle.mesa_open_files.specs.declared.opening.Wanted.{Wanted}
use Rattle.mesa_open_files.specs.Opening.{HaveOpened, IsDamageOf, IsOpened, wanted_columns}

module _ {R : Type 0} (bytes : R → Option (List ℕ)) (faults : R → ℕ) (told : Option Image) where
  pub opened_more : (ws : List Wanted) (is : List (Input R)) (w : Wanted) (i : Input R) → HaveOpened bytes faults told ws is None → IsOpened bytes faults told w i → HaveOpened bytes faults told (ws ++ w ∷ []) (is ++ i ∷ []) None
  opened_more [] [] w i all one = (one, tt)
  opened_more [] (q ∷ is) w i all one = absurd all
  opened_more (v ∷ ws) [] w i all one = absurd all
  opened_more (v ∷ ws) (q ∷ is) w i all one = (all.0, opened_more ws is w i all.1 one)

  pub opened_less : (ws : List Wanted) (is : List (Input R)) (w : Wanted) (rest : List Wanted) (d : Damage) → HaveOpened bytes faults told ws is None → IsDamageOf told (wanted_columns w) w.file.now d
      → HaveOpened bytes faults told ((ws ++ w ∷ []) ++ rest) is (Some d)
  opened_less [] [] w rest d all one = one
  opened_less [] (q ∷ is) w rest d all one = absurd all
  opened_less (v ∷ ws) [] w rest d all one = absurd all
  opened_less (v ∷ ws) (q ∷ is) w rest d all one = (all.0, opened_less ws is w rest d all.1 one)

  -- no reader has failed yet
  pub opened_fresh : (ws : List Wanted) (is : List (Input R)) (d : Option Damage) → HaveOpened bytes faults told ws is d → AllByRecursion (λ (i : Input R). faults (reader_in i) ≡ 0) is
  opened_fresh ws [] d all = tt
  opened_fresh [] (i ∷ is) d all = absurd all
  opened_fresh (w ∷ ws) (i ∷ is) d all = (all.0.fresh, opened_fresh ws is d all.1)

pub taken_and_rest : {A : Type 0} (n : ℕ) (xs : List A) → take n xs ++ drop n xs ≡ xs
taken_and_rest zero xs = refl
taken_and_rest (suc n) [] = refl
taken_and_rest (suc n) (x ∷ xs) = ap (λ ys. x ∷ ys) (taken_and_rest n xs)
