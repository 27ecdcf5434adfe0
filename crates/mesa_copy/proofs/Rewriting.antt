-- Ranges that are rewritten one after the other.
use Rattle.std.proofs.Common.{ℕ, zero, suc, ◌<◌, ◌≤◌, List, [], ◌∷◌, ◌++◌, length, take, get_or, arith}
use Rattle.std.specs.Prelude.{Option}
use Rattle.mesa_compact.specs.mesa_columns.Columns.{Columns}
use Rattle.mesa_schema.specs.Recasts.{Recast}
use Rattle.mesa_open_files.specs.Recasts.{AreRewritten, IsRangeRewritten}
use Rattle.mesa_open_files.specs.declared.recasting.RecastRange.{RecastRange}
use Rattle.mesa_open_files.specs.declared.recasting.RecastedRange.{RecastedRange}

module _ {M R : Type 0} (bytes : M → Option (List ℕ)) (id_of : M → ℕ) (read : R → Option (List ℕ)) (s : Columns) (r : Recast) where
  -- no more are made than there are
  pub made_within : (xs : List (RecastRange R)) (ys : List (RecastedRange M)) → AreRewritten bytes id_of read s r (take (length ys) xs) ys → length ys ≤ length xs
  made_within [] [] h = omega arith
  made_within [] (y ∷ ys) h = absurd h
  made_within (x ∷ xs) [] h = omega arith
  made_within (x ∷ xs) (y ∷ ys) h = let less : length ys ≤ length xs = made_within xs ys h.1 in omega (arith, less)

  -- all of them are the first, as many as there are
  pub rewritten_all : (xs : List (RecastRange R)) (ys : List (RecastedRange M)) → AreRewritten bytes id_of read s r xs ys → AreRewritten bytes id_of read s r (take (length ys) xs) ys
  rewritten_all [] [] h = tt
  rewritten_all [] (y ∷ ys) h = absurd h
  rewritten_all (x ∷ xs) [] h = absurd h
  rewritten_all (x ∷ xs) (y ∷ ys) h = (h.0, rewritten_all xs ys h.1)

  -- they are still the first where more come behind them
  pub rewritten_front : (xs more : List (RecastRange R)) (ys : List (RecastedRange M)) → AreRewritten bytes id_of read s r xs ys → AreRewritten bytes id_of read s r (take (length ys) (xs ++ more)) ys
  rewritten_front [] more [] h = tt
  rewritten_front [] more (y ∷ ys) h = absurd h
  rewritten_front (x ∷ xs) more [] h = absurd h
  rewritten_front (x ∷ xs) more (y ∷ ys) h = (h.0, rewritten_front xs more ys h.1)

  -- one more
  pub rewritten_push : (xs : List (RecastRange R)) (i : ℕ) (d : RecastRange R) (ys : List (RecastedRange M)) (y : RecastedRange M) → i < length xs → AreRewritten bytes id_of read s r (take i xs) ys → IsRangeRewritten bytes id_of read s r (get_or xs i d) y
      → AreRewritten bytes id_of read s r (take (suc i) xs) (ys ++ y ∷ [])
  rewritten_push [] i d ys y lt h one = absurd (omega (arith, lt))
  rewritten_push (x ∷ xs) zero d [] y lt h one = (one, tt)
  rewritten_push (x ∷ xs) zero d (z ∷ ys) y lt h one = absurd h
  rewritten_push (x ∷ xs) (suc i) d [] y lt h one = absurd h
  rewritten_push (x ∷ xs) (suc i) d (z ∷ ys) y lt h one = (h.0, rewritten_push xs i d ys y (omega (arith, lt)) h.1 one)
