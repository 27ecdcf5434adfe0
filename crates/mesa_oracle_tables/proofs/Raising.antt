-- The greatest of numbers, and numbers that are raised.
use Rattle.std.proofs.Common.{◌≡◌, ◌∙◌, ◌<◌, ◌+◌, ◌++◌, ◌∷◌, [], ℕ, List, ap, append_assoc, arith, drop, get_or, length, map, set, sym, take}
use Rattle.std.specs.Prelude.{max}
use Rattle.std.proofs.lemmas.List.{drop-set-lt, drop_more, take_more_set}
use Rattle.mesa_oracle_tables.specs.Kept.{greatest_of}

pub greatest_next : (found oldest : ℕ) (rest : List ℕ) → greatest_of (max found oldest) rest ≡ max oldest (greatest_of found rest)
greatest_next found oldest [] = omega arith
greatest_next found oldest (next ∷ rest) =
    let before = greatest_next found oldest rest in
    omega (arith, before)

pub greatest_step : (found : ℕ) (oldests : List ℕ) (i whole : ℕ) → i < length oldests → greatest_of found (drop i oldests) ≡ whole → greatest_of (max found (get_or oldests i 0)) (drop (i + 1) oldests) ≡ whole
greatest_step found oldests i whole lt before =
    greatest_next found (get_or oldests i 0) (drop (i + 1) oldests) ∙ sym (ap (greatest_of found) (drop_more oldests i 0 lt)) ∙ before

pub raised_step : (version i : ℕ) (oldests whole : List ℕ) → i < length oldests → take i oldests ++ map (λ oldest. max oldest version) (drop i oldests) ≡ whole
    → take (i + 1) (set oldests i (max (get_or oldests i 0) version)) ++ map (λ oldest. max oldest version) (drop (i + 1) (set oldests i (max (get_or oldests i 0) version))) ≡ whole
raised_step version i oldests whole lt before =
    let x = max (get_or oldests i 0) version in
    rw (take_more_set oldests i x lt, drop-set-lt (i + 1) oldests i x (omega arith))
    (append_assoc (take i oldests) (x ∷ []) (map (λ oldest. max oldest version) (drop (i + 1) oldests))
    ∙ ap (λ ns. take i oldests ++ map (λ oldest. max oldest version) ns) (sym (drop_more oldests i 0 lt)) ∙ before)
