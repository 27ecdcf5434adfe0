-- The tail of a file.
use Rattle.std.proofs.Common.{◌≡◌, ⊎_elim, ℕ, ◌-◌, ◌≤◌, ◌<◌, List, length, take, drop, min, sym, ◌∙◌, ap, arith}
use Rattle.std.proofs.Math.Nat.{min-eq_left, min-eq_right, min-le_right}
use Rattle.std.proofs.lemmas.Bool.{cases_lt}
use Rattle.std.proofs.lemmas.List.{take_all, drop_all, length-drop}

drop_min : (at : ℕ) (bytes : List ℕ) → drop (min at (length bytes)) bytes ≡ drop at bytes
drop_min at bytes = ⊎_elim
    (λ (lt : length bytes < at). (let le : length bytes ≤ at = omega (arith, lt) in ap (λ n. drop n bytes) (min-eq_right le) ∙ drop_all (length bytes) bytes (omega arith) ∙ sym (drop_all at bytes le)))
    (λ (le : at ≤ length bytes). ap (λ n. drop n bytes) (min-eq_left le)) (cases_lt (length bytes) at)

-- what is read from a place on, at most the end, to the end
pub tail_read : (at len : ℕ) (bytes : List ℕ) → length bytes ≡ len → take (len - min at len) (drop (min at len) bytes) ≡ drop at bytes
tail_read at len bytes same =
    take_all (len - min at len) (drop (min at len) bytes) (let n = length-drop (min at len) bytes in omega (arith, n, same, min-le_right at len))
    ∙ ap (λ n. drop (min at n) bytes) (sym same) ∙ drop_min at bytes
