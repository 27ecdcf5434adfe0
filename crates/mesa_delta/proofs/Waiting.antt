-- What waits of the blocks that were read ahead.
use Rattle.std.proofs.Common.{◌≡◌, ℕ, ◌+◌, ◌-◌, ◌≤◌, List, [], length, take, drop, ◌∙◌, ap, arith}
use Rattle.std.proofs.lemmas.List.{drop-drop, drop_all, length-drop, length-take-le}

waiting_len : {X : Type 0} (xs : List X) (taken filled : ℕ) → filled ≤ length xs → length (drop taken (take filled xs)) ≡ filled - taken
waiting_len xs taken filled le = length-drop taken (take filled xs) ∙ ap (λ (n : ℕ). n - taken) (length-take-le filled xs le)

pub none_waits : {X : Type 0} (xs : List X) (taken filled : ℕ) → filled ≤ length xs → taken ≡ filled → drop taken (take filled xs) ≡ []
none_waits xs taken filled le e = drop_all taken (take filled xs) (omega (arith, e, length-take-le filled xs le))

pub all_taken : {X : Type 0} (xs : List X) (taken filled : ℕ) → taken ≤ filled → filled ≤ length xs → drop taken (take filled xs) ≡ [] → taken ≡ filled
all_taken xs taken filled lt le none = omega (arith, ap length none, waiting_len xs taken filled le)

pub one_less : {X : Type 0} (n : ℕ) (xs : List X) → drop (n + 1) xs ≡ drop 1 (drop n xs)
one_less n xs = rw drop-drop (ap (λ (m : ℕ). drop m xs) (omega arith))
