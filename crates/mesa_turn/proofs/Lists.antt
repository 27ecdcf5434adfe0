-- Beginnings of lists, and positions in them.
use Rattle.std.proofs.Common.{◌≡◌, ℕ, zero, suc, true, false, ◌<◌, ◌≤◌, List, [], ◌∷◌, ◌++◌, length, refl, sym, ap, ◌∙◌, subst, ◌⊎◌, ⊎_elim, arith, Some, None, length-append, append_assoc, append-nil, if◌then◌else◌, ltb, ltb-true, ltb-false, lt_of_not-le, true≢false}
use mathlib.Core.Logic.{dite}
use native.Mathlib.Decide.{dec_le}
use Rattle.std.specs.List.{slice_get}
use mathlib.Core.List.{IsPrefix}
use Rattle.std.proofs.lemmas.Bool.{false_from_ne_true, cases_lt}
use Rattle.std.proofs.lemmas.Option.{slice_get_past}
use Rattle.mesa_turn.specs.History.{has, has_at, Exactly, longer_of, shorter_of}

pub prefix_self : (xs : List ℕ) → IsPrefix xs xs
prefix_self xs = ([], append-nil xs)

pub prefix_more : (xs ys zs : List ℕ) → IsPrefix xs ys → IsPrefix xs (ys ++ zs)
prefix_more xs ys zs p = (p.0 ++ zs, sym (append_assoc xs p.0 zs) ∙ ap (λ l. l ++ zs) p.1)

pub prefix_trans : (xs ys zs : List ℕ) → IsPrefix xs ys → IsPrefix ys zs → IsPrefix xs zs
prefix_trans xs ys zs p q = subst (IsPrefix xs) q.1 (prefix_more xs ys q.0 p)

pub prefix_length : (xs ys : List ℕ) → IsPrefix xs ys → length xs ≤ length ys
prefix_length xs ys p = let e : length (xs ++ p.0) ≡ length ys = ap (λ l. length l) p.1 in let a = length-append xs p.0 in omega arith

-- a beginning that is no shorter is the whole
prefix_whole_of : (xs ys rest : List ℕ) → xs ++ rest ≡ ys → length ys ≤ length xs → xs ≡ ys
prefix_whole_of xs ys [] e le = sym (append-nil xs) ∙ e
prefix_whole_of xs ys (z ∷ zs) e le = let a = length-append xs (z ∷ zs) in let b : length (xs ++ z ∷ zs) ≡ length ys = ap (λ l. length l) e in absurd (omega arith)

pub prefix_whole : (xs ys : List ℕ) → IsPrefix xs ys → length ys ≤ length xs → xs ≡ ys
prefix_whole xs ys p le = prefix_whole_of xs ys p.0 p.1 le

-- positions before the end of a list stay
pub get_past : (xs : List ℕ) (y k : ℕ) → k ≡ length xs → slice_get (xs ++ y ∷ []) k ≡ Some y
get_past [] y zero e = refl
get_past [] y (suc k) e = absurd (omega arith)
get_past (x ∷ xs) y zero e = absurd (omega arith)
get_past (x ∷ xs) y (suc k) e = get_past xs y k (omega arith)

pub get_before : (xs : List ℕ) (y k : ℕ) → (k ≡ length xs → ⊥) → slice_get (xs ++ y ∷ []) k ≡ slice_get xs k
get_before [] y zero e = absurd (e refl)
get_before [] y (suc k) e = refl
get_before (x ∷ xs) y zero e = refl
get_before (x ∷ xs) y (suc k) e = get_before xs y k (λ h. e (ap suc h))

pub prefix_get : (xs ys : List ℕ) (k : ℕ) → IsPrefix xs ys → k < length xs → slice_get xs k ≡ slice_get ys k
prefix_get [] ys k p lt = absurd (omega arith)
prefix_get (x ∷ xs) ys zero p lt = ap (λ l. slice_get l 0) p.1
prefix_get (x ∷ xs) ys (suc k) p lt = prefix_get xs (xs ++ p.0) k (p.0, refl) (omega arith) ∙ ap (λ l. slice_get l (suc k)) p.1

pub get_some : (xs : List ℕ) (k : ℕ) → k < length xs → slice_get xs k ≡ None → ⊥
get_some [] k lt e = omega arith
get_some (x ∷ xs) zero lt e = cc
get_some (x ∷ xs) (suc k) lt e = get_some xs k (omega arith) e

abbrev head_or : ℕ → List ℕ → ℕ
head_or d [] = d
head_or d (x ∷ xs) = x

abbrev tail_of : List ℕ → List ℕ
tail_of [] = []
tail_of (x ∷ xs) = xs

-- of two beginnings of one list the shorter begins the longer
pub prefix_between : (xs ys log : List ℕ) → IsPrefix xs log → IsPrefix ys log → length xs ≤ length ys → IsPrefix xs ys
prefix_between [] ys log p q le = (ys, refl)
prefix_between (x ∷ xs) [] log p q le = absurd (omega arith)
prefix_between (x ∷ xs) (y ∷ ys) log p q le =
    let e : x ∷ (xs ++ p.0) ≡ y ∷ (ys ++ q.0) = p.1 ∙ sym q.1 in
    let heads : x ≡ y = ap (λ l. head_or x l) e in
    let tails : xs ++ p.0 ≡ ys ++ q.0 = ap (λ l. tail_of l) e in
    let t = prefix_between xs ys (ys ++ q.0) (p.0, tails) (q.0, refl) (omega arith) in
    (t.0, λ i. heads i ∷ t.1 i)

-- a fact of the longer of two lists, by which one it is
by_longer : (P : List ℕ → List ℕ → Type 0) (xs ys : List ℕ) → (length xs < length ys → P xs ys) → (length ys ≤ length xs → P ys xs) → P (shorter_of xs ys) (longer_of xs ys)
by_longer P xs ys less more = elim (ltb (length xs) (length ys)) as (λ b. ltb (length xs) (length ys) ≡ b → P (if b then xs else ys) (if b then ys else xs)) [ true ↦ λ e. less (ltb-true (length xs) (length ys) e) | false ↦ λ e. more (ltb-false (length xs) (length ys) e) ] refl

pub longer_prefix : (xs ys log : List ℕ) → IsPrefix xs log → IsPrefix ys log → IsPrefix (longer_of xs ys) log
longer_prefix xs ys log p q = by_longer (λ s l. IsPrefix l log) xs ys (λ _. q) (λ _. p)

pub longer_left : (xs ys : List ℕ) → length xs ≤ length (longer_of xs ys)
longer_left xs ys = by_longer (λ s l. length xs ≤ length l) xs ys (λ le. omega arith) (λ le. omega arith)

pub longer_right : (xs ys : List ℕ) → length ys ≤ length (longer_of xs ys)
longer_right xs ys = by_longer (λ s l. length ys ≤ length l) xs ys (λ le. omega arith) (λ le. omega arith)

pub shorter_begins : (xs ys log : List ℕ) → IsPrefix xs log → IsPrefix ys log → IsPrefix (shorter_of xs ys) (longer_of xs ys)
shorter_begins xs ys log p q = by_longer IsPrefix xs ys (λ lt. prefix_between xs ys log p q (omega arith)) (λ le. prefix_between ys xs log q p le)

-- where the shorter begins the longer, both begin it
pub both_begin : (xs ys : List ℕ) → IsPrefix (shorter_of xs ys) (longer_of xs ys) → IsPrefix xs (longer_of xs ys) × IsPrefix ys (longer_of xs ys)
both_begin xs ys = by_longer (λ s l. IsPrefix s l → IsPrefix xs l × IsPrefix ys l) xs ys (λ lt p. (p, prefix_self ys)) (λ le p. (prefix_self xs, p))

-- of two beginnings, one of which is the whole, the longer is the whole
pub longer_whole : (xs ys log : List ℕ) → IsPrefix xs log → IsPrefix ys log → (xs ≡ log) ⊎ (ys ≡ log) → longer_of xs ys ≡ log
longer_whole xs ys log p q either = prefix_whole (longer_of xs ys) log (longer_prefix xs ys log p q)
    (⊎_elim
    (λ (e : xs ≡ log). let l : length xs ≡ length log = ap (λ l. length l) e in let left = longer_left xs ys in omega arith)
    (λ (e : ys ≡ log). let l : length ys ≡ length log = ap (λ l. length l) e in let right = longer_right xs ys in omega arith)
    either)

-- an entry with a name stands in the list
pub named_below : (names xs : List ℕ) (k : ℕ) → has_at names (slice_get xs k) ≡ true → k < length xs
named_below names xs k h = ⊎_elim (λ (lt : k < length xs). lt) (λ (past : length xs ≤ k). absurd (true≢false (sym h ∙ ap (has_at names) (slice_get_past xs k past)))) (cases_lt k (length xs))

-- what holds of a list holds of a beginning of it that has all own positions
pub exactly_of : (own names seen log : List ℕ) → IsPrefix seen log → Exactly own names log → ((k : ℕ) → has own k ≡ true → k < length seen) → Exactly own names seen
exactly_of own names seen log p all below k = dite (dec_le (length seen) k)
    (λ past. false_from_ne_true (has own k) (λ h. let lt = below k h in omega arith) ∙ ap (has_at names) (sym (slice_get_past seen k past)))
    (λ lt. all k ∙ ap (has_at names) (sym (prefix_get seen log k p (lt_of_not-le lt))))
