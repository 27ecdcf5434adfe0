-- Values combined column by column.
use Rattle.std.proofs.Common.{◌≡◌, ◌<◌, ◌≤◌, ◌+◌, ℕ, zero, suc, ℤ, pos, List, [], ◌∷◌, ◌++◌, length, get_or, take, drop, set, sym, subst, refl, ap, arith, drop-cons, add-one, append_assoc}
use Rattle.std.proofs.lemmas.List.{drop_all}
use Rattle.mesa_schema.specs.mesa_value.declared.Agg.{Agg}
use Rattle.mesa_schema.specs.mesa_value.declared.Agg.TheVariants.{Sum}
use Rattle.mesa_schema.specs.mesa_value.Agg.{Combines, combined}
use Rattle.mesa_schema.specs.mesa_fold.Folded.{AllCombine, row_combined}

-- the values from a column on
pub row_combined-next : (aggs : List Agg) (old new : List ℤ) (i : ℕ) → i < length aggs → i < length old → i < length new
    → row_combined (drop i aggs) (drop i old) (drop i new)
    ≡ combined (get_or aggs i Sum) (get_or old i (pos 0)) (get_or new i (pos 0)) ∷ row_combined (drop (i + 1) aggs) (drop (i + 1) old) (drop (i + 1) new)
row_combined-next aggs old new i a b c = rw (drop-cons aggs i Sum, drop-cons old i (pos 0), drop-cons new i (pos 0), add-one) refl

-- values that have one together from a column on
pub AllCombine-next : (aggs : List Agg) (old new : List ℤ) (i : ℕ) → i < length aggs → i < length old → i < length new
    → AllCombine (drop i aggs) (drop i old) (drop i new)
    → Combines (get_or aggs i Sum) (get_or old i (pos 0)) (get_or new i (pos 0)) × AllCombine (drop (i + 1) aggs) (drop (i + 1) old) (drop (i + 1) new)
AllCombine-next aggs old new i a b c all =
    let h = rw (drop-cons aggs i Sum, drop-cons old i (pos 0), drop-cons new i (pos 0)) at all in
    subst (λ n. Combines (get_or aggs i Sum) (get_or old i (pos 0)) (get_or new i (pos 0)) × AllCombine (drop n aggs) (drop n old) (drop n new)) (sym (add-one i)) h

take-set : (old : List ℤ) (i : ℕ) (v : ℤ) → i < length old → take (suc i) (set old i v) ≡ take i old ++ v ∷ []
take-set [] i v lt = absurd (omega arith)
take-set (o ∷ old) zero v lt = refl
take-set (o ∷ old) (suc i) v lt = ap (λ vs. o ∷ vs) (take-set old i v (omega arith))

drop-set : (old : List ℤ) (i : ℕ) (v : ℤ) → drop (suc i) (set old i v) ≡ drop (suc i) old
drop-set [] i v = refl
drop-set (o ∷ old) zero v = refl
drop-set (o ∷ old) (suc i) v = drop-set old i v

-- one column more is combined
pub combined-next : (aggs : List Agg) (old new : List ℤ) (i : ℕ) (v : ℤ) → i < length aggs → i < length old → i < length new
    → v ≡ combined (get_or aggs i Sum) (get_or old i (pos 0)) (get_or new i (pos 0))
    → take (i + 1) (set old i v) ++ row_combined (drop (i + 1) aggs) (drop (i + 1) (set old i v)) (drop (i + 1) new) ≡ take i old ++ row_combined (drop i aggs) (drop i old) (drop i new)
combined-next aggs old new i v a b c is =
    let first : take (i + 1) (set old i v) ≡ take i old ++ v ∷ [] = rw add-one (take-set old i v b) in
    let rest : drop (i + 1) (set old i v) ≡ drop (i + 1) old = rw add-one (drop-set old i v) in
    rw (first, rest, row_combined-next aggs old new i a b c, append_assoc, is) refl

pub fits-next : (aggs : List Agg) (old new : List ℤ) (i : ℕ) (v : ℤ) → i < length aggs → i < length old → i < length new
    → AllCombine (drop i aggs) (drop i old) (drop i new) → AllCombine (drop (i + 1) aggs) (drop (i + 1) (set old i v)) (drop (i + 1) new)
fits-next aggs old new i v a b c all =
    let rest : drop (i + 1) (set old i v) ≡ drop (i + 1) old = rw add-one (drop-set old i v) in
    rw rest (AllCombine-next aggs old new i a b c all).1

pub length-set : (old : List ℤ) (i : ℕ) (v : ℤ) → length (set old i v) ≡ length old
length-set [] i v = refl
length-set (o ∷ old) zero v = refl
length-set (o ∷ old) (suc i) v = ap suc (length-set old i v)

-- one column before those that combine
pub AllCombine-back : (aggs : List Agg) (old new : List ℤ) (i : ℕ) → i < length aggs → i < length old → i < length new
    → Combines (get_or aggs i Sum) (get_or old i (pos 0)) (get_or new i (pos 0)) → AllCombine (drop (i + 1) aggs) (drop (i + 1) old) (drop (i + 1) new) → AllCombine (drop i aggs) (drop i old) (drop i new)
AllCombine-back aggs old new i a b c one all =
    let rest = subst (λ n. AllCombine (drop n aggs) (drop n old) (drop n new)) (add-one i) all in
    rw (drop-cons aggs i Sum, drop-cons old i (pos 0), drop-cons new i (pos 0)) (one, rest)

pub AllCombine-none : (aggs : List Agg) (old new : List ℤ) (i : ℕ) → length aggs ≤ i → AllCombine (drop i aggs) (drop i old) (drop i new)
AllCombine-none aggs old new i le = subst (λ gs. AllCombine gs (drop i old) (drop i new)) (sym (drop_all i aggs le)) tt
