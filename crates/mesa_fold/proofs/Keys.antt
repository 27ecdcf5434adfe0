-- Keys in order, each once: lists of keys with the same members have the same keys.
use Rattle.std.proofs.Common.{◌≡◌, ℕ, List, [], ◌∷◌, ◌++◌, refl, sym, ◌∙◌, ap, subst}
use Rattle.std.specs.Prelude.{Bool, true, false, ◌||◌, cond, T, map, Option, Some, None, is_some}
use Rattle.std.specs.List.{list_any}
use Rattle.std.specs.declared.cmp.Ordering.TheVariants.{Less, Equal, Greater}
use Rattle.std.specs.Ordering.{eq_by_cmp}
use Rattle.std.specs.Cmp.Lexicographic.{nat_list_cmp_total}
use Rattle.std.specs.FinMap.{slice_cmp-IsAntisymmetric, nat_cmp-IsAntisymmetric}
use Rattle.std.specs.FinMap.Entries.{by_order, put, find, is_sorted, is_some-find, find-put, is_sorted-put, same_entries}
use Rattle.std.proofs.lemmas.List.Folds.{list_any-append}
use Rattle.mesa_columns.specs.mesa_key.Order.{byte_cmp}
use Rattle.mesa_fold.specs.Folded.{with_key}

abbrev pub Keys : Type 0
Keys = List (List ℕ)

-- the keys of a list, as `keys_of` takes them from rows
abbrev pub keys_in : Keys → Keys
keys_in [] = []
keys_in (k ∷ ks) = with_key k (keys_in ks)

abbrev pub has : List ℕ → Keys → Bool
has q ks = list_any (eq_by_cmp byte_cmp q) ks

abbrev pub pairs : Keys → List (List ℕ × Unit {0})
pairs ks = map (λ k. (k, tt)) ks

abbrev pub is_rising : Keys → Bool
is_rising ks = is_sorted byte_cmp (pairs ks)

firsts : (ks : Keys) → map (λ e. e.0) (pairs ks) ≡ ks
firsts [] = refl
firsts (k ∷ ks) = ap (λ xs. k ∷ xs) (firsts ks)

pub pairs-with_key : (k : List ℕ) (ks : Keys) → pairs (with_key k ks) ≡ put byte_cmp k tt (pairs ks)
pairs-with_key k [] = refl
pairs-with_key k (x ∷ xs) = elim (byte_cmp k x) as (λ o. pairs (by_order o (k ∷ x ∷ xs) (x ∷ xs) (x ∷ with_key k xs)) ≡ by_order o ((k, tt) ∷ pairs (x ∷ xs)) ((x, tt) ∷ pairs xs) ((x, tt) ∷ put byte_cmp k tt (pairs xs))) [
  | Less ↦ refl
  | Equal ↦ refl
  | Greater ↦ ap (λ es. (x, tt) ∷ es) (pairs-with_key k xs)
]

pub has-pairs : (q : List ℕ) (ks : Keys) → is_some (find byte_cmp q (pairs ks)) ≡ has q ks
has-pairs q ks = is_some-find byte_cmp q (pairs ks) ∙ ap (list_any (eq_by_cmp byte_cmp q)) (firsts ks)

some_or : (b : Bool) (o : Option (Unit {0})) → is_some (cond b (Some tt) o) ≡ (b || is_some o)
some_or true o = refl
some_or false o = refl

pub has-with_key : (q k : List ℕ) (ks : Keys) → has q (with_key k ks) ≡ (eq_by_cmp byte_cmp q k || has q ks)
has-with_key q k ks =
    sym (has-pairs q (with_key k ks))
    ∙ ap (λ es. is_some (find byte_cmp q es)) (pairs-with_key k ks)
    ∙ ap is_some (find-put byte_cmp nat_list_cmp_total q k tt (pairs ks))
    ∙ some_or _ _
    ∙ ap (λ b. eq_by_cmp byte_cmp q k || b) (has-pairs q ks)

pub has-keys_in : (q : List ℕ) (ks : Keys) → has q (keys_in ks) ≡ has q ks
has-keys_in q [] = refl
has-keys_in q (k ∷ ks) = has-with_key q k (keys_in ks) ∙ ap (λ b. eq_by_cmp byte_cmp q k || b) (has-keys_in q ks)

pub rising-keys_in : (ks : Keys) → T (is_rising (keys_in ks))
rising-keys_in [] = tt
rising-keys_in (k ∷ ks) = subst (λ es. T (is_sorted byte_cmp es)) (sym (pairs-with_key k (keys_in ks))) (is_sorted-put byte_cmp nat_list_cmp_total k tt (pairs (keys_in ks)) (rising-keys_in ks))

same_units : (a b : Option (Unit {0})) → is_some a ≡ is_some b → a ≡ b
same_units None None e = refl
same_units None (Some u) e = absurd (subst T (sym e) tt)
same_units (Some u) None e = absurd (subst T e tt)
same_units (Some u) (Some v) e = refl

-- rising lists with the same members are equal
pub same_rising : (xs ys : Keys) → T (is_rising xs) → T (is_rising ys) → ((q : List ℕ) → has q xs ≡ has q ys) → xs ≡ ys
same_rising xs ys p q is =
    sym (firsts xs)
    ∙ ap (map (λ e. e.0)) (same_entries byte_cmp nat_list_cmp_total (slice_cmp-IsAntisymmetric nat_cmp-IsAntisymmetric) (pairs xs) (pairs ys) p q (λ k. same_units _ _ (has-pairs k xs ∙ is k ∙ sym (has-pairs k ys))))
    ∙ firsts ys

-- and so lists with the same members have the same keys
pub keys_in-same : (xs ys : Keys) → ((q : List ℕ) → has q xs ≡ has q ys) → keys_in xs ≡ keys_in ys
keys_in-same xs ys is = same_rising (keys_in xs) (keys_in ys) (rising-keys_in xs) (rising-keys_in ys) (λ q. has-keys_in q xs ∙ is q ∙ sym (has-keys_in q ys))

pub keys_in-again : (xs ys : Keys) → keys_in (keys_in xs ++ ys) ≡ keys_in (xs ++ ys)
keys_in-again xs ys = keys_in-same (keys_in xs ++ ys) (xs ++ ys) (λ q.
    list_any-append (eq_by_cmp byte_cmp q) (keys_in xs) ys
    ∙ ap (λ b. b || has q ys) (has-keys_in q xs)
    ∙ sym (list_any-append (eq_by_cmp byte_cmp q) xs ys))
