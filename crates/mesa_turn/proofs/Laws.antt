-- What turns, joins and the end of a lock do to the entries of names.
use Rattle.std.proofs.Common.{◌≡◌, ℕ, suc, ◌+◌, ◌<◌, true, false, cond, List, [], ◌∷◌, ◌++◌, length, length-append, append-nil, refl, sym, ap, ◌∙◌, ◌⊎◌, ⊎_elim, inl, inr, arith, lt_of_not-le}
use Rattle.std.specs.List.{slice_get}
use mathlib.Core.List.{IsPrefix}
use mathlib.Core.Logic.{dite}
use native.Mathlib.Decide.{dec_le}
use Rattle.std.proofs.lemmas.Bool.{false_from_ne_true, cases_Bool}
use Rattle.std.proofs.lemmas.Option.{slice_get_past}
use Rattle.mesa_turn.specs.History.{name_of, has, has_at, AreApart, Within, entries_of}
use Rattle.mesa_turn.specs.Passes.{Known, Finds, IsExact, Joins}
use Rattle.mesa_turn.proofs.Lists.{prefix_get, named_below}
use Rattle.mesa_turn.proofs.Names.{has_append, has_either, has_first, has_second, has_at_within, has_at_apart, apart_back}

entries_none : (names list : List ℕ) → ((k : ℕ) → has_at names (slice_get list k) ≡ false) → entries_of names list ≡ []
entries_none names [] h = refl
entries_none names (x ∷ list) h = ap (λ b. cond b (x ∷ entries_of names list) (entries_of names list)) (h 0) ∙ entries_none names list (λ k. h (suc k))

-- where the rest of a list has no entry of the names, its beginning has all of them
entries_begin : (names list rest : List ℕ) → ((k : ℕ) → has_at names (slice_get (list ++ rest) k) ≡ has_at names (slice_get list k)) → entries_of names (list ++ rest) ≡ entries_of names list
entries_begin names [] rest h = entries_none names rest h
entries_begin names (x ∷ list) rest h = ap (λ l. cond (has names (name_of x)) (x ∷ l) l) (entries_begin names list rest (λ k. h (suc k)))

entries_same : (names list whole : List ℕ) → IsPrefix list whole → ((k : ℕ) → has_at names (slice_get whole k) ≡ has_at names (slice_get list k)) → entries_of names whole ≡ entries_of names list
entries_same names list whole begins same = ap (entries_of names) (sym begins.1) ∙ entries_begin names list begins.0 (λ k. ap (λ l. has_at names (slice_get l k)) begins.1 ∙ same k)

pub entries_append : (names xs ys : List ℕ) → entries_of names (xs ++ ys) ≡ entries_of names xs ++ entries_of names ys
entries_append names [] ys = refl
entries_append names (x ∷ xs) ys = elim (has names (name_of x)) as (λ b. cond b (x ∷ entries_of names (xs ++ ys)) (entries_of names (xs ++ ys)) ≡ cond b (x ∷ entries_of names xs) (entries_of names xs) ++ entries_of names ys)
    [ true ↦ ap (λ l. x ∷ l) (entries_append names xs ys) | false ↦ entries_append names xs ys ]

-- an entry of some of the names that are held stands where one of all those stands
same_within : (names others list whole : List ℕ) → Within names others → IsPrefix list whole → ((k : ℕ) → has_at others (slice_get whole k) ≡ true → k < length list) → (k : ℕ) → has_at names (slice_get whole k) ≡ has_at names (slice_get list k)
same_within names others list whole within begins below k = dite (dec_le (length list) k)
    (λ past. false_from_ne_true (has_at names (slice_get whole k)) (λ h. let lt = below k (has_at_within names others within (slice_get whole k) h) in omega arith) ∙ ap (has_at names) (sym (slice_get_past list k past)))
    (λ lt. ap (has_at names) (sym (prefix_get list whole k begins (lt_of_not-le lt))))

pub entries_found : (p : Known) (ticket : ℕ) (list names : List ℕ) → Finds p ticket list → IsExact p → Within names p.names → entries_of names list ≡ entries_of names p.seen
entries_found p ticket list names finds exact within = entries_same names p.seen list finds.seen (same_within names p.names p.seen list within finds.seen (λ k h. finds.own_seen k (finds.own k ∙ h)))

pub entries_more : (p : Known) (ticket entry : ℕ) (list names : List ℕ) → Finds p ticket list → IsExact p → Within names p.names → has names (name_of entry) ≡ true → entries_of names (list ++ entry ∷ []) ≡ entries_of names p.seen ++ entry ∷ []
entries_more p ticket entry list names finds exact within named = entries_append names list (entry ∷ []) ∙ (λ i. entries_found p ticket list names finds exact within i ++ cond (named i) (entry ∷ []) [])

-- an entry with a name of the first pass in the joined list is one of its own
kept_of_one : (a b p : Known) (names : List ℕ) → IsExact a → IsExact b → IsExact p → AreApart a.names b.names → Within a.names p.names → ((k : ℕ) → has p.own k ≡ true → (has a.own k ≡ true) ⊎ (has b.own k ≡ true)) → IsPrefix a.seen p.seen → IsPrefix b.seen p.seen → Within names a.names
    → entries_of names p.seen ≡ entries_of names a.seen
kept_of_one a b p names ea eb ep apart inside own pa pb within = entries_same names a.seen p.seen pa (same_within names a.names a.seen p.seen within pa (λ k h. ⊎_elim
    (λ (mine : has a.own k ≡ true). named_below a.names a.seen k (sym (ea k) ∙ mine))
    (λ (other : has b.own k ≡ true). let named : has_at b.names (slice_get b.seen k) ≡ true = sym (eb k) ∙ other in
    absurd (has_at_apart a.names b.names apart (slice_get p.seen k) h (ap (has_at b.names) (sym (prefix_get b.seen p.seen k pb (named_below b.names b.seen k named))) ∙ named)))
    (own k (ep k ∙ has_at_within a.names p.names inside (slice_get p.seen k) h))))

own_of : (a b p : Known) → Joins a b p → (k : ℕ) → has p.own k ≡ true → (has a.own k ≡ true) ⊎ (has b.own k ≡ true)
own_of a b p joins k h = has_either a.own b.own k (ap (λ (z : Known). has z.own k) (sym joins.is) ∙ h)

swap_either : {A B : Type 0} → A ⊎ B → B ⊎ A
swap_either h = ⊎_elim (λ a. inr a) (λ b. inl b) h

pub entries_kept_first : (a b p : Known) (names : List ℕ) → Joins a b p → Within names a.names → entries_of names p.seen ≡ entries_of names a.seen
entries_kept_first a b p names j within = kept_of_one a b p names j.first_exact j.second_exact j.exact j.apart (λ n h. ap (λ (z : Known). has z.names n) j.is ∙ has_first a.names b.names n h) (own_of a b p j) j.first_seen j.second_seen within

pub entries_kept_second : (a b p : Known) (names : List ℕ) → Joins a b p → Within names b.names → entries_of names p.seen ≡ entries_of names b.seen
entries_kept_second a b p names j within = kept_of_one b a p names j.second_exact j.first_exact j.exact (apart_back a.names b.names j.apart) (λ n h. ap (λ (z : Known). has z.names n) j.is ∙ has_second a.names b.names n h) (λ k h. swap_either (own_of a b p j k h)) j.second_seen j.first_seen within

-- a list each of whose entries has one of the names is all entries of theirs
entries_whole : (names list : List ℕ) → ((k : ℕ) → k < length list → has_at names (slice_get list k) ≡ true) → entries_of names list ≡ list
entries_whole names [] h = refl
entries_whole names (x ∷ list) h = ap (λ b. cond b (x ∷ entries_of names list) (entries_of names list)) (h 0 (omega arith)) ∙ ap (λ l. x ∷ l) (entries_whole names list (λ k lt. h (suc k) (omega arith)))

pub entries_all : (p : Known) → IsExact p → ((k : ℕ) → k < length p.seen → has p.own k ≡ true) → entries_of p.names p.seen ≡ p.seen
entries_all p exact own = entries_whole p.names p.seen (λ k lt. sym (exact k) ∙ own k lt)

pub entries_apart : (names others list : List ℕ) → AreApart names others → length (entries_of (names ++ others) list) ≡ length (entries_of names list) + length (entries_of others list)
entries_apart names others [] apart = refl
entries_apart names others (x ∷ list) apart =
    let more = entries_apart names others list apart in
    let both = has_append names others (name_of x) in
    ⊎_elim
    (λ (h : has names (name_of x) ≡ true). rw (both, h, apart (name_of x) h) (omega arith))
    (λ (h : has names (name_of x) ≡ false). ⊎_elim
    (λ (k : has others (name_of x) ≡ true). rw (both, h, k) (omega arith))
    (λ (k : has others (name_of x) ≡ false). rw (both, h, k) more)
    (cases_Bool (has others (name_of x))))
    (cases_Bool (has names (name_of x)))

-- ---- entries of other names

longer_none : (xs ys : List ℕ) → xs ++ ys ≡ xs → ys ≡ []
longer_none xs [] same = refl
longer_none xs (y ∷ ys) same = let both = length-append xs (y ∷ ys) in let one : length (xs ++ y ∷ ys) ≡ length xs = ap (λ l. length l) same in absurd (omega arith)

-- behind a beginning that has all entries of the names there is none
pub none_behind : (names xs rest whole : List ℕ) → xs ++ rest ≡ whole → entries_of names whole ≡ entries_of names xs → entries_of names rest ≡ []
none_behind names xs rest whole is same = longer_none (entries_of names xs) (entries_of names rest) (sym (entries_append names xs rest) ∙ ap (entries_of names) is ∙ same)

pub others_found : (p : Known) (ticket : ℕ) (list rest names : List ℕ) → Finds p ticket list → IsExact p → Within names p.names → p.seen ++ rest ≡ list → entries_of names rest ≡ []
others_found p ticket list rest names finds exact within is = none_behind names p.seen rest list is (entries_found p ticket list names finds exact within)

pub others_first : (a b p : Known) (rest names : List ℕ) → Joins a b p → Within names a.names → a.seen ++ rest ≡ p.seen → entries_of names rest ≡ []
others_first a b p rest names joins within is = none_behind names a.seen rest p.seen is (entries_kept_first a b p names joins within)

pub others_second : (a b p : Known) (rest names : List ℕ) → Joins a b p → Within names b.names → b.seen ++ rest ≡ p.seen → entries_of names rest ≡ []
others_second a b p rest names joins within is = none_behind names b.seen rest p.seen is (entries_kept_second a b p names joins within)

pub others_more : (p : Known) (ticket entry : ℕ) (list names : List ℕ) → Finds p ticket list → IsExact p → Within names p.names → has names (name_of entry) ≡ false → entries_of names (list ++ entry ∷ []) ≡ entries_of names p.seen
others_more p ticket entry list names finds exact within other =
    entries_append names list (entry ∷ []) ∙ (λ i. entries_found p ticket list names finds exact within i ++ cond (other i) (entry ∷ []) []) ∙ append-nil (entries_of names p.seen)
