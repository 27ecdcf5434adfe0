-- Names held, and names left out.
use Rattle.std.proofs.Common.{◌&&◌, ◌≡◌, ◌==◌, ℕ, eqb, true, false, cond, not, ◌||◌, ◌<◌, List, [], ◌∷◌, ◌++◌, refl, sym, ap, ◌∙◌, subst, ◌⊎◌, Option, Some, None, true≢false, eq-eqb, ne_eqb, ltb, ltb-true}
use mathlib.Core.Logic.{dite}
use native.Mathlib.Decide.{ℕ_discrete}
use Rattle.std.specs.List.{list_all}
use Rattle.std.proofs.lemmas.Bool.{and_parts, not-true, or_cases, or_parts, or_right, false_from_ne_true}
use Rattle.std.proofs.lemmas.List.Folds.{list_any-append}
use Rattle.mesa_turn.specs.History.{name_of, has, has_at, AreApart, Within, without, once}
use Rattle.mesa_turn.specs.Rule.{all_names}

pub has_append : (xs ys : List ℕ) (n : ℕ) → has (xs ++ ys) n ≡ (has xs n || has ys n)
has_append xs ys n = list_any-append (λ m. m == n) xs ys

pub has_first : (xs ys : List ℕ) → Within xs (xs ++ ys)
has_first xs ys n h = has_append xs ys n ∙ ap (λ b. b || has ys n) h

pub has_second : (xs ys : List ℕ) → Within ys (xs ++ ys)
has_second xs ys n h = has_append xs ys n ∙ or_right (has xs n) (has ys n) h

pub has_either : (xs ys : List ℕ) (n : ℕ) → has (xs ++ ys) n ≡ true → (has xs n ≡ true) ⊎ (has ys n ≡ true)
has_either xs ys n h = or_cases (has xs n) (has ys n) (sym (has_append xs ys n) ∙ h)

pub has_one : (n k : ℕ) → has (n ∷ []) k ≡ true → n ≡ k
has_one n k h = dite (ℕ_discrete n k) (λ e. e) (λ ne. absurd (true≢false (sym h ∙ ap (λ b. b || false) (ne_eqb n k ne))))

pub has_itself : (n : ℕ) → has (n ∷ []) n ≡ true
has_itself n = ap (λ b. b || false) (eq-eqb n n refl)

pub has_without_self : (n : ℕ) (names : List ℕ) → has (without n names) n ≡ false
has_without_self n [] = refl
has_without_self n (m ∷ ms) = dite (ℕ_discrete m n)
    (λ e. ap (λ b. has (cond (not b) (m ∷ without n ms) (without n ms)) n) (eq-eqb m n e) ∙ has_without_self n ms)
    (λ ne. ap (λ b. has (cond (not b) (m ∷ without n ms) (without n ms)) n) (ne_eqb m n ne) ∙ (ap (λ b. b || has (without n ms) n) (ne_eqb m n ne) ∙ has_without_self n ms))

pub has_without : (n : ℕ) (names : List ℕ) (k : ℕ) → (k ≡ n → ⊥) → has (without n names) k ≡ has names k
has_without n [] k ne = refl
has_without n (m ∷ ms) k ne = dite (ℕ_discrete m n)
    (λ e. ap (λ b. has (cond (not b) (m ∷ without n ms) (without n ms)) k) (eq-eqb m n e) ∙ (has_without n ms k ne ∙ ap (λ b. b || has ms k) (sym (ne_eqb m k (λ h. ne (sym h ∙ e))))))
    (λ other. ap (λ b. has (cond (not b) (m ∷ without n ms) (without n ms)) k) (ne_eqb m n other) ∙ ap (λ b. eqb m k || b) (has_without n ms k ne))

pub without_within : (n : ℕ) (names : List ℕ) → Within (without n names) names
without_within n names k h = dite (ℕ_discrete k n)
    (λ e. absurd (true≢false (sym h ∙ (ap (has (without n names)) e ∙ has_without_self n names))))
    (λ ne. sym (has_without n names k ne) ∙ h)

-- where another name is left, there is one
pub left_named : (name other : ℕ) (names : List ℕ) → has names other ≡ true → (other ≡ name → ⊥) → without name names ≡ [] → ⊥
left_named name other names h ne e = true≢false (sym (has_without name names other ne ∙ h) ∙ ap (λ ns. has ns other) e)

pub some_name : (names : List ℕ) → (names ≡ [] → ⊥) → (n : ℕ) × (has names n ≡ true)
some_name [] ne = absurd (ne refl)
some_name (n ∷ ns) ne = (n, ap (λ b. b || has ns n) (eq-eqb n n refl))

pub no_names : (names : List ℕ) → ((n : ℕ) → has names n ≡ true → ⊥) → names ≡ []
no_names [] h = refl
no_names (n ∷ ns) h = absurd (h n (ap (λ b. b || has ns n) (eq-eqb n n refl)))

pub apart_back : (xs ys : List ℕ) → AreApart xs ys → AreApart ys xs
apart_back xs ys apart n h = false_from_ne_true (has xs n) (λ is. true≢false (sym h ∙ apart n is))

below_all : (names : List ℕ) (n b : ℕ) → list_all (λ m. ltb m b) names ≡ true → has names n ≡ true → n < b
below_all [] n b all h = absurd (true≢false (sym h))
below_all (m ∷ ms) n b all h = let parts = and_parts (ltb m b) (list_all (λ k. ltb k b) ms) all in dite (ℕ_discrete m n)
    (λ e. subst (λ k. k < b) e (ltb-true m b parts.0))
    (λ ne. below_all ms n b parts.1 (ap (λ c. c || has ms n) (sym (ne_eqb m n ne)) ∙ h))

pub below_eight : (n : ℕ) → has all_names n ≡ true → n < 8
below_eight n h = below_all all_names n 8 refl h

-- the name of an entry
pub no_name : (e : Option ℕ) → has_at [] e ≡ false
no_name None = refl
no_name (Some x) = refl

pub has_at_append : (xs ys : List ℕ) (e : Option ℕ) → has_at (xs ++ ys) e ≡ (has_at xs e || has_at ys e)
has_at_append xs ys None = refl
has_at_append xs ys (Some x) = has_append xs ys (name_of x)

pub has_at_within : (xs ys : List ℕ) → Within xs ys → (e : Option ℕ) → has_at xs e ≡ true → has_at ys e ≡ true
has_at_within xs ys within None h = h
has_at_within xs ys within (Some x) h = within (name_of x) h

pub has_at_apart : (xs ys : List ℕ) → AreApart xs ys → (e : Option ℕ) → has_at xs e ≡ true → has_at ys e ≡ true → ⊥
has_at_apart xs ys apart None h k = true≢false (sym h)
has_at_apart xs ys apart (Some x) h k = true≢false (sym k ∙ apart (name_of x) h)

pub has_at_without : (name : ℕ) (names : List ℕ) (e : Option ℕ) → has_at (name ∷ []) e ≡ false → has_at names e ≡ has_at (without name names) e
has_at_without name names None h = refl
has_at_without name names (Some x) h = sym (has_without name names (name_of x) (λ q. true≢false (sym (ap (λ b. b || false) (eq-eqb name (name_of x) (sym q))) ∙ h)))

-- an entry with this name has one of the names that are held
pub has_at_one : (name : ℕ) (names : List ℕ) → has names name ≡ true → (e : Option ℕ) → has_at (name ∷ []) e ≡ true → has_at names e ≡ true
has_at_one name names named None h = h
has_at_one name names named (Some x) h = ap (has names) (sym (has_one name (name_of x) h)) ∙ named

pub named_at : (names : List ℕ) (e : Option ℕ) → (e ≡ None → ⊥) → ((x : ℕ) → e ≡ Some x → has names (name_of x) ≡ true) → has_at names e ≡ true
named_at names None there h = absurd (there refl)
named_at names (Some x) there h = h x refl

-- no name stands twice
pub once_without : (n : ℕ) (xs : List ℕ) → once xs ≡ true → once (without n xs) ≡ true
once_without n [] h = refl
once_without n (x ∷ xs) h = let t = and_parts (not (has xs x)) (once xs) h in dite (ℕ_discrete x n)
    (λ e. ap (λ b. once (cond (not b) (x ∷ without n xs) (without n xs))) (eq-eqb x n e) ∙ once_without n xs t.1)
    (λ ne. ap (λ b. once (cond (not b) (x ∷ without n xs) (without n xs))) (ne_eqb x n ne) ∙ ((λ i. not (has_without n xs x ne i) && once (without n xs)) ∙ ((λ i. t.0 i && once (without n xs)) ∙ once_without n xs t.1)))

pub once_append : (xs ys : List ℕ) → once xs ≡ true → once ys ≡ true → AreApart xs ys → once (xs ++ ys) ≡ true
once_append [] ys h k apart = k
once_append (x ∷ xs) ys h k apart = let t = and_parts (not (has xs x)) (once xs) h in let mine : has (x ∷ xs) x ≡ true = ap (λ b. b || has xs x) (eq-eqb x x refl) in
    let out : has (xs ++ ys) x ≡ false = has_append xs ys x ∙ (λ i. not-true (has xs x) t.0 i || apart x mine i) in
    (λ i. not (out i) && once (xs ++ ys)) ∙ once_append xs ys t.1 k (λ n q. apart n (or_right (eqb x n) (has xs n) q))

pub once_apart : (xs ys : List ℕ) → once (xs ++ ys) ≡ true → AreApart xs ys
once_apart [] ys h n q = absurd (true≢false (sym q))
once_apart (x ∷ xs) ys h n q = let t = and_parts (not (has (xs ++ ys) x)) (once (xs ++ ys)) h in dite (ℕ_discrete x n)
    (λ e. subst (λ k. has ys k ≡ false) e (or_parts (has xs x) (has ys x) (sym (has_append xs ys x) ∙ not-true (has (xs ++ ys) x) t.0)).1)
    (λ ne. once_apart xs ys t.1 n (ap (λ b. b || has xs n) (sym (ne_eqb x n ne)) ∙ q))
