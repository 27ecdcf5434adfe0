-- The walk over short keys loses no key.
use Rattle.std.proofs.Common.{◌≡◌, ℕ, zero, suc, ◌+◌, ◌-◌, List, [], ◌∷◌, ◌++◌, length, take, Bool, true, false, cond, refl, sym, ◌∙◌, ap, subst, arith, append_assoc, add-zero, zero-add, Some, inl, inr, min, replicate}
use Rattle.std.specs.Prelude.{◌==◌, ◌||◌, ◌&&◌, not, slice_get}
use Rattle.std.specs.Ordering.{is_eq, is_ge, is_le, ordering_then}
use Rattle.std.specs.declared.cmp.Ordering.{Ordering}
use Rattle.std.specs.declared.cmp.Ordering.TheVariants.{Less, Equal, Greater}
use Rattle.std.specs.Bool.{OnFalse}
use Rattle.std.proofs.lemmas.Bool.{and_from, and_parts, cases_lt, eqb-true}
use Rattle.std.proofs.lemmas.List.{take_all}
use Rattle.mesa_fold.specs.mesa_key.declared.KeyType.{KeyType}
use Rattle.mesa_fold.specs.mesa_key.declared.KeyValue.{KeyValue}
use Rattle.mesa_fold.specs.mesa_key.Order.{byte_cmp, short_key, value_cmp}
use Rattle.mesa_fold.specs.mesa_key.Spelling.{AreBytes, IsKey, column_length, key_spelling, value_spelling}
use Rattle.mesa_filter.specs.declared.terms.Term.{Term}
use Rattle.mesa_filter.specs.Filter.{KeyFilter, meets, meets_term, value_meets}
use Rattle.mesa_filter.specs.Walk.{behind_first, column_meets, column_reaches, first_value, is_whole, may_meet_from}
use Rattle.mesa_filter.specs.Pruning.{NoneMeets}
use Rattle.mesa_fold.proofs.mesa_key.Keys.{bytes-drop}
use Rattle.mesa_filter.proofs.ShortColumns.{decides}
use Rattle.mesa_filter.proofs.ValueOrder.{between_equal, column_reached, level, tied}

-- what the first of two orders decides
first_le : (a b : Ordering) → is_le (ordering_then a b) ≡ true → is_le a ≡ true
first_le Less b e = refl
first_le Equal b e = refl
first_le Greater b e = cc

first_ge : (a b : Ordering) → is_ge (ordering_then a b) ≡ true → is_ge a ≡ true
first_ge Less b e = cc
first_ge Equal b e = refl
first_ge Greater b e = refl

-- a value that equals the least equals the greatest that equals it
level_above : (least greatest x : KeyValue) → is_eq (value_cmp least greatest) ≡ true → value_cmp least x ≡ Equal → value_cmp greatest x ≡ Equal
level_above least greatest x e s = let same : least ≡ greatest = tied least greatest (level (value_cmp least greatest) e) in ap (λ y. value_cmp y x) (sym same) ∙ s

next_column : (place i : ℕ) → (place + 1) + i ≡ place + suc i
next_column place i = omega arith

-- each value meets the terms of its column
abbrev pub AllMeet : ℕ → List KeyValue → List Term → Type 0
AllMeet place key terms = (i : ℕ) (x : KeyValue) → slice_get key i ≡ Some x → column_meets (place + i) x terms ≡ true

-- A key's short key from a column on lies between two others': the walk from there says yes.
pub walked : (kinds : List KeyType) (key : List KeyValue) (place n : ℕ) (terms : List Term) (low high pad : List ℕ) → IsKey kinds key → AreBytes low → AreBytes high → length low ≡ n → length high ≡ n
    → is_le (byte_cmp low (take n (key_spelling key ++ pad))) ≡ true → is_ge (byte_cmp high (take n (key_spelling key ++ pad))) ≡ true → AllMeet place key terms → may_meet_from kinds place terms low high ≡ true
walked [] key place n terms low high pad k b c l h p q m = refl
walked (kind ∷ kinds) [] place n terms low high pad k b c l h p q m = absurd k
walked (kind ∷ kinds) (x ∷ key) place n terms low high pad k b c l h p q m =
    let more : List ℕ = key_spelling key ++ pad in
    let joined : key_spelling (x ∷ key) ++ pad ≡ value_spelling x ++ more = append_assoc (value_spelling x) (key_spelling key) pad in
    let least : KeyValue = first_value kind low in
    let greatest : KeyValue = first_value kind high in
    let decided = λ (t : Bool) (s : Bool). cond (not (t && s)) true (cond (is_eq (value_cmp least greatest)) (column_meets place least terms && may_meet_from kinds (place + 1) terms (behind_first kind low) (behind_first kind high)) (column_reaches place least greatest terms)) in
    elim (is_whole kind low) as (λ t. is_whole kind low ≡ t → decided t (is_whole kind high) ≡ true) [
      | false ↦ λ _. refl
      | true ↦ λ w. elim (is_whole kind high) as (λ s. is_whole kind high ≡ s → decided true s ≡ true) [
        | false ↦ λ _. refl
        | true ↦ λ v.
            let lower = decides kind low more x n k.0 b l w in
            let upper = decides kind high more x n k.0 c h v in
            let below : is_le (ordering_then (value_cmp least x) lower.behind) ≡ true = ap is_le (sym lower.order) ∙ ap (λ xs. is_le (byte_cmp low (take n xs))) (sym joined) ∙ p in
            let above : is_ge (ordering_then (value_cmp greatest x) upper.behind) ≡ true = ap is_ge (sym upper.order) ∙ ap (λ xs. is_ge (byte_cmp high (take n xs))) (sym joined) ∙ q in
            let le = first_le (value_cmp least x) lower.behind below in
            let ge = first_ge (value_cmp greatest x) upper.behind above in
            let here : column_meets place x terms ≡ true = ap (λ i. column_meets i x terms) (sym (add-zero place)) ∙ m 0 x refl in
            elim (is_eq (value_cmp least greatest)) as (λ t. is_eq (value_cmp least greatest) ≡ t → cond t (column_meets place least terms && may_meet_from kinds (place + 1) terms (behind_first kind low) (behind_first kind high)) (column_reaches place least greatest terms) ≡ true) [
              | false ↦ λ _. column_reached place least greatest x terms le ge here
              | true ↦ λ e.
                  let same : value_cmp least x ≡ Equal = between_equal least x greatest e le ge in
                  let other : value_cmp greatest x ≡ Equal = level_above least greatest x e same in
                  let low_tail = lower.tail same in
                  let high_tail = upper.tail other in
                  and_from (column_meets place least terms) (may_meet_from kinds (place + 1) terms (behind_first kind low) (behind_first kind high))
                  (ap (λ y. column_meets place y terms) (tied least x same) ∙ here)
                  (walked kinds key (place + 1) (n - length (value_spelling x)) terms (behind_first kind low) (behind_first kind high) pad k.1 (bytes-drop (column_length kind low) low b) (bytes-drop (column_length kind high) high c) low_tail.1 high_tail.1
                  (ap is_le (sym low_tail.0) ∙ ap (λ o. is_le (ordering_then o lower.behind)) (sym same) ∙ below)
                  (ap is_ge (sym high_tail.0) ∙ ap (λ o. is_ge (ordering_then o upper.behind)) (sym other) ∙ above)
                  (λ i y f. ap (λ j. column_meets j y terms) (next_column place i) ∙ m (suc i) y f))
            ] refl
      ] refl
    ] refl

-- a key that meets the terms meets those of each column
in_column : (key : List KeyValue) (place : ℕ) (x : KeyValue) (terms : List Term) → slice_get key place ≡ Some x → meets key terms ≡ true → column_meets place x terms ≡ true
in_column key place x [] s m = refl
in_column key place x (term ∷ terms) s m =
    let parts = and_parts (meets_term key term) (meets key terms) m in
    and_from (not (term.column == place) || value_meets (Some x) term) (column_meets place x terms)
    (elim (term.column == place) as (λ t. (term.column == place) ≡ t → (not t || value_meets (Some x) term) ≡ true) [
      | false ↦ λ _. refl
      | true ↦ λ e. ap (λ o. value_meets o term) (sym (ap (slice_get key) (eqb-true term.column place e) ∙ s)) ∙ parts.0
    ] refl)
    (in_column key place x terms s parts.1)

front_value : (n i : ℕ) (key : List KeyValue) (x : KeyValue) → slice_get (take n key) i ≡ Some x → slice_get key i ≡ Some x
front_value zero i [] x e = cc
front_value zero i (y ∷ key) x e = cc
front_value (suc n) i [] x e = cc
front_value (suc n) zero (y ∷ key) x e = e
front_value (suc n) (suc i) (y ∷ key) x e = front_value n i key x e

front_key : (n : ℕ) (kinds : List KeyType) (key : List KeyValue) → IsKey kinds key → IsKey (take n kinds) (take n key)
front_key zero [] [] k = tt
front_key zero [] (x ∷ key) k = absurd k
front_key zero (kind ∷ kinds) [] k = absurd k
front_key zero (kind ∷ kinds) (x ∷ key) k = tt
front_key (suc n) [] [] k = tt
front_key (suc n) [] (x ∷ key) k = absurd k
front_key (suc n) (kind ∷ kinds) [] k = absurd k
front_key (suc n) (kind ∷ kinds) (x ∷ key) k = (k.0, front_key n kinds key k.1)

-- Where the walk says no, no key between meets the terms.
pub none_meets : (kinds : List KeyType) (columns : ℕ) (terms : List Term) (low high : List ℕ) → AreBytes low → AreBytes high → length low ≡ 16 → length high ≡ 16 → may_meet_from (take columns kinds) 0 terms low high ≡ false → NoneMeets kinds columns terms low high
none_meets kinds columns terms low high b c l h refused key k between =
    let parts = and_parts (is_le (byte_cmp low (short_key (key_spelling (take columns key))))) (is_ge (byte_cmp high (short_key (key_spelling (take columns key))))) between in
    elim (meets key terms) as (λ t. meets key terms ≡ t → t ≡ false) [
      | false ↦ λ _. refl
      | true ↦ λ m.
          let yes = walked (take columns kinds) (take columns key) 0 16 terms low high (replicate 16 0) (front_key columns kinds key k) b c l h parts.0 parts.1
          (λ i x e. ap (λ j. column_meets j x terms) (zero-add i) ∙ in_column key i x terms (front_value columns i key x e) m) in
          let never : true ≡ false = sym yes ∙ refused in cc
    ] refl

-- no more are taken than are there
taken : {X : Type 0} (n m : ℕ) (xs : List X) → m ≡ min (length xs) n → take m xs ≡ take n xs
taken n m xs e = elim (cases_lt (length xs) n) [
  | inl short ↦ let all : m ≡ length xs = omega arith in ap (λ k. take k xs) all ∙ take_all (length xs) xs (omega arith) ∙ sym (take_all n xs (omega arith))
  | inr long ↦ let same : m ≡ n = omega arith in ap (λ k. take k xs) same
]

answered : (kinds : List KeyType) (columns : ℕ) (terms : List Term) (low high : List ℕ) (r : Bool) → AreBytes low → AreBytes high → length low ≡ 16 → length high ≡ 16 → r ≡ may_meet_from (take columns kinds) 0 terms low high → OnFalse r (NoneMeets kinds columns terms low high)
answered kinds columns terms low high true b c l h e = tt
answered kinds columns terms low high false b c l h e = none_meets kinds columns terms low high b c l h (sym e)

-- The same of a filter, as code has it.
pub filter_keeps : (f : KeyFilter) (kinds ks : List KeyType) (terms ts : List Term) (columns count : ℕ) (low high : List ℕ) (r : Bool) → AreBytes low → AreBytes high → length low ≡ 16 → length high ≡ 16
    → record { kinds = kinds; terms = terms } ≡ f → ks ≡ kinds → ts ≡ terms → count ≡ min (length kinds) columns → r ≡ may_meet_from (take count ks) 0 ts low high → OnFalse r (NoneMeets f.kinds columns f.terms low high)
filter_keeps f kinds ks terms ts columns count low high r b c l h e k t n a =
    subst (λ (g : KeyFilter). OnFalse r (NoneMeets g.kinds columns g.terms low high)) e
    (answered kinds columns terms low high r b c l h
    (a ∙ ap (λ xs. may_meet_from (take count xs) 0 ts low high) k ∙ ap (λ xs. may_meet_from xs 0 ts low high) (taken columns count kinds n) ∙ ap (λ xs. may_meet_from (take columns kinds) 0 xs low high) t))
