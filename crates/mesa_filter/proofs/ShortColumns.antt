-- A column that a short key holds whole, against the column of a key that is cut at the same length.
use Rattle.std.proofs.Common.{◌≡◌, ℕ, zero, suc, ◌+◌, ◌-◌, ◌<◌, ◌≤◌, List, [], ◌∷◌, ◌++◌, length, take, drop, true, false, cond, refl, sym, ◌∙◌, ap, arith, inl, inr, append_assoc, append-nil, length-append, length-drop}
use Rattle.std.specs.Prelude.{◌==◌}
use Rattle.std.specs.Ordering.{nat_cmp, ordering_then}
use Rattle.std.specs.declared.cmp.Ordering.{Ordering}
use Rattle.std.specs.declared.cmp.Ordering.TheVariants.{Less, Equal, Greater}
use Rattle.std.specs.Cmp.{nat_cmp_is}
use Rattle.std.proofs.Math.Seq.{take-append-add}
use Rattle.std.proofs.lemmas.Bool.{cases_lt, eq-eqb, eqb-false, leb-true}
use Rattle.std.proofs.lemmas.List.{length-take-le, take-append-drop, take-append-le, take-take}
use Rattle.mesa_fold.specs.mesa_key.declared.KeyType.{KeyType}
use Rattle.mesa_fold.specs.mesa_key.declared.KeyType.TheVariants as kind
use Rattle.mesa_fold.specs.mesa_key.declared.KeyValue.{KeyValue}
use Rattle.mesa_fold.specs.mesa_key.declared.KeyValue.TheVariants as value
use Rattle.mesa_fold.specs.mesa_key.Order.{byte_cmp, value_cmp}
use Rattle.mesa_fold.specs.mesa_key.Spelling.{AreBytes, IsValue, before_zero, value_spelling}
use Rattle.mesa_fold.proofs.mesa_key.Columns.{at_zero, spells, text_zeros}
use Rattle.mesa_fold.proofs.mesa_key.Keys.{bytes-take}
use Rattle.mesa_fold.proofs.mesa_key.KeyOrder.{NoZero, byte_cmp-texts}
use Rattle.mesa_fold.proofs.mesa_key.SpellingOrder.{no_zeros, spelling_order_then}
use Rattle.mesa_filter.specs.Walk.{behind_first, first_value, is_whole}
use Rattle.mesa_filter.proofs.ValueOrder.{tied}

-- How a short key compares with a key's bytes from a column on, cut at the same length: by the column's values, and where these are equal by what follows them.
pub record Decides (type : KeyType) (short : List ℕ) (x : KeyValue) (more : List ℕ) (n : ℕ) : Type 0 where
  pub behind : Ordering
  pub order : byte_cmp short (take n (value_spelling x ++ more)) ≡ ordering_then (value_cmp (first_value type short) x) behind
  pub tail : value_cmp (first_value type short) x ≡ Equal → (behind ≡ byte_cmp (behind_first type short) (take (n - length (value_spelling x)) more)) × (length (behind_first type short) ≡ n - length (value_spelling x))

above_zero : (x : ℕ) → (x == 0) ≡ false → 0 < x
above_zero x e = let some : x ≡ 0 → ⊥ = eqb-false x 0 e in omega arith

no_zero_before : (xs : List ℕ) → NoZero (take (length (before_zero xs)) xs)
unfolding before_zero
no_zero_before [] = tt
no_zero_before (x ∷ xs) = elim (x == 0) as (λ t. (x == 0) ≡ t → NoZero (take (length (cond t [] (x ∷ before_zero xs))) (x ∷ xs))) [ true ↦ λ e. tt | false ↦ λ e. (above_zero x e, no_zero_before xs) ] refl

-- a text that ends before a longer one is cut
texts_cut : (u rest t : List ℕ) (n : ℕ) → length u < n → n ≤ length t → NoZero t → byte_cmp (u ++ 0 ∷ rest) (take n t) ≡ byte_cmp u t
texts_cut u rest t zero p q z = absurd (omega arith)
texts_cut u rest [] (suc n) p q z = absurd (omega arith)
texts_cut [] rest (y ∷ t) (suc n) p q z = ap (λ o. ordering_then o (byte_cmp rest (take n t))) (sym (nat_cmp_is 0 y Less z.0))
texts_cut (x ∷ u) rest (y ∷ t) (suc n) p q z = ap (ordering_then (nat_cmp x y)) (texts_cut u rest t n (omega arith) (omega arith) z.1)

then_equal : (o : Ordering) → ordering_then o Equal ≡ o
then_equal Less = refl
then_equal Equal = refl
then_equal Greater = refl

-- a list whose front is kept when it is cut
cut_behind : (front more : List ℕ) (n : ℕ) → length front ≤ n → take n (front ++ more) ≡ front ++ take (n - length front) more
cut_behind front more n h = let seam : n ≡ length front + (n - length front) = omega arith in ap (λ k. take k (front ++ more)) seam ∙ take-append-add front more (n - length front)

decides_int : (short more : List ℕ) (x : KeyValue) (n : ℕ) → IsValue kind.Int x → AreBytes short → length short ≡ n → 8 ≤ n → Decides kind.Int short x more n
decides_int short more (value.Text t) n v b l w = absurd v
decides_int short more (value.Int z) n v b l w =
    let front = spells kind.Int (take 8 short) (bytes-take 8 short b) (eq-eqb (length (take 8 short)) 8 (length-take-le 8 short (omega arith))) in
    let a : KeyValue = first_value kind.Int short in
    let rest : List ℕ = drop 8 short in
    let own : short ≡ value_spelling a ++ rest = sym (take-append-drop 8 short) ∙ ap (λ xs. xs ++ rest) (sym front.spelled) in
    let cut : take n (value_spelling (value.Int z) ++ more) ≡ value_spelling (value.Int z) ++ take (n - 8) more = cut_behind (value_spelling (value.Int z)) more n w in
    record {
      behind = byte_cmp rest (take (n - 8) more);
      order = (λ i. byte_cmp (own i) (cut i))
          ∙ (λ i. byte_cmp (sym (append-nil (value_spelling a)) i ++ rest) (sym (append-nil (value_spelling (value.Int z))) i ++ take (n - 8) more))
          ∙ spelling_order_then (kind.Int ∷ []) (a ∷ []) (value.Int z ∷ []) rest (take (n - 8) more) (front.value, tt) (v, tt)
          ∙ ap (λ o. ordering_then o (byte_cmp rest (take (n - 8) more))) (then_equal (value_cmp a (value.Int z)));
      tail = λ e. (refl, length-drop 8 short ∙ ap (λ k. k - 8) l);
    }

-- the text that stands whole at the front
text_front : (short : List ℕ) → length (before_zero short) < length short → first_value kind.Text short ≡ value.Text (take (length (before_zero short)) short)
text_front short h =
    let p : ℕ = length (before_zero short) in
    let len : length (take (p + 1) short) ≡ p + 1 = length-take-le (p + 1) short (omega arith) in
    let back : p + 1 - 1 ≡ p = omega arith in
    let cut : take (length (take (p + 1) short) - 1) (take (p + 1) short) ≡ take p short = rw (len, back) (take-take p (p + 1) short (omega arith)) in
    ap value.Text cut

-- where the key's text ends within the cut, and where it doesn't
text_within : (short more t : List ℕ) (n : ℕ) → NoZero t → length short ≡ n → length (before_zero short) < length short → length t < n → Decides kind.Text short (value.Text t) more n
text_within short more t n z l h s =
    let p : ℕ = length (before_zero short) in
    let u : List ℕ = take p short in
    let rest : List ℕ = drop (p + 1) short in
    let size : length (t ++ 0 ∷ []) ≡ length t + 1 = length-append t (0 ∷ []) in
    let left : List ℕ = take (n - length (t ++ 0 ∷ [])) more in
    let cut : take n ((t ++ 0 ∷ []) ++ more) ≡ t ++ 0 ∷ left = cut_behind (t ++ 0 ∷ []) more n (omega (arith, size)) ∙ append_assoc t (0 ∷ []) left in
    record {
      behind = byte_cmp rest left;
      order = (λ i. byte_cmp (sym (at_zero short h) i) (cut i)) ∙ byte_cmp-texts u t rest left (no_zero_before short) z ∙ ap (λ x. ordering_then (value_cmp x (value.Text t)) (byte_cmp rest left)) (sym (text_front short h));
      tail = λ e.
          let same : value.Text u ≡ value.Text t = sym (text_front short h) ∙ tied (first_value kind.Text short) (value.Text t) e in
          let texts : u ≡ t = cc in
          let ends : length t ≡ p = ap length (sym texts) ∙ length-take-le p short (omega arith) in
          (refl, length-drop (p + 1) short ∙ omega (arith, size, ends));
    }

text_beyond : (short more t : List ℕ) (n : ℕ) → NoZero t → length short ≡ n → length (before_zero short) < length short → n ≤ length t → Decides kind.Text short (value.Text t) more n
text_beyond short more t n z l h s =
    let p : ℕ = length (before_zero short) in
    let u : List ℕ = take p short in
    let size : length u ≡ p = length-take-le p short (omega arith) in
    let cut : take n ((t ++ 0 ∷ []) ++ more) ≡ take n t = ap (take n) (append_assoc t (0 ∷ []) more) ∙ take-append-le n t (0 ∷ more) s in
    record {
      behind = Equal;
      order = (λ i. byte_cmp (sym (at_zero short h) i) (cut i)) ∙ texts_cut u (drop (p + 1) short) t n (omega arith) s z ∙ ap (λ x. value_cmp x (value.Text t)) (sym (text_front short h)) ∙ sym (then_equal (value_cmp (first_value kind.Text short) (value.Text t)));
      tail = λ e.
          let same : value.Text u ≡ value.Text t = sym (text_front short h) ∙ tied (first_value kind.Text short) (value.Text t) e in
          let texts : u ≡ t = cc in
          absurd (omega (arith, ap length texts, size));
    }

pub decides : (type : KeyType) (short more : List ℕ) (x : KeyValue) (n : ℕ) → IsValue type x → AreBytes short → length short ≡ n → is_whole type short ≡ true → Decides type short x more n
decides kind.Int short more x n v b l w = decides_int short more x n v b l (omega (arith, l, leb-true 8 (length short) w))
decides kind.Text short more (value.Int z) n v b l w = absurd v
decides kind.Text short more (value.Text t) n v b l w =
    let within : length (before_zero short) < length short = omega (arith, leb-true (length (before_zero short) + 1) (length short) w) in
    let zeros : NoZero t = no_zeros t (text_zeros t v) in
    elim (cases_lt (length t) n) [ inl s ↦ text_within short more t n zeros l within s | inr s ↦ text_beyond short more t n zeros l within s ]
