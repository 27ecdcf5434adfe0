-- The first bytes of keys order them as far as they differ.
use Rattle.std.proofs.Common.{◌≡◌, ℕ, zero, suc, ◌+◌, ◌<◌, ◌^◌, ◌%◌, List, [], ◌∷◌, ◌++◌, length, map, drop, get_or, refl, sym, ◌∙◌, ap, subst, arith, Bool, true, false, ◌==◌}
use Rattle.std.specs.Prelude.{◌&&◌}
use Rattle.std.specs.Int.{bytes_high_first, from_be_bytes, w64}
use Rattle.std.specs.Ordering.{is_lt, nat_cmp, ordering_then}
use Rattle.std.specs.declared.cmp.Ordering.{Ordering}
use Rattle.std.specs.declared.cmp.Ordering.TheVariants.{Less, Equal, Greater}
use Rattle.std.specs.Cmp.{IsTotalOrder, nat_cmp_is, nat_cmp_total, on_total, then_total}
use Rattle.std.specs.Cmp.Lexicographic.{same_text}
use Rattle.std.specs.List.{All, range_with_len}
use Rattle.std.specs.List.Sorted.{IsSorted}
use Rattle.std.proofs.lemmas.Bool.{eq-eqb, eqb-true, false≢true}
use Rattle.std.proofs.lemmas.Cmp.{nat_list_cmp_total}
use Rattle.std.proofs.lemmas.List.{drop-drop, get_or-map, length-map}
use Rattle.std.proofs.lemmas.List.Elements.{All-append, All-cons, All-nil}
use Rattle.std.proofs.lemmas.Nat.{be_bytes_8}
use Rattle.std.proofs.Math.Seq.{drop-nil}
use Rattle.mesa_list.specs.Bytes.{same_bytes}
use Rattle.mesa_schema.specs.mesa_key.Order.{byte_cmp}
use Rattle.mesa_schema.proofs.mesa_key.IntOrder.{bytes_order}
use Rattle.mesa_schema.proofs.mesa_key.KeyOrder.{byte_cmp-long, then_assoc}
use Rattle.mesa_batch.specs.declared.spots.Spot.{Spot}
use Rattle.mesa_batch.specs.Batch.{Placed}
use Rattle.mesa_batch.specs.Flat.{is_twice, placed_at, spot_cmp}
use Rattle.mesa_batch.proofs.Twice.{range-push}
use Rattle.mesa_batch.specs.Heads.{IsSpot, has_same_head, head_of, heads_cmp, padded, place_of, spotted_cmp}

-- ---- the bytes of a head

pub padded_bytes : (key : List ℕ) → get_or key 0 0 ∷ get_or key 1 0 ∷ get_or key 2 0 ∷ get_or key 3 0 ∷ get_or key 4 0 ∷ get_or key 5 0 ∷ get_or key 6 0 ∷ get_or key 7 0 ∷ [] ≡ padded 8 key
padded_bytes [] = refl
padded_bytes (x0 ∷ []) = refl
padded_bytes (x0 ∷ x1 ∷ []) = refl
padded_bytes (x0 ∷ x1 ∷ x2 ∷ []) = refl
padded_bytes (x0 ∷ x1 ∷ x2 ∷ x3 ∷ []) = refl
padded_bytes (x0 ∷ x1 ∷ x2 ∷ x3 ∷ x4 ∷ []) = refl
padded_bytes (x0 ∷ x1 ∷ x2 ∷ x3 ∷ x4 ∷ x5 ∷ []) = refl
padded_bytes (x0 ∷ x1 ∷ x2 ∷ x3 ∷ x4 ∷ x5 ∷ x6 ∷ []) = refl
padded_bytes (x0 ∷ x1 ∷ x2 ∷ x3 ∷ x4 ∷ x5 ∷ x6 ∷ x7 ∷ key) = refl

small_behind : (n : ℕ) (key : List ℕ) → ((i : ℕ) → get_or key i 0 < 256) → (i : ℕ) → get_or (drop n key) i 0 < 256
small_behind zero key small i = small i
small_behind (suc n) [] small i = small i
small_behind (suc n) (x ∷ key) small i = small_behind n key (λ j. small (suc j)) i

padded_small : (n : ℕ) (key : List ℕ) → ((i : ℕ) → get_or key i 0 < 256) → (i : ℕ) → get_or (padded n key) i 0 < 256
padded_small zero key small i = omega arith
padded_small (suc n) [] small zero = omega arith
padded_small (suc n) [] small (suc i) = padded_small n [] small i
padded_small (suc n) (x ∷ key) small zero = small 0
padded_small (suc n) (x ∷ key) small (suc i) = padded_small n key (λ j. small (suc j)) i

padded_length : (n : ℕ) (key : List ℕ) → length (padded n key) ≡ n
padded_length zero key = refl
padded_length (suc n) [] = ap suc (padded_length n [])
padded_length (suc n) (x ∷ key) = ap suc (padded_length n key)

-- so many first bytes are some, and then those behind them
padded_then : (m n k : ℕ) (key : List ℕ) → k ≡ m + n → padded k key ≡ padded m key ++ padded n (drop m key)
padded_then zero n k key e = let same : k ≡ n = omega (arith, e) in ap (λ j. padded j key) same
padded_then (suc m) n zero key e = absurd (omega (arith, e))
padded_then (suc m) n (suc k) [] e = ap (λ l. 0 ∷ l) (padded_then m n k [] (omega (arith, e)) ∙ ap (λ l. padded m [] ++ padded n l) (drop-nil m))
padded_then (suc m) n (suc k) (x ∷ key) e = ap (λ l. x ∷ l) (padded_then m n k key (omega (arith, e)))

-- ---- heads are ordered as their bytes

head_bytes : (key : List ℕ) → ((i : ℕ) → get_or key i 0 < 256) → bytes_high_first 8 (head_of key) ≡ padded 8 key
head_bytes key small = be_bytes_8 (padded 8 key) (head_of key) (padded_length 8 key) (padded_small 8 key small) refl

fits_64 : (bytes : List ℕ) → ((i : ℕ) → get_or bytes i 0 < 256) → from_be_bytes w64 bytes < 2 ^ 64
fits_64 bytes small = omega (arith, small 0, small 1, small 2, small 3, small 4, small 5, small 6, small 7)

head_below : (key : List ℕ) → ((i : ℕ) → get_or key i 0 < 256) → head_of key < 2 ^ 64
head_below key small = fits_64 (padded 8 key) (padded_small 8 key small)

mod_64 : (n : ℕ) → n < 2 ^ 64 → n ≡ n % 2 ^ 64
mod_64 n below = omega (arith, below)

heads_order : (u v : List ℕ) → ((i : ℕ) → get_or u i 0 < 256) → ((i : ℕ) → get_or v i 0 < 256) → nat_cmp (head_of u) (head_of v) ≡ byte_cmp (padded 8 u) (padded 8 v)
heads_order u v su sv =
    (λ i. nat_cmp (mod_64 (head_of u) (head_below u su) i) (mod_64 (head_of v) (head_below v sv) i))
    ∙ sym (bytes_order 8 (head_of u) (head_of v))
    ∙ (λ i. byte_cmp (head_bytes u su i) (head_bytes v sv i))

first_split : (m n k : ℕ) (u v : List ℕ) → k ≡ m + n → byte_cmp (padded k u) (padded k v) ≡ ordering_then (byte_cmp (padded m u) (padded m v)) (byte_cmp (padded n (drop m u)) (padded n (drop m v)))
first_split m n k u v e =
    (λ i. byte_cmp (padded_then m n k u e i) (padded_then m n k v e i))
    ∙ byte_cmp-long (padded m u) (padded m v) (padded n (drop m u)) (padded n (drop m v)) (padded_length m u ∙ sym (padded_length m v))

-- the order of three heads
three : List ℕ → List ℕ → Ordering
three u v = ordering_then (nat_cmp (head_of u) (head_of v)) (ordering_then (nat_cmp (head_of (drop 8 u)) (head_of (drop 8 v))) (nat_cmp (head_of (drop 16 u)) (head_of (drop 16 v))))

three_order : (u v : List ℕ) → ((i : ℕ) → get_or u i 0 < 256) → ((i : ℕ) → get_or v i 0 < 256) → three u v ≡ byte_cmp (padded 24 u) (padded 24 v)
unfolding three
three_order u v su sv =
    let third : nat_cmp (head_of (drop 16 u)) (head_of (drop 16 v)) ≡ byte_cmp (padded 8 (drop 8 (drop 8 u))) (padded 8 (drop 8 (drop 8 v))) =
    heads_order (drop 16 u) (drop 16 v) (small_behind 16 u su) (small_behind 16 v sv) ∙ (λ i. byte_cmp (padded 8 (sym (drop-drop 8 8 u) i)) (padded 8 (sym (drop-drop 8 8 v) i))) in
    (λ i. ordering_then (heads_order u v su sv i) (ordering_then (heads_order (drop 8 u) (drop 8 v) (small_behind 8 u su) (small_behind 8 v sv) i) (third i)))
    ∙ ap (ordering_then (byte_cmp (padded 8 u) (padded 8 v))) (sym (first_split 8 8 16 (drop 8 u) (drop 8 v) refl))
    ∙ sym (first_split 8 16 24 u v refl)

-- ---- the first bytes decide before the whole key

equal_behind : (o : Ordering) → ordering_then o Equal ≡ Equal → o ≡ Equal
equal_behind Less e = e
equal_behind Equal e = refl
equal_behind Greater e = e

-- the same bytes in front leave what decides behind them
behind : (o first whole : Ordering) → ordering_then first whole ≡ whole → ordering_then (ordering_then o first) (ordering_then o whole) ≡ ordering_then o whole
behind Less first whole e = refl
behind Equal first whole e = e
behind Greater first whole e = refl

-- zeros behind the end of a key leave what comes behind it behind it
pub padded_first : (n : ℕ) (u v : List ℕ) → ordering_then (byte_cmp (padded n u) (padded n v)) (byte_cmp u v) ≡ byte_cmp u v
padded_first zero u v = refl
padded_first (suc n) [] [] = padded_first n [] []
padded_first (suc n) [] (zero ∷ []) = ap (λ o. ordering_then o Less) (equal_behind _ (padded_first n [] []))
padded_first (suc n) [] (zero ∷ z ∷ v) = padded_first n [] (z ∷ v)
padded_first (suc n) [] (suc y ∷ v) = ap (λ o. ordering_then (ordering_then o (byte_cmp (padded n []) (padded n v))) Less) (sym (nat_cmp_is 0 (suc y) Less (omega arith)))
padded_first (suc n) (zero ∷ []) [] = ap (λ o. ordering_then o Greater) (equal_behind _ (padded_first n [] []))
padded_first (suc n) (zero ∷ z ∷ u) [] = padded_first n (z ∷ u) []
padded_first (suc n) (suc x ∷ u) [] = ap (λ o. ordering_then (ordering_then o (byte_cmp (padded n u) (padded n []))) Greater) (sym (nat_cmp_is (suc x) 0 Greater (omega arith)))
padded_first (suc n) (x ∷ u) (y ∷ v) = behind (nat_cmp x y) (byte_cmp (padded n u) (padded n v)) (byte_cmp u v) (padded_first n u v)

heads_first : (u v : List ℕ) → ((i : ℕ) → get_or u i 0 < 256) → ((i : ℕ) → get_or v i 0 < 256) → ordering_then (three u v) (byte_cmp u v) ≡ byte_cmp u v
heads_first u v su sv = ap (λ o. ordering_then o (byte_cmp u v)) (three_order u v su sv) ∙ padded_first 24 u v

-- ---- spots

abbrev key_at : List Placed → Spot → List ℕ
key_at rows s = (placed_at rows s.place).row.key

-- the heads of spots are those of their keys
heads_are : (rows : List Placed) (a b : Spot) → IsSpot rows a → IsSpot rows b → heads_cmp a b ≡ three (key_at rows a) (key_at rows b)
unfolding three
heads_are rows a b p q = λ i. ordering_then (nat_cmp (p.first i) (q.first i)) (ordering_then (nat_cmp (p.second i) (q.second i)) (nat_cmp (p.third i) (q.third i)))

-- spots are ordered as their places
pub spots_agree : (rows : List Placed) (a b : Spot) → IsSpot rows a → IsSpot rows b → spotted_cmp rows a b ≡ spot_cmp rows a.place b.place
spots_agree rows a b p q =
    let u : List ℕ = key_at rows a in
    let v : List ℕ = key_at rows b in
    let t = nat_cmp (placed_at rows a.place).table (placed_at rows b.place).table in
    let o = nat_cmp a.place b.place in
    (λ i. ordering_then (nat_cmp (p.table i) (q.table i)) (ordering_then (heads_are rows a b p q i) (ordering_then (byte_cmp u v) o)))
    ∙ ap (ordering_then t) (then_assoc (three u v) (byte_cmp u v) o ∙ ap (λ r. ordering_then r o) (heads_first u v p.bytes q.bytes))
    ∙ then_assoc t (byte_cmp u v) o

heads_total : IsTotalOrder heads_cmp
heads_total = then_total (on_total (λ (s : Spot). s.first) nat_cmp_total) (then_total (on_total (λ (s : Spot). s.second) nat_cmp_total) (on_total (λ (s : Spot). s.third) nat_cmp_total))

pub spotted_total : (rows : List Placed) → IsTotalOrder (spotted_cmp rows)
spotted_total rows = then_total (on_total (λ (s : Spot). s.table) nat_cmp_total) (then_total heads_total (then_total (on_total (key_at rows) nat_list_cmp_total) (on_total place_of nat_cmp_total)))

-- so are the places of spots in order
pub places_sorted : (rows : List Placed) (spots : List Spot) → All (IsSpot rows) spots → IsSorted (spotted_cmp rows) spots → IsSorted (spot_cmp rows) (map place_of spots)
places_sorted rows spots all sorted = λ k d low high.
    let l : k + 1 < length spots = omega (arith, high, length-map spots place_of) in
    let e : Spot = record { first = 0; second = 0; third = 0; table = 0; place = 0 } in
    let a = get_or spots (k + 1) e in
    let b = get_or spots k e in
    let same = spots_agree rows a b (all (k + 1) e l) (all k e (omega (arith, l))) in
    (λ i. is_lt (spot_cmp rows (get_or-map place_of spots (k + 1) e d l i) (get_or-map place_of spots k e d (omega (arith, l)) i))) ∙ ap is_lt (sym same) ∙ sorted k e (omega arith) l

-- ---- rows of one table and key

and_false : (b : Bool) → (b && false) ≡ false
and_false true = refl
and_false false = refl

-- where keys are the same their heads are
same_heads : (rows : List Placed) (a b : Spot) → IsSpot rows a → IsSpot rows b → key_at rows b ≡ key_at rows a → has_same_head a b ≡ true
same_heads rows a b p q e =
    let one : (a.first == b.first) ≡ true = eq-eqb a.first b.first (p.first ∙ ap head_of (sym e) ∙ sym q.first) in
    let two : (a.second == b.second) ≡ true = eq-eqb a.second b.second (p.second ∙ ap (λ l. head_of (drop 8 l)) (sym e) ∙ sym q.second) in
    let three : (a.third == b.third) ≡ true = eq-eqb a.third b.third (p.third ∙ ap (λ l. head_of (drop 16 l)) (sym e) ∙ sym q.third) in
    λ i. one i && (two i && three i)

-- rows whose keys begin otherwise have other keys
pub heads_apart : (rows : List Placed) (a b : Spot) → IsSpot rows a → IsSpot rows b → has_same_head a b ≡ false → is_twice rows a.place b.place ≡ false
heads_apart rows a b p q apart = by (same_bytes (key_at rows b) (key_at rows a)) refl
  where
    by : (s : Bool) → same_bytes (key_at rows b) (key_at rows a) ≡ s → is_twice rows a.place b.place ≡ false
    by true e = absurd (false≢true (sym apart ∙ same_heads rows a b p q (same_text (key_at rows b) (key_at rows a) (sym e))))
    by false e = ap (λ s. ((placed_at rows a.place).table == (placed_at rows b.place).table) && s) e ∙ and_false _

is_not : (b : Bool) → (b ≡ true → ⊥) → b ≡ false
is_not true f = absurd (f refl)
is_not false f = refl

-- so have rows of other tables
pub tables_apart : (rows : List Placed) (a b : Spot) → IsSpot rows a → IsSpot rows b → (a.table ≡ b.table → ⊥) → is_twice rows a.place b.place ≡ false
tables_apart rows a b p q apart =
    let other : ((placed_at rows a.place).table == (placed_at rows b.place).table) ≡ false =
    is_not ((placed_at rows a.place).table == (placed_at rows b.place).table) (λ t. apart (p.table ∙ eqb-true (placed_at rows a.place).table (placed_at rows b.place).table t ∙ sym q.table)) in
    ap (λ s. s && same_bytes (key_at rows b) (key_at rows a)) other

-- ---- one spot more

map_push : (spots : List Spot) (s : Spot) → map place_of (spots ++ s ∷ []) ≡ map place_of spots ++ s.place ∷ []
map_push [] s = refl
map_push (x ∷ spots) s = ap (λ l. x.place ∷ l) (map_push spots s)

pub spots_more : (rows : List Placed) (spots new : List Spot) (s : Spot) (n : ℕ) → new ≡ spots ++ s ∷ [] → s.place ≡ n → IsSpot rows s → map place_of spots ≡ range_with_len 0 n → All (IsSpot rows) spots
    → (map place_of new ≡ range_with_len 0 (n + 1)) × All (IsSpot rows) new
spots_more rows spots new s n more place is places all =
    let last : s.place ≡ 0 + n = omega (arith, place) in (
      ap (map place_of) more ∙ map_push spots s ∙ (λ i. places i ++ last i ∷ []) ∙ sym (range-push 0 n),
      subst (All (IsSpot rows)) (sym more) (All-append (IsSpot rows) spots (s ∷ []) all (All-cons (IsSpot rows) s [] is (All-nil (IsSpot rows)))),
    )
