-- What an index of holds tells, and how holds become one.
use Rattle.std.proofs.Common.{◌≡◌, ℕ, zero, suc, ◌+◌, ◌-◌, ◌≤◌, ◌<◌, List, [], ◌∷◌, ◌++◌, length, get_or, set, take, drop, refl, sym, ap, subst, ◌∙◌, arith, Bool, true, false, ltb}
use Rattle.std.specs.Prelude.{◌||◌, ◌&&◌, max}
use Rattle.std.specs.Ordering.{nat_cmp, ord_max}
use Rattle.std.specs.List.{AllWithin}
use Rattle.std.specs.List.Sorted.{IsNonDecreasingBy, IsPartitionPoint, IsPermutation}
use Rattle.std.proofs.lemmas.Bool.Decides.{nat_tests}
use Rattle.std.proofs.lemmas.List.Sorted.{list_any-IsPermutation}
use Rattle.mesa_commit.specs.declared.trash.Dropped.{Dropped}
use Rattle.mesa_commit.specs.declared.trash.Hold.{Hold}
use Rattle.mesa_commit.specs.Holding.{holds, is_held}
use Rattle.mesa_engine.specs.Index.{IsIndex, IsIndexOf}

-- ---- tests

or_false : (b : Bool) → (b || false) ≡ b
or_false true = refl
or_false false = refl

and_false : (b : Bool) → (b && false) ≡ false
and_false true = refl
and_false false = refl

-- an id below the lower of two bounds is below the higher
higher : (b : Bool) (id m n : ℕ) → m ≤ n → ((b && ltb id m) || ltb id n) ≡ ltb id n
higher false id m n le = refl
higher true id m n le = by (ltb id m) refl
  where
    by : (c : Bool) → ltb id m ≡ c → (c || ltb id n) ≡ ltb id n
    by false is = refl
    by true is = let below : ltb id n ≡ true = grind (arith, nat_tests) in sym below

-- a hold may reach as far as one that was made before it, where that one counts too
wider : (a b at id next more : ℕ) (rest : Bool) → a ≤ b
    → ((ltb a at && ltb id next) || ((ltb b at && ltb id (max next more)) || rest)) ≡ ((ltb a at && ltb id next) || ((ltb b at && ltb id more) || rest))
wider a b at id next more rest le = by (ltb b at) refl (ltb id next) refl
  where
    by : (later : Bool) → ltb b at ≡ later → (below : Bool) → ltb id next ≡ below
        → ((ltb a at && below) || ((later && ltb id (max next more)) || rest)) ≡ ((ltb a at && below) || ((later && ltb id more) || rest))
    by false is below e = refl
    by true is true e = let sooner : ltb a at ≡ true = grind (arith, nat_tests) in ap (λ s. (s && true) || (ltb id (max next more) || rest)) sooner ∙ sym (ap (λ s. (s && true) || (ltb id more || rest)) sooner)
    by true is false e = let same : ltb id (max next more) ≡ ltb id more = grind (arith, nat_tests) in ap (λ s. (ltb a at && false) || (s || rest)) same

pub max_is : (a b : ℕ) → ord_max nat_cmp a b ≡ max a b
max_is a b = grind (arith, nat_tests)

-- ---- what an index tells

-- holds that were made where a file was dropped, or later, aren't on it
none_on : (d : Dropped) (hs : List Hold) → AllWithin (λ (h : Hold). ltb h.at d.at ≡ false) hs 0 (length hs) → is_held hs d ≡ false
none_on d [] all = refl
none_on d (h ∷ hs) all =
    let here : ltb h.at d.at ≡ false = all 0 h (omega arith) (omega arith) in
    let rest = none_on d hs (λ k e low high. all (suc k) e (omega arith) (omega arith)) in
    ap (λ b. (b && ltb d.id h.next) || is_held hs d) here ∙ rest

-- of holds each of which reaches as far as those before it, the last that was made before a file was dropped tells
last_tells : (d : Dropped) (hs : List Hold) (i : ℕ) (e : Hold) → i < length hs → IsPartitionPoint (λ (h : Hold). ltb h.at d.at ≡ true) (λ (h : Hold). ltb h.at d.at ≡ false) hs (suc i)
    → IsNonDecreasingBy (λ (h : Hold). h.next) hs → is_held hs d ≡ ltb d.id (get_or hs i e).next
last_tells d [] i e within point reaching = absurd (omega arith)
last_tells d (h ∷ hs) zero e within point reaching =
    let here : ltb h.at d.at ≡ true = point.0 0 h (omega arith) (omega arith) in
    let rest = none_on d hs (λ k x low high. point.1 (suc k) x (omega arith) (omega arith)) in
    ap (λ b. (b && ltb d.id h.next) || is_held hs d) here ∙ ap (λ b. ltb d.id h.next || b) rest ∙ or_false (ltb d.id h.next)
last_tells d (h ∷ hs) (suc i) e within point reaching =
    let point_behind : IsPartitionPoint (λ (x : Hold). ltb x.at d.at ≡ true) (λ (x : Hold). ltb x.at d.at ≡ false) hs (suc i) = (λ k x low high. point.0 (suc k) x (omega arith) (omega arith), λ k x low high. point.1 (suc k) x (omega arith) (omega arith)) in
    let rest = last_tells d hs i e (omega arith) point_behind (λ j k x le lt. reaching (suc j) (suc k) x (omega arith) (omega arith)) in
    let more : h.next ≤ (get_or hs i e).next = reaching 0 (suc i) e (omega arith) (omega arith) in
    ap (λ b. (ltb h.at d.at && ltb d.id h.next) || b) rest ∙ higher (ltb h.at d.at) d.id h.next (get_or hs i e).next more

pub none_tells : (d : Dropped) (hs : List Hold) (i : ℕ) → i ≡ 0 → IsPartitionPoint (λ (h : Hold). ltb h.at d.at ≡ true) (λ (h : Hold). ltb h.at d.at ≡ false) hs i → is_held hs d ≡ false
none_tells d hs i none point = none_on d hs (subst (λ k. AllWithin (λ (h : Hold). ltb h.at d.at ≡ false) hs k (length hs)) none point.1)

pub one_tells : (d : Dropped) (hs : List Hold) (i : ℕ) (e : Hold) → 0 < i → i ≤ length hs → IsPartitionPoint (λ (h : Hold). ltb h.at d.at ≡ true) (λ (h : Hold). ltb h.at d.at ≡ false) hs i
    → IsIndex hs → is_held hs d ≡ ltb d.id (get_or hs (i - 1) e).next
one_tells d hs zero e some within point index = absurd (omega arith)
one_tells d hs (suc i) e some within point index =
    let before : i ≡ suc i - 1 = omega arith in
    last_tells d hs i e (omega arith) point index.reaching ∙ ap (λ k. ltb d.id (get_or hs k e).next) before

-- ---- how holds become an index

-- a hold that reaches so far at least
abbrev pub reaching_to : ℕ → Hold → Hold
reaching_to next h = record { at = h.at; next = max next h.next }

-- holds each of which reaches as far as those before it, and the first so far at least
abbrev pub reached : ℕ → List Hold → List Hold
reached next [] = []
reached next (h ∷ hs) = reaching_to next h ∷ reached (max next h.next) hs

reached_length : (next : ℕ) (hs : List Hold) → length (reached next hs) ≡ length hs
reached_length next [] = refl
reached_length next (h ∷ hs) = ap suc (reached_length (max next h.next) hs)

reached_at : (next : ℕ) (hs : List Hold) (i : ℕ) (e : Hold) → (get_or (reached next hs) i e).at ≡ (get_or hs i e).at
reached_at next [] i e = refl
reached_at next (h ∷ hs) zero e = refl
reached_at next (h ∷ hs) (suc i) e = reached_at (max next h.next) hs i e

reached_low : (next : ℕ) (hs : List Hold) (i : ℕ) (e : Hold) → i < length hs → next ≤ (get_or (reached next hs) i e).next
reached_low next [] i e within = absurd (omega arith)
reached_low next (h ∷ hs) zero e within = omega arith
reached_low next (h ∷ hs) (suc i) e within = let more = reached_low (max next h.next) hs i e (omega arith) in omega arith

reached_rises : (next : ℕ) (hs : List Hold) → IsNonDecreasingBy (λ (h : Hold). h.next) (reached next hs)
reached_rises next [] i j e le within = absurd (omega arith)
reached_rises next (h ∷ hs) zero zero e le within = omega arith
reached_rises next (h ∷ hs) zero (suc j) e le within = reached_low (max next h.next) hs j e (let same = reached_length (max next h.next) hs in omega arith)
reached_rises next (h ∷ hs) (suc i) zero e le within = absurd (omega arith)
reached_rises next (h ∷ hs) (suc i) (suc j) e le within = reached_rises (max next h.next) hs i j e (omega arith) (omega arith)

-- behind a hold that reaches so far, they are on the files that they were on
reached_behind : (d : Dropped) (at next : ℕ) (hs : List Hold) → IsNonDecreasingBy (λ (h : Hold). h.at) hs → ((i : ℕ) (e : Hold) → i < length hs → at ≤ (get_or hs i e).at)
    → ((ltb at d.at && ltb d.id next) || is_held (reached next hs) d) ≡ ((ltb at d.at && ltb d.id next) || is_held hs d)
reached_behind d at next [] rising low = refl
reached_behind d at next (h ∷ hs) rising low =
    let rest = reached_behind d h.at (max next h.next) hs (λ i j e le lt. rising (suc i) (suc j) e (omega arith) (omega arith)) (λ i e lt. rising 0 (suc i) e (omega arith) (omega arith)) in
    ap (λ b. (ltb at d.at && ltb d.id next) || b) rest ∙ wider at h.at d.at d.id next h.next (is_held hs d) (low 0 h (omega arith))

-- Holds that stand by their positions become an index of them.
pub reached_index : (hs : List Hold) → IsNonDecreasingBy (λ (h : Hold). h.at) hs → IsIndexOf hs (reached 0 hs)
reached_index hs rising = record {
  ordered = record {
    rising = λ i j e le within. subst (λ m. m ≤ (get_or (reached 0 hs) j e).at) (sym (reached_at 0 hs i e)) (subst (λ n. (get_or hs i e).at ≤ n) (sym (reached_at 0 hs j e)) (rising i j e le (subst (λ n. j < n) (reached_length 0 hs) within)));
    reaching = reached_rises 0 hs;
  };
  same = λ d.
      let none : ltb d.id 0 ≡ false = grind (arith, nat_tests) in
      let off : (ltb 0 d.at && ltb d.id 0) ≡ false = ap (λ b. ltb 0 d.at && b) none ∙ and_false (ltb 0 d.at) in
      sym (ap (λ b. b || is_held (reached 0 hs) d) off) ∙ reached_behind d 0 0 hs rising (λ i e lt. omega arith) ∙ ap (λ b. b || is_held hs d) off;
}

-- one hold more reaches as far as those before it
set_reached : (i next : ℕ) (hs : List Hold) (e : Hold) → i < length hs
    → take (suc i) (set hs i (reaching_to next (get_or hs i e))) ++ reached (max next (get_or hs i e).next) (drop (suc i) (set hs i (reaching_to next (get_or hs i e)))) ≡ take i hs ++ reached next (drop i hs)
set_reached i next [] e within = absurd (omega arith)
set_reached zero next (h ∷ hs) e within = refl
set_reached (suc i) next (h ∷ hs) e within = ap (λ ys. h ∷ ys) (set_reached i next hs e (omega arith))

pub reached_more : (i next more : ℕ) (hs : List Hold) (e made : Hold) (all : List Hold) → i < length hs → more ≡ max next (get_or hs i e).next → made ≡ record { at = (get_or hs i e).at; next = more }
    → take i hs ++ reached next (drop i hs) ≡ all → take (i + 1) (set hs i made) ++ reached more (drop (i + 1) (set hs i made)) ≡ all
reached_more i next more hs e made all within most made_is before =
    let count : i + 1 ≡ suc i = omega arith in
    let same : made ≡ reaching_to next (get_or hs i e) = made_is ∙ ap (λ n. record { at = (get_or hs i e).at; next = n }) most in
    (λ k. take (count k) (set hs i (same k)) ++ reached (most k) (drop (count k) (set hs i (same k)))) ∙ set_reached i next hs e within ∙ before

-- all of them do
pub reached_all : (i next : ℕ) (hs all : List Hold) → length hs ≤ i → take i hs ++ reached next (drop i hs) ≡ all → all ≡ hs
reached_all i next hs all past is = sym is ∙ whole i hs past
  where
    whole : (i : ℕ) (hs : List Hold) → length hs ≤ i → take i hs ++ reached next (drop i hs) ≡ hs
    whole zero [] past = refl
    whole (suc i) [] past = refl
    whole zero (h ∷ hs) past = absurd (omega arith)
    whole (suc i) (h ∷ hs) past = ap (λ ys. h ∷ ys) (whole i hs (omega arith))

-- what a list of holds is once as many are written over it
pub written_over : (n : ℕ) (xs ys : List Hold) → length xs ≡ n → length ys ≡ n → take n (xs ++ drop (length xs) ys) ≡ xs
written_over zero [] [] e f = refl
written_over (suc n) [] ys e f = absurd (omega arith)
written_over zero [] (y ∷ ys) e f = absurd (omega arith)
written_over zero (x ∷ xs) ys e f = absurd (omega arith)
written_over (suc n) (x ∷ xs) [] e f = absurd (omega arith)
written_over (suc n) (x ∷ xs) (y ∷ ys) e f = ap (λ zs. x ∷ zs) (written_over n xs ys (omega arith) (omega arith))

-- holds in another order are on the same files
pub index_permuted : (holds others index : List Hold) → IsPermutation holds others → IsIndexOf others index → IsIndexOf holds index
index_permuted hs others index moved is = record { ordered = is.ordered; same = λ d. is.same d ∙ sym (list_any-IsPermutation (holds d) hs others moved) }
