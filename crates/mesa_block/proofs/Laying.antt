-- Columns of rows, one row or one column more.
use Rattle.std.proofs.Common.{◌≡◌, ℕ, zero, suc, ◌+◌, ◌-◌, ◌<◌, ◌≤◌, ◌^◌, List, [], ◌∷◌, ◌++◌, length, map, get_or, take, drop, refl, sym, ap, ◌∙◌, arith, append_assoc, zero-add, inl, inr}
use Rattle.std.specs.Prelude.{IsTrue, not, flat_map, nat_le, ◌&&◌, ◌==◌}
use Rattle.std.specs.Str.{is_utf8}
use Rattle.std.specs.List.{AllByRecursion, list_any, range_with_len}
use Rattle.std.proofs.lemmas.List.{append-nil, length-take, length-drop, take_all}
use Rattle.std.proofs.lemmas.Grind.{flat_map-append}
use Rattle.std.proofs.lemmas.List.FromFn.{map-range_with_len_more}
use Rattle.std.proofs.lemmas.Bool.{eqb-true, leb-true, cases_lt}
use Rattle.mesa_list.proofs.Whole.{both}
use Rattle.mesa_columns.specs.mesa_key.declared.KeyType.{KeyType}
use Rattle.mesa_columns.specs.mesa_key.declared.KeyType.TheVariants as kind
use Rattle.mesa_columns.specs.mesa_key.Spelling.{before_zero, is_column, is_key_text, is_spelling}
use Rattle.mesa_block.specs.Spelling.{front, rest}
use Rattle.mesa_block.proofs.Zeros.{before_zero-le}

map_same : (xs : List ℕ) → map (λ x. x) xs ≡ xs
map_same [] = refl
map_same (x ∷ xs) = ap (λ (l : List ℕ). x ∷ l) (map_same xs)

pub at_mapped : {X : Type 0} (P : List ℕ → Type 0) (g : X → List ℕ) (xs : List X) (i : ℕ) (d : X) → i < length xs → AllByRecursion P (map g xs) → P (g (get_or xs i d))
at_mapped P g [] i d lt all = absurd (omega arith)
at_mapped P g (x ∷ xs) zero d lt all = all.0
at_mapped P g (x ∷ xs) (suc i) d lt all = at_mapped P g xs i d (omega arith) all.1

pub at_each : {X : Type 0} (P : X → Type 0) (xs : List X) (i : ℕ) (d : X) → i < length xs → AllByRecursion P xs → P (get_or xs i d)
at_each P [] i d lt all = absurd (omega arith)
at_each P (x ∷ xs) zero d lt all = all.0
at_each P (x ∷ xs) (suc i) d lt all = at_each P xs i d (omega arith) all.1

pub each_so : {X : Type 0} (P Q : X → Type 0) (xs : List X) → ((x : X) → P x → Q x) → AllByRecursion P xs → AllByRecursion Q xs
each_so P Q [] f all = tt
each_so P Q (x ∷ xs) f all = (f x all.0, each_so P Q xs f all.1)

pub each_mapped : {X Y : Type 0} (P : X → Type 0) (Q : Y → Type 0) (g : X → Y) (xs : List X) → ((x : X) → P x → Q (g x)) → AllByRecursion P xs → AllByRecursion Q (map g xs)
each_mapped P Q g [] f all = tt
each_mapped P Q g (x ∷ xs) f all = (f x all.0, each_mapped P Q g xs f all.1)

pub range_more : (n : ℕ) → range_with_len 0 (n + 1) ≡ range_with_len 0 n ++ n ∷ []
range_more n = sym (map_same (range_with_len 0 (n + 1))) ∙ map-range_with_len_more (λ x. x) 0 n n (zero-add n) ∙ ap (λ (l : List ℕ). l ++ n ∷ []) (map_same (range_with_len 0 n))

pub range_step : (f : ℕ → List ℕ) (n : ℕ) (start now new : List ℕ) → now ≡ start ++ flat_map f (range_with_len 0 n) → new ≡ now ++ f n → new ≡ start ++ flat_map f (range_with_len 0 (n + 1))
range_step f n start now new before put =
    put ∙ ap (λ (l : List ℕ). l ++ f n) before ∙ append_assoc start (flat_map f (range_with_len 0 n)) (f n)
    ∙ ap (λ (l : List ℕ). start ++ l) (sym (rw (range_more n, flat_map-append) (ap (λ (l : List ℕ). flat_map f (range_with_len 0 n) ++ l) (append-nil (f n)))))

-- how many bytes a cell takes in a key
abbrev pub cell_size : KeyType → List ℕ → ℕ
cell_size kind.Int cell = length cell
cell_size kind.Text cell = length cell + 1

-- a key of these types has its first column
pub record HasFront (kind : KeyType) (kinds : List KeyType) (key : List ℕ) : Type 0 where
  pub small : length (front kind key) < 2 ^ 8
  pub others : IsTrue (is_spelling kinds (rest kind key))
  pub parts : cell_size kind (front kind key) + length (rest kind key) ≡ length key

-- a text column's bytes: the text is short, and its zero byte is there
pub text_column : (key x : List ℕ) → x ≡ take (length (before_zero key) + 1) key → IsTrue (is_column kind.Text x) → (length (before_zero key) < 2 ^ 8) × (length (before_zero key) < length key)
text_column key x is h =
    let p = both (is_key_text (take (length x - 1) x)) (length (before_zero x) + 1 == length x) h in
    let q = both (nat_le (length (take (length x - 1) x)) 255 && not (list_any (λ b. b == 0) (take (length x - 1) x))) (is_utf8 (take (length x - 1) x)) p.0 in
    let r = both (nat_le (length (take (length x - 1) x)) 255) (not (list_any (λ b. b == 0) (take (length x - 1) x))) q.0 in
    let few : length (take (length x - 1) x) ≤ 255 = leb-true _ _ r.0 in
    let ends : length (before_zero x) + 1 ≡ length x = eqb-true _ _ p.1 in
    let n = ap length is in
    let le = before_zero-le key in
    elim (cases_lt (length (before_zero key)) (length key)) [
      | inl lt ↦ (omega (arith, length-take (length x - 1) x, length-take (length (before_zero key) + 1) key), lt)
      | inr ge ↦
          let same : x ≡ key = is ∙ take_all (length (before_zero key) + 1) key (omega arith) in
          let e = ap (λ (l : List ℕ). length (before_zero l)) same in
          absurd (omega (arith, ap length same))
    ]

pub has_front : (k : KeyType) (kinds : List KeyType) (key : List ℕ) → IsTrue (is_spelling (k ∷ kinds) key) → HasFront k kinds key
has_front kind.Int kinds key h =
    let p = both (is_column kind.Int (take 8 key)) (is_spelling kinds (drop 8 key)) h in
    let e : length (take 8 key) ≡ 8 = eqb-true _ _ p.0 in
    record { small = omega (arith, length-take 8 key); others = p.1; parts = omega (arith, length-take 8 key, length-drop 8 key) }
has_front kind.Text kinds key h =
    let p = both (is_column kind.Text (take (length (before_zero key) + 1) key)) (is_spelling kinds (drop (length (before_zero key) + 1) key)) h in
    let t = text_column key _ refl p.0 in
    record { small = t.0; others = p.1; parts = omega (arith, length-drop (length (before_zero key) + 1) key, t.1) }
