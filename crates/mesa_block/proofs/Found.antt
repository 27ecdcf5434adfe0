-- What is read is spelled so.
use Rattle.std.proofs.Common.{◌≡◌, ◌≢◌, ◌⊎◌, inl, inr, ℕ, zero, suc, ◌+◌, ◌≤◌, List, [], ◌∷◌, ◌++◌, length, map, take, get_or, Ok, refl, sym, ap, subst, ◌∙◌, arith, Bool, true, false, cond}
use Rattle.std.specs.Prelude.{IsTrue, not, replicate, Option, Some, None, position, nat_le, ◌&&◌, ◌||◌, ◌==◌}
use Rattle.std.specs.Str.{is_utf8}
use Rattle.std.specs.List.{AllByRecursion, list_any, prefix_len, position_or_len, range_with_len}
use Rattle.std.proofs.lemmas.List.{take_more, take_all}
use Rattle.std.proofs.lemmas.List.FromFn.{map-range_with_len_more}
use Rattle.std.proofs.lemmas.Bool.{eq-eqb}
use Rattle.std.proofs.lemmas.Grind.{common_steps}
use Rattle.mesa_list.proofs.Whole.{both}
use Rattle.mesa_list.specs.Checks.{◌>>=◌}
use Rattle.mesa_columns.specs.mesa_key.declared.KeyType.{KeyType}
use Rattle.mesa_columns.specs.mesa_key.declared.KeyType.TheVariants as kind
use Rattle.mesa_columns.specs.mesa_key.Spelling.{is_key_text}
use Rattle.mesa_columns.specs.mesa_key.Order.{byte_cmp}
use Rattle.mesa_columns.specs.declared.rows.Row.{Row}
use Rattle.mesa_block.specs.Spelling.{columns, key_of}
use Rattle.mesa_block.specs.Rows.{Rise}
use Rattle.mesa_block.specs.Reading.{many, column_at, columns_at, bad_column, bad_text, or_else, key_at, is_less, out_of_order}
use Rattle.mesa_block.proofs.Again.{AreColumns, IsCell, NoZero, columns_of_keys, less_is}
use Rattle.mesa_block.proofs.Laying.{each_so}
use Rattle.mesa_block.proofs.Takes.{AreCells, bind_ok, column_takes, ok_is, laid}

-- Columns of these types that were read have r cells each, and those of ints have eight bytes.
abbrev pub AreRead : ℕ → List KeyType → List (List (List ℕ)) → Type 0
AreRead r [] [] = Unit {0}
AreRead r [] (c ∷ cs) = ⊥
AreRead r (k ∷ kinds) [] = ⊥
AreRead r (k ∷ kinds) (c ∷ cs) = (length c ≡ r) × (AreCells k c × AreRead r kinds cs)

pub columns_read : (kinds : List KeyType) (r : ℕ) (bytes : List ℕ) (x : List (List (List ℕ)) × List ℕ) → columns_at kinds r bytes ≡ Ok x → AreRead r kinds x.0
unfolding many
columns_read [] r bytes x e = subst (λ (y : List (List (List ℕ)) × List ℕ). AreRead r [] y.0) (ok_is ([], bytes) x e) tt
columns_read (k ∷ kinds) r bytes x e =
    let a = bind_ok (column_at k r bytes) (λ first. columns_at kinds r first.1 >>= λ others. Ok (first.0 ∷ others.0, others.1)) x e in
    let b = bind_ok (columns_at kinds r a.0.1) (λ others. Ok (a.0.0 ∷ others.0, others.1)) x a.2 in
    let first = column_takes k r bytes a.0 a.1 in
    let made : List (List (List ℕ)) × List ℕ = (a.0.0 ∷ b.0.0, b.0.1) in
    subst (λ (y : List (List (List ℕ)) × List ℕ). AreRead r (k ∷ kinds) y.0) (ok_is made x b.2) (first.count, (first.ints, columns_read kinds r a.0.1 b.0 b.1))

pub counts : (r : ℕ) (kinds : List KeyType) (cs : List (List (List ℕ))) → AreRead r kinds cs → AllByRecursion (λ (c : List (List ℕ)). length c ≡ r) cs
counts r [] [] are = tt
counts r [] (c ∷ cs) are = absurd are
counts r (k ∷ kinds) [] are = absurd are
counts r (k ∷ kinds) (c ∷ cs) are = (are.0, counts r kinds cs are.1.1)

-- the elements at the first places
firsts : {X : Type 0} (xs : List X) (d : X) (i : ℕ) → i ≤ length xs → map (λ j. get_or xs j d) (range_with_len 0 i) ≡ take i xs
firsts xs d zero le = refl
firsts {X = X} xs d (suc i) le =
    let one : suc i ≡ i + 1 = omega arith in
    subst (λ n. map (λ j. get_or xs j d) (range_with_len 0 n) ≡ take n xs) (sym one)
    (map-range_with_len_more (λ j. get_or xs j d) 0 i i (omega arith)
    ∙ ap (λ (l : List X). l ++ get_or xs i d ∷ []) (firsts xs d i (omega arith))
    ∙ sym (take_more xs i d (omega arith)))

pub cells_again : (c : List (List ℕ)) (r : ℕ) → length c ≡ r → map (λ i. get_or c i []) (range_with_len 0 r) ≡ c
cells_again c r e = firsts c [] r (omega arith) ∙ take_all r c (omega arith)

-- ---- cells that passed the test of texts

both_none : (a b : Option ℕ) → or_else a b ≡ None → (a ≡ None) × (b ≡ None)
both_none (Some i) b e = absurd cc
both_none None b e = (refl, e)

-- a cell as a key of this type has it
abbrev pub Good : KeyType → List ℕ → Type 0
Good kind.Int cell = length cell ≡ 8
Good kind.Text cell = IsTrue (is_key_text cell)

head_same : (x y : ℕ) (xs ys : List ℕ) → x ∷ xs ≡ y ∷ ys → x ≡ y
head_same x y xs ys e = cc

tail_same : (x y : ℕ) (xs ys : List ℕ) → x ∷ xs ≡ y ∷ ys → xs ≡ ys
tail_same x y xs ys e = cc

pub all_of_size : (n : ℕ) (cells : List (List ℕ)) → map length cells ≡ replicate (length cells) n → AllByRecursion (λ (cell : List ℕ). length cell ≡ n) cells
all_of_size n [] e = tt
all_of_size n (c ∷ cells) e = (head_same (length c) n (map length cells) (replicate (length cells) n) e, all_of_size n cells (tail_same (length c) n (map length cells) (replicate (length cells) n) e))

pub either : (b : Bool) → (b ≡ true) ⊎ (b ≡ false)
either true = inl refl
either false = inr refl

passed : {X : Type 0} (q : X → Bool) (xs : List X) → length xs ≤ prefix_len q xs → AllByRecursion (λ x. q x ≡ true) xs
passed q [] le = tt
passed q (x ∷ xs) le = elim (either (q x)) [
  | inl t ↦ (t, passed q xs (omega (arith, ap (λ b. cond b (1 + prefix_len q xs) 0) t)))
  | inr f ↦ absurd (omega (arith, ap (λ b. cond b (1 + prefix_len q xs) 0) f))
]

nowhere : {X : Type 0} (p : X → Bool) (xs : List X) → position p xs ≡ None → length xs ≤ position_or_len p xs
nowhere p xs e = grind (arith, common_steps)

twice : (b : Bool) → not (not b) ≡ true → b ≡ true
twice true e = refl
twice false e = absurd cc

pub all_good : (k : KeyType) (c : List (List ℕ)) → AreCells k c → bad_column k c ≡ None → AllByRecursion (Good k) c
all_good kind.Int c are none = all_of_size 8 c are
all_good kind.Text c are none =
    each_so (λ (cell : List ℕ). not (not (is_key_text cell)) ≡ true) (Good kind.Text) c (λ cell t. twice (is_key_text cell) t)
    (passed (λ cell. not (not (is_key_text cell))) c (nowhere (λ cell. not (is_key_text cell)) c none))

-- what holds of each cell holds of the cell of each row
pub by_rows : {X Y : Type 0} (P : Y → Type 0) (g : X → Y) (is : List X) → AllByRecursion P (map g is) → AllByRecursion (λ i. P (g i)) is
by_rows P g [] all = tt
by_rows P g (i ∷ is) all = (all.0, by_rows P g is all.1)

-- Columns of good cells, by rows.
abbrev pub AreGood : ℕ → List KeyType → List (List (List ℕ)) → Type 0
AreGood r [] [] = Unit {0}
AreGood r [] (c ∷ cs) = ⊥
AreGood r (k ∷ kinds) [] = ⊥
AreGood r (k ∷ kinds) (c ∷ cs) = (map (λ i. get_or c i []) (range_with_len 0 r) ≡ c) × (AllByRecursion (λ i. Good k (get_or c i [])) (range_with_len 0 r) × AreGood r kinds cs)

pub are_good : (r : ℕ) (kinds : List KeyType) (cs : List (List (List ℕ))) → AreRead r kinds cs → bad_text kinds cs ≡ None → AreGood r kinds cs
unfolding bad_text
are_good r [] [] are none = tt
are_good r [] (c ∷ cs) are none = absurd are
are_good r (k ∷ kinds) [] are none = absurd are
are_good r (k ∷ kinds) (c ∷ cs) are none =
    let n = both_none (bad_column k c) (bad_text kinds cs) none in
    let again = cells_again c r are.0 in
    (again, (by_rows (Good k) (λ i. get_or c i []) (range_with_len 0 r) (subst (AllByRecursion (Good k)) (sym again) (all_good k c are.1.0 n.0)), are_good r kinds cs are.1.1 n.1))

-- a text has no zero byte
neither : (a b : Bool) → not (a || b) ≡ true → (a ≡ false) × (not b ≡ true)
neither true b e = absurd cc
neither false b e = (refl, e)

not_zero : (b : ℕ) → (b == 0) ≡ false → b ≢ 0
not_zero b e z = let t = eq-eqb b 0 z in absurd cc

no_zeros : (cell : List ℕ) → not (list_any (λ b. b == 0) cell) ≡ true → NoZero cell
no_zeros [] e = tt
no_zeros (b ∷ cell) e = let n = neither (b == 0) (list_any (λ b. b == 0) cell) e in (not_zero b n.0, no_zeros cell n.1)

pub is_cell : (k : KeyType) (cell : List ℕ) → Good k cell → IsCell k cell
is_cell kind.Int cell good = good
is_cell kind.Text cell good =
    let p = both (nat_le (length cell) 255 && not (list_any (λ b. b == 0) cell)) (is_utf8 cell) good in
    no_zeros cell (both (nat_le (length cell) 255) (not (list_any (λ b. b == 0) cell)) p.0).1

pub are_columns : (r : ℕ) (kinds : List KeyType) (cs : List (List (List ℕ))) → AreGood r kinds cs → AreColumns r kinds cs
are_columns r [] [] are = tt
are_columns r [] (c ∷ cs) are = absurd are
are_columns r (k ∷ kinds) [] are = absurd are
are_columns r (k ∷ kinds) (c ∷ cs) are =
    (are.0, (each_so (λ i. Good k (get_or c i [])) (λ i. IsCell k (get_or c i [])) (range_with_len 0 r) (λ i good. is_cell k (get_or c i []) good) are.1.0, are_columns r kinds cs are.1.1))

-- the key columns of the rows that were made are the columns that were read
pub keys_found : (r : ℕ) (kinds : List KeyType) (cs : List (List (List ℕ))) → AreRead r kinds cs → bad_text kinds cs ≡ None → columns kinds (map (key_at kinds cs) (range_with_len 0 r)) ≡ laid kinds cs
keys_found r kinds cs are none = columns_of_keys r kinds cs (are_columns r kinds cs (are_good r kinds cs are none))

some_not : (i : ℕ) → Some i ≡ None → ⊥
some_not i e = cc

-- keys rise where no row is out of order
pub rises : (rows : List Row) (i : ℕ) → out_of_order rows i ≡ None → Rise (map key_of rows)
unfolding out_of_order
rises [] i e = tt
rises (a ∷ []) i e = tt
rises (a ∷ b ∷ rows) i e = elim (either (is_less (byte_cmp a.key b.key))) [
  | inl t ↦ (less_is (byte_cmp a.key b.key) t, rises (b ∷ rows) (i + 1) (sym (ap (λ x. cond x (out_of_order (b ∷ rows) (i + 1)) (Some (i + 1))) t) ∙ e))
  | inr f ↦ absurd (some_not (i + 1) (sym (ap (λ x. cond x (out_of_order (b ∷ rows) (i + 1)) (Some (i + 1))) f) ∙ e))
]
