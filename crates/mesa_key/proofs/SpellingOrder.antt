-- The bytes of keys have the order of the keys.
use Rattle.std.proofs.Common.{◌≡◌, ℕ, ◌%◌, ◌^◌, ◌<◌, ℤ, pos, ◌+ℤ◌, List, [], ◌∷◌, ◌++◌, refl, sym, ◌∙◌, ap, arith, append_assoc, true, false}
use Rattle.std.specs.Prelude.{◌==◌, ◌||◌, nat_abs, FitsSigned}
use Rattle.std.specs.List.{list_any}
use Rattle.std.specs.Ordering.{nat_cmp, int_cmp, ordering_then, MatchOrdering}
use Rattle.std.specs.declared.cmp.Ordering.TheVariants.{Less, Equal, Greater}
use Rattle.std.specs.Cmp.{nat_cmp_is}
use Rattle.std.specs.Int.{w64}
use Rattle.std.proofs.lemmas.Bool.{eqb-false}
use Rattle.std.proofs.lemmas.Cmp.{int_ranked}
use Rattle.std.proofs.lemmas.Int.{ints}
use Rattle.mesa_key.specs.declared.KeyValue.{KeyValue}
use Rattle.mesa_key.specs.declared.KeyValue.TheVariants as value
use Rattle.mesa_key.specs.declared.KeyType.{KeyType}
use Rattle.mesa_key.specs.declared.KeyType.TheVariants as kind
use Rattle.mesa_key.specs.Order.{byte_cmp, key_cmp, value_cmp}
use Rattle.mesa_key.specs.Spelling.{IsKey, IsValue, int_spelling, key_spelling, value_spelling}
use Rattle.mesa_key.proofs.Columns.{raised-is, text_zeros}
use Rattle.mesa_key.proofs.IntOrder.{bytes_order}
use Rattle.mesa_key.proofs.KeyOrder.{NoZero, byte_cmp-long, byte_cmp-texts, then_assoc}

-- numbers moved up keep their order
raised-cmp : (a b : ℤ) (m n : ℕ) → pos m ≡ a +ℤ pos (2 ^ 63) → pos n ≡ b +ℤ pos (2 ^ 63) → int_cmp a b ≡ nat_cmp m n
raised-cmp a b m n e f = nat_cmp_is m n (int_cmp a b) (elim (int_cmp a b) as (λ o. o ≡ int_cmp a b → MatchOrdering o (m < n) (m ≡ n) (n < m)) [
  | Less ↦ λ r. let h = int_ranked a b Less r in omega (arith, ints, h)
  | Equal ↦ λ r. let h = int_ranked a b Equal r in omega (arith, ints, h)
  | Greater ↦ λ r. let h = int_ranked a b Greater r in omega (arith, ints, h)
] refl)

int_order : (a b : ℤ) → FitsSigned w64 a → FitsSigned w64 b → byte_cmp (int_spelling a) (int_spelling b) ≡ int_cmp a b
int_order a b f g =
    let up = raised-is a f in
    let up2 = raised-is b g in
    let m : ℕ = nat_abs (a +ℤ pos (2 ^ 63)) in
    let n : ℕ = nat_abs (b +ℤ pos (2 ^ 63)) in
    let same : m % 256 ^ 8 ≡ m = omega (arith, up.1) in
    let same2 : n % 256 ^ 8 ≡ n = omega (arith, up2.1) in
    bytes_order 8 m n ∙ ap (λ x. nat_cmp x (n % 256 ^ 8)) same ∙ ap (λ x. nat_cmp m x) same2 ∙ sym (raised-cmp a b m n up.0 up2.0)

pub no_zeros : (bytes : List ℕ) → list_any (λ b. b == 0) bytes ≡ false → NoZero bytes
no_zeros [] h = tt
no_zeros (b ∷ bytes) h = elim (b == 0) as (λ t. (b == 0) ≡ t → (t || list_any (λ x. x == 0) bytes) ≡ false → NoZero (b ∷ bytes)) [
  | true ↦ λ e f. cc
  | false ↦ λ e f. (let some : b ≡ 0 → ⊥ = eqb-false b 0 e in omega arith, no_zeros bytes f)
] refl h

-- two values' bytes decide before what follows them
value_order : (kind : KeyType) (x y : KeyValue) (s t : List ℕ) → IsValue kind x → IsValue kind y
    → byte_cmp (value_spelling x ++ s) (value_spelling y ++ t) ≡ ordering_then (value_cmp x y) (byte_cmp s t)
value_order kind.Int (value.Int a) (value.Int b) s t f g = byte_cmp-long (int_spelling a) (int_spelling b) s t refl ∙ ap (λ o. ordering_then o (byte_cmp s t)) (int_order a b f g)
value_order kind.Int (value.Int a) (value.Text b) s t f g = absurd g
value_order kind.Int (value.Text a) y s t f g = absurd f
value_order kind.Text (value.Int a) y s t f g = absurd f
value_order kind.Text (value.Text a) (value.Int b) s t f g = absurd g
value_order kind.Text (value.Text a) (value.Text b) s t f g =
    ap (λ xs. byte_cmp xs ((b ++ 0 ∷ []) ++ t)) (append_assoc a (0 ∷ []) s) ∙ ap (byte_cmp (a ++ 0 ∷ s)) (append_assoc b (0 ∷ []) t)
    ∙ byte_cmp-texts a b s t (no_zeros a (text_zeros a f)) (no_zeros b (text_zeros b g))

pub spelling_order : (types : List KeyType) (a b : List KeyValue) → IsKey types a → IsKey types b → byte_cmp (key_spelling a) (key_spelling b) ≡ key_cmp a b
spelling_order [] [] [] f g = refl
spelling_order [] [] (y ∷ b) f g = absurd g
spelling_order [] (x ∷ a) b f g = absurd f
spelling_order (kind ∷ types) [] b f g = absurd f
spelling_order (kind ∷ types) (x ∷ a) [] f g = absurd g
spelling_order (kind ∷ types) (x ∷ a) (y ∷ b) f g = value_order kind x y (key_spelling a) (key_spelling b) f.0 g.0 ∙ ap (ordering_then (value_cmp x y)) (spelling_order types a b f.1 g.1)

-- Keys decide before what follows their bytes.
pub spelling_order_then : (types : List KeyType) (a b : List KeyValue) (s t : List ℕ) → IsKey types a → IsKey types b → byte_cmp (key_spelling a ++ s) (key_spelling b ++ t) ≡ ordering_then (key_cmp a b) (byte_cmp s t)
spelling_order_then [] [] [] s t f g = refl
spelling_order_then [] [] (y ∷ b) s t f g = absurd g
spelling_order_then [] (x ∷ a) b s t f g = absurd f
spelling_order_then (kind ∷ types) [] b s t f g = absurd f
spelling_order_then (kind ∷ types) (x ∷ a) [] s t f g = absurd g
spelling_order_then (kind ∷ types) (x ∷ a) (y ∷ b) s t f g =
    (λ i. byte_cmp (append_assoc (value_spelling x) (key_spelling a) s i) (append_assoc (value_spelling y) (key_spelling b) t i))
    ∙ value_order kind x y (key_spelling a ++ s) (key_spelling b ++ t) f.0 g.0
    ∙ ap (ordering_then (value_cmp x y)) (spelling_order_then types a b s t f.1 g.1)
    ∙ then_assoc (value_cmp x y) (key_cmp a b) (byte_cmp s t)
