-- What is read of columns is spelled so, and what is spelled so is read.
use Rattle.std.proofs.Common.{◌≡◌, ℕ, List, [], ◌∷◌, ◌++◌, length, map, take, drop, Result, Ok, Err, refl, sym, ap, subst, ◌∙◌, append_assoc, arith, Bool, true, false, cond, ltb}
use Rattle.std.specs.Prelude.{replicate}
use Rattle.std.specs.List.{concat}
use Rattle.std.proofs.lemmas.List.{take-append-drop, length-take, length-append, take_at, drop_at, length-map, length-replicate}
use Rattle.std.proofs.lemmas.Bool.{ltb-false, le-ltb}
use Rattle.mesa_list.specs.Checks.{◌>>=◌}
use Rattle.mesa_columns.specs.mesa_key.declared.KeyType.{KeyType}
use Rattle.mesa_columns.specs.mesa_key.declared.KeyType.TheVariants as kind
use Rattle.mesa_block.specs.declared.error.BlockError.{BlockError}
use Rattle.mesa_block.specs.declared.error.BlockError.TheVariants.{Truncated}
use Rattle.mesa_block.specs.Spelling.{column}
use Rattle.mesa_block.specs.Reading.{many, piece_at, pieces_at, column_at, columns_at}

-- the value of a step that did not fail
pub bind_ok : {A B : Type 0} (r : Result A BlockError) (f : A → Result B BlockError) (y : B) → (r >>= f) ≡ Ok y → (x : A) × (r ≡ Ok x) × (f x ≡ Ok y)
bind_ok (Ok x) f y e = (x, refl, e)
bind_ok (Err d) f y e = absurd cc

pub guard_ok : {A : Type 0} (b : Bool) (d : BlockError) (x y : A) → cond b (Err d) (Ok x) ≡ Ok y → (b ≡ false) × (x ≡ y)
guard_ok true d x y e = absurd cc
guard_ok false d x y e = (refl, cc)

abbrev done : {A : Type 0} → A → Result A BlockError
done x = Ok x

pub ok_is : {A : Type 0} (x y : A) → done x ≡ done y → x ≡ y
ok_is x y e = cc

-- bytes that were taken from the front
pub record Cut (bytes text rest : List ℕ) (n : ℕ) : Type 0 where
  pub parts : bytes ≡ text ++ rest
  pub len : length text ≡ n

pub piece_takes : (n : ℕ) (bytes : List ℕ) (x : List ℕ × List ℕ) → piece_at n bytes ≡ Ok x → Cut bytes x.0 x.1 n
piece_takes n bytes x e =
    let g = guard_ok (ltb (length bytes) n) Truncated (take n bytes, drop n bytes) x e in
    let le = ltb-false _ _ g.0 in
    subst (λ (y : List ℕ × List ℕ). Cut bytes y.0 y.1 n) g.1 (record { parts = sym (take-append-drop n bytes); len = omega (arith, length-take n bytes) })

-- bytes that were cut into cells of these lengths
pub record Pieces (lengths bytes : List ℕ) (cells : List (List ℕ)) (rest : List ℕ) : Type 0 where
  pub parts : bytes ≡ concat cells ++ rest
  pub lens : map length cells ≡ lengths

pub pieces_take : (lengths bytes : List ℕ) (x : List (List ℕ) × List ℕ) → many piece_at lengths bytes ≡ Ok x → Pieces lengths bytes x.0 x.1
unfolding many
pieces_take [] bytes x e = subst (λ (y : List (List ℕ) × List ℕ). Pieces [] bytes y.0 y.1) (ok_is ([], bytes) x e) (record { parts = refl; lens = refl })
pieces_take (n ∷ lengths) bytes x e =
    let a = bind_ok (piece_at n bytes) (λ first. many piece_at lengths first.1 >>= λ others. Ok (first.0 ∷ others.0, others.1)) x e in
    let b = bind_ok (many piece_at lengths a.0.1) (λ others. Ok (a.0.0 ∷ others.0, others.1)) x a.2 in
    let first = piece_takes n bytes a.0 a.1 in
    let second = pieces_take lengths a.0.1 b.0 b.1 in
    let made : List (List ℕ) × List ℕ = (a.0.0 ∷ b.0.0, b.0.1) in
    subst (λ (y : List (List ℕ) × List ℕ). Pieces (n ∷ lengths) bytes y.0 y.1) (ok_is made x b.2) (record {
      parts = first.parts ∙ ap (λ (t : List ℕ). a.0.0 ++ t) second.parts ∙ sym (append_assoc a.0.0 (concat b.0.0) b.0.1);
      lens = ap (λ (m : ℕ). m ∷ map length b.0.0) first.len ∙ ap (λ (l : List ℕ). n ∷ l) second.lens;
    })

-- a column's cells: ints have eight bytes
abbrev pub AreCells : KeyType → List (List ℕ) → Type 0
AreCells kind.Int cells = map length cells ≡ replicate (length cells) 8
AreCells kind.Text cells = Unit {0}

-- bytes that were read as a column of r cells
pub record IsColumn (k : KeyType) (r : ℕ) (bytes : List ℕ) (cells : List (List ℕ)) (rest : List ℕ) : Type 0 where
  pub parts : bytes ≡ column k cells ++ rest
  pub count : length cells ≡ r
  pub ints : AreCells k cells

pub column_takes : (k : KeyType) (r : ℕ) (bytes : List ℕ) (x : List (List ℕ) × List ℕ) → column_at k r bytes ≡ Ok x → IsColumn k r bytes x.0 x.1
unfolding column_at
column_takes kind.Int r bytes x e =
    let p = pieces_take (replicate r 8) bytes x e in
    let count : length x.0 ≡ r = sym (length-map x.0 length) ∙ ap length p.lens ∙ length-replicate r 8 in
    record { parts = p.parts; count = count; ints = p.lens ∙ ap (λ n. replicate n 8) (sym count) }
column_takes kind.Text r bytes x e =
    let a = bind_ok (piece_at r bytes) (λ lengths. many piece_at lengths.0 lengths.1) x e in
    let first = piece_takes r bytes a.0 a.1 in
    let p = pieces_take a.0.0 a.0.1 x a.2 in
    record {
      parts = first.parts ∙ ap (λ (t : List ℕ). a.0.0 ++ t) p.parts ∙ sym (append_assoc a.0.0 (concat x.0) x.1) ∙ ap (λ (l : List ℕ). (l ++ concat x.0) ++ x.1) (sym p.lens);
      count = sym (length-map x.0 length) ∙ ap length p.lens ∙ first.len;
      ints = tt;
    }

-- columns laid one after the other
abbrev pub laid : List KeyType → List (List (List ℕ)) → List ℕ
laid [] cs = []
laid (k ∷ kinds) [] = []
laid (k ∷ kinds) (c ∷ cs) = column k c ++ laid kinds cs

pub columns_take : (kinds : List KeyType) (r : ℕ) (bytes : List ℕ) (x : List (List (List ℕ)) × List ℕ) → columns_at kinds r bytes ≡ Ok x → bytes ≡ laid kinds x.0 ++ x.1
unfolding many
columns_take [] r bytes x e = subst (λ (y : List (List (List ℕ)) × List ℕ). bytes ≡ laid [] y.0 ++ y.1) (ok_is ([], bytes) x e) refl
columns_take (k ∷ kinds) r bytes x e =
    let a = bind_ok (column_at k r bytes) (λ first. columns_at kinds r first.1 >>= λ others. Ok (first.0 ∷ others.0, others.1)) x e in
    let b = bind_ok (columns_at kinds r a.0.1) (λ others. Ok (a.0.0 ∷ others.0, others.1)) x a.2 in
    let first = column_takes k r bytes a.0 a.1 in
    let second = columns_take kinds r a.0.1 b.0 b.1 in
    let made : List (List (List ℕ)) × List ℕ = (a.0.0 ∷ b.0.0, b.0.1) in
    subst (λ (y : List (List (List ℕ)) × List ℕ). bytes ≡ laid (k ∷ kinds) y.0 ++ y.1) (ok_is made x b.2)
    (first.parts ∙ ap (λ (t : List ℕ). column k a.0.0 ++ t) second ∙ sym (append_assoc (column k a.0.0) (laid kinds b.0.0) b.0.1))

-- cells that were read, of one size
pub record AreCut (n r : ℕ) (bytes : List ℕ) (cells : List (List ℕ)) (rest : List ℕ) : Type 0 where
  pub parts : bytes ≡ concat cells ++ rest
  pub count : length cells ≡ r
  pub sizes : map length cells ≡ replicate (length cells) n

pub cells_take : (n r : ℕ) (bytes : List ℕ) (x : List (List ℕ) × List ℕ) → pieces_at (replicate r n) bytes ≡ Ok x → AreCut n r bytes x.0 x.1
cells_take n r bytes x e =
    let p = pieces_take (replicate r n) bytes x e in
    let count : length x.0 ≡ r = sym (length-map x.0 length) ∙ ap length p.lens ∙ length-replicate r n in
    record { parts = p.parts; count = count; sizes = p.lens ∙ ap (λ m. replicate m n) (sym count) }

-- ---- what is spelled so is read

pub piece_again : (text rest : List ℕ) (n : ℕ) → length text ≡ n → piece_at n (text ++ rest) ≡ Ok (text, rest)
piece_again text rest n len =
    let long : ltb (length (text ++ rest)) n ≡ false = le-ltb _ _ (omega (arith, length-append text rest)) in
    rw (long, take_at text rest n len, drop_at text rest n len) refl

pub pieces_again : (cells : List (List ℕ)) (rest : List ℕ) → many piece_at (map length cells) (concat cells ++ rest) ≡ Ok (cells, rest)
unfolding many
pieces_again [] rest = refl
pieces_again (c ∷ cells) rest =
    ap (λ (t : List ℕ). many piece_at (length c ∷ map length cells) t) (append_assoc c (concat cells) rest) ∙ rw (piece_again c (concat cells ++ rest) (length c) refl, pieces_again cells rest) refl

pub column_again : (k : KeyType) (cells : List (List ℕ)) (rest : List ℕ) → AreCells k cells → column_at k (length cells) (column k cells ++ rest) ≡ Ok (cells, rest)
unfolding column_at
column_again kind.Int cells rest are = ap (λ (ls : List ℕ). many piece_at ls (concat cells ++ rest)) (sym are) ∙ pieces_again cells rest
column_again kind.Text cells rest are =
    let regrouped : column kind.Text cells ++ rest ≡ map length cells ++ (concat cells ++ rest) = append_assoc (map length cells) (concat cells) rest in
    ap (column_at kind.Text (length cells)) regrouped ∙ rw (piece_again (map length cells) (concat cells ++ rest) (length cells) (length-map cells length), pieces_again cells rest) refl
