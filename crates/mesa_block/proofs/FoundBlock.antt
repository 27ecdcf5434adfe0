-- What is read makes a block, and the bytes are its spelling.
use Rattle.std.proofs.Common.{◌≡◌, ℕ, zero, suc, ◌<◌, ◌≤◌, List, [], ◌∷◌, ◌++◌, length, map, drop, get_or, Result, Ok, Err, refl, sym, ap, subst, ◌∙◌, arith, Bool, true, false, append-nil, append_assoc}
use Rattle.std.specs.List.{concat}
use Rattle.std.specs.Prelude.{Option, Some, None, replicate, nat_lt, ◌==◌, ⊤}
use Rattle.std.proofs.lemmas.Bool.{eqb-true, ltb-false}
use Rattle.mesa_list.specs.Checks.{◌>>=◌, ◌>>◌, refuse_if, refuse_unless}
use Rattle.mesa_columns.specs.mesa_key.declared.KeyType.{KeyType}
use Rattle.mesa_columns.specs.declared.rows.Row.{Row}
use Rattle.mesa_columns.specs.Columns.{kinds_of}
use Rattle.mesa_block.specs.declared.layout.Width.{Width}
use Rattle.mesa_block.specs.Layout.{Layout, size_of, widths_of}
use Rattle.mesa_block.specs.declared.error.BlockError.{BlockError}
use Rattle.mesa_block.specs.declared.error.BlockError.TheVariants as fault
use Rattle.mesa_block.specs.Reading.{bad_text, block_at, checked, cells_at, columns_at, count_of, many, out_of_order, refused_at, rows_at, rows_of, value_columns_at}
use Rattle.mesa_block.specs.Rows.{most_bytes, most_rows}
use Rattle.mesa_block.proofs.Takes.{bind_ok, cells_take, columns_take, laid, ok_is}
use Rattle.mesa_block.proofs.Found.{AreRead, columns_read}
use Rattle.mesa_block.proofs.FoundValues.{cells_laid}

-- the value of a check that passed, and of what came after it
passed_check : {A : Type 0} (r : Result ⊤ BlockError) (next : Result A BlockError) (y : A) → (r >> next) ≡ Ok y → (r ≡ Ok tt) × (next ≡ Ok y)
passed_check (Ok tt) next y e = (refl, e)
passed_check (Err d) next y e = absurd cc

none_refused : (f : ℕ → BlockError) (o : Option ℕ) → refused_at f o ≡ Ok tt → o ≡ None
none_refused f None e = refl
none_refused f (Some i) e = absurd cc

unless_passed : (b : Bool) (d : BlockError) → refuse_unless b d ≡ Ok tt → b ≡ true
unless_passed true d e = refl
unless_passed false d e = absurd cc

pub if_passed : (b : Bool) (d : BlockError) → refuse_if b d ≡ Ok tt → b ≡ false
if_passed true d e = absurd cc
if_passed false d e = refl

-- what holds of rows that passed the checks
pub record IsChecked (kinds : List KeyType) (ws : List Width) (keys values : List (List (List ℕ))) (r : ℕ) (left : List ℕ) (rows : List Row) : Type 0 where
  pub texts : bad_text kinds keys ≡ None
  pub order : out_of_order (rows_of kinds ws keys values r) 0 ≡ None
  pub none : (length left == 0) ≡ true
  pub same : rows_of kinds ws keys values r ≡ rows

pub is_checked : (kinds : List KeyType) (ws : List Width) (keys values : List (List (List ℕ))) (r : ℕ) (left : List ℕ) (rows : List Row) → checked kinds ws keys values r left ≡ Ok rows → IsChecked kinds ws keys values r left rows
unfolding checked
is_checked kinds ws keys values r left rows e =
    let a = passed_check (refused_at fault.BadText (bad_text kinds keys)) (refused_at fault.OutOfOrder (out_of_order (rows_of kinds ws keys values r) 0) >> (refuse_unless (length left == 0) fault.Trailing >> Ok (rows_of kinds ws keys values r))) rows e in
    let b = passed_check (refused_at fault.OutOfOrder (out_of_order (rows_of kinds ws keys values r) 0)) (refuse_unless (length left == 0) fault.Trailing >> Ok (rows_of kinds ws keys values r)) rows a.1 in
    let c = passed_check (refuse_unless (length left == 0) fault.Trailing) (Ok (rows_of kinds ws keys values r)) rows b.1 in
    record {
      texts = none_refused fault.BadText (bad_text kinds keys) a.0;
      order = none_refused fault.OutOfOrder (out_of_order (rows_of kinds ws keys values r) 0) b.0;
      none = unless_passed (length left == 0) fault.Trailing c.0;
      same = ok_is (rows_of kinds ws keys values r) rows c.1;
    }

-- value columns that were read have r cells each, of their size
abbrev pub AreSized : ℕ → List Width → List (List (List ℕ)) → Type 0
AreSized r [] [] = Unit {0}
AreSized r [] (c ∷ cs) = ⊥
AreSized r (w ∷ ws) [] = ⊥
AreSized r (w ∷ ws) (c ∷ cs) = (length c ≡ r) × ((map length c ≡ replicate (length c) (size_of w)) × AreSized r ws cs)

record AreLaid (r : ℕ) (ws : List Width) (bytes : List ℕ) (cs : List (List (List ℕ))) (rest : List ℕ) : Type 0 where
  parts : bytes ≡ cells_laid cs ++ rest
  sized : AreSized r ws cs

values_take : (ws : List Width) (r : ℕ) (bytes : List ℕ) (x : List (List (List ℕ)) × List ℕ) → value_columns_at ws r bytes ≡ Ok x → AreLaid r ws bytes x.0 x.1
unfolding many
values_take [] r bytes x e = subst (λ (y : List (List (List ℕ)) × List ℕ). AreLaid r [] bytes y.0 y.1) (ok_is ([], bytes) x e) (record { parts = refl; sized = tt })
values_take (w ∷ ws) r bytes x e =
    let a = bind_ok (cells_at w r bytes) (λ first. value_columns_at ws r first.1 >>= λ others. Ok (first.0 ∷ others.0, others.1)) x e in
    let b = bind_ok (value_columns_at ws r a.0.1) (λ others. Ok (a.0.0 ∷ others.0, others.1)) x a.2 in
    let first = cells_take (size_of w) r bytes a.0 a.1 in
    let second = values_take ws r a.0.1 b.0 b.1 in
    let made : List (List (List ℕ)) × List ℕ = (a.0.0 ∷ b.0.0, b.0.1) in
    subst (λ (y : List (List (List ℕ)) × List ℕ). AreLaid r (w ∷ ws) bytes y.0 y.1) (ok_is made x b.2) (record {
      parts = first.parts ∙ ap (λ (t : List ℕ). concat a.0.0 ++ t) second.parts ∙ sym (append_assoc (concat a.0.0) (cells_laid b.0.0) b.0.1);
      sized = (first.count, (first.sizes, second.sized));
    })

-- what of a block's bytes was read as what
pub record IsTaken (s : Layout) (r : ℕ) (bytes : List ℕ) (rows : List Row) : Type 0 where
  pub keys : List (List (List ℕ))
  pub values : List (List (List ℕ))
  pub parts : bytes ≡ laid (kinds_of s.columns) keys ++ cells_laid values
  pub keys_read : AreRead r (kinds_of s.columns) keys
  pub values_read : AreSized r (widths_of s) values
  pub texts : bad_text (kinds_of s.columns) keys ≡ None
  pub order : out_of_order rows 0 ≡ None
  pub same : rows_of (kinds_of s.columns) (widths_of s) keys values r ≡ rows

nothing : (bytes : List ℕ) → (length bytes == 0) ≡ true → bytes ≡ []
nothing [] e = refl
nothing (b ∷ bytes) e = absurd (omega (arith, eqb-true (length (b ∷ bytes)) 0 e))

pub rows_taken : (s : Layout) (r : ℕ) (bytes : List ℕ) (rows : List Row) → rows_at s r bytes ≡ Ok rows → IsTaken s r bytes rows
unfolding rows_at
rows_taken s r bytes rows e =
    let kinds = kinds_of s.columns in
    let ws = widths_of s in
    let h = bind_ok (columns_at kinds r bytes) (λ keys. value_columns_at ws r keys.1 >>= λ values. checked kinds ws keys.0 values.0 r values.1) rows e in
    let i = bind_ok (value_columns_at ws r h.0.1) (λ values. checked kinds ws h.0.0 values.0 r values.1) rows h.2 in
    let c = is_checked kinds ws h.0.0 i.0.0 r i.0.1 rows i.2 in
    let left : i.0.1 ≡ [] = nothing i.0.1 c.none in
    let took = values_take ws r h.0.1 i.0 i.1 in
    record {
      keys = h.0.0;
      values = i.0.0;
      parts = columns_take kinds r bytes h.0 h.1 ∙ ap (λ (l : List ℕ). laid kinds h.0.0 ++ l) (took.parts ∙ ap (λ (l : List ℕ). cells_laid i.0.0 ++ l) left ∙ append-nil (cells_laid i.0.0));
      keys_read = columns_read kinds r bytes h.0 h.1;
      values_read = took.sized;
      texts = c.texts;
      order = subst (λ rs. out_of_order rs 0 ≡ None) c.same c.order;
      same = c.same;
    }

-- what of the whole bytes was read as what
pub record IsWhole (s : Layout) (bytes : List ℕ) (rows : List Row) : Type 0 where
  pub long : 3 ≤ length bytes
  pub flag : get_or bytes 0 0 ≡ 0
  pub few : count_of bytes ≤ most_rows
  pub some : 0 < count_of bytes
  pub short : length bytes ≤ most_bytes
  pub taken : IsTaken s (count_of bytes) (drop 3 bytes) rows

not_none : (n : ℕ) → (n == 0) ≡ false → 0 < n
not_none zero e = absurd cc
not_none (suc n) e = omega arith

pub block_whole : (s : Layout) (bytes : List ℕ) (rows : List Row) → block_at s bytes ≡ Ok rows → IsWhole s bytes rows
unfolding block_at
block_whole s bytes rows e =
    let r = count_of bytes in
    let last = λ (rs : List Row). refuse_if (nat_lt most_bytes (length bytes)) fault.Trailing >> Ok rs in
    let body = rows_at s r (drop 3 bytes) >>= last in
    let a = passed_check (refuse_if (nat_lt (length bytes) 3) fault.Truncated) (refuse_unless (get_or bytes 0 0 == 0) fault.Compressed >> (refuse_if (nat_lt most_rows r) fault.BadCount >> (refuse_if (r == 0) fault.BadCount >> body))) rows e in
    let b = passed_check (refuse_unless (get_or bytes 0 0 == 0) fault.Compressed) (refuse_if (nat_lt most_rows r) fault.BadCount >> (refuse_if (r == 0) fault.BadCount >> body)) rows a.1 in
    let c = passed_check (refuse_if (nat_lt most_rows r) fault.BadCount) (refuse_if (r == 0) fault.BadCount >> body) rows b.1 in
    let d = passed_check (refuse_if (r == 0) fault.BadCount) body rows c.1 in
    let f = bind_ok (rows_at s r (drop 3 bytes)) last rows d.1 in
    let g = passed_check (refuse_if (nat_lt most_bytes (length bytes)) fault.Trailing) (Ok f.0) rows f.2 in
    record {
      long = ltb-false _ _ (if_passed (nat_lt (length bytes) 3) fault.Truncated a.0);
      flag = eqb-true _ _ (unless_passed (get_or bytes 0 0 == 0) fault.Compressed b.0);
      few = ltb-false _ _ (if_passed (nat_lt most_rows r) fault.BadCount c.0);
      some = not_none r (if_passed (r == 0) fault.BadCount d.0);
      short = ltb-false _ _ (if_passed (nat_lt most_bytes (length bytes)) fault.Trailing g.0);
      taken = subst (IsTaken s r (drop 3 bytes)) (ok_is f.0 rows g.1) (rows_taken s r (drop 3 bytes) f.0 f.1);
    }

-- a fault of columns that were read
pub rows_fault : (s : Layout) (r : ℕ) (bytes : List ℕ) (kinds : List KeyType) (ws : List Width) (keys values : List (List (List ℕ))) (after left : List ℕ) (e : BlockError) → kinds ≡ kinds_of s.columns → ws ≡ widths_of s
    → columns_at kinds r bytes ≡ Ok (keys, after) → value_columns_at ws r after ≡ Ok (values, left) → checked kinds ws keys values r left ≡ Err e → rows_at s r bytes ≡ Err e
unfolding rows_at
rows_fault s r bytes kinds ws keys values after left e k i a b c =
    let a2 : columns_at (kinds_of s.columns) r bytes ≡ Ok (keys, after) = subst (λ ks. columns_at ks r bytes ≡ Ok (keys, after)) k a in
    let b2 : value_columns_at (widths_of s) r after ≡ Ok (values, left) = subst (λ (ws : List Width). value_columns_at ws r after ≡ Ok (values, left)) i b in
    let c2 : checked (kinds_of s.columns) (widths_of s) keys values r left ≡ Err e =
    subst (λ (ws : List Width). checked (kinds_of s.columns) ws keys values r left ≡ Err e) i (subst (λ ks. checked ks ws keys values r left ≡ Err e) k c) in
    rw (a2, b2) c2
