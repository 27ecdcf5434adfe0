-- A place that is told is one of the rows.
use Rattle.std.proofs.Common.{◌≡◌, ◌⊎◌, inl, inr, ℕ, ◌+◌, ◌<◌, List, [], ◌∷◌, length, sym, ap, ◌∙◌, arith, cond}
use Rattle.std.specs.Prelude.{Option, Some, None, not}
use Rattle.std.specs.List.{AllByRecursion}
use Rattle.std.proofs.lemmas.List.Quantifiers.{position-Some}
use Rattle.mesa_columns.specs.mesa_key.declared.KeyType.{KeyType}
use Rattle.mesa_columns.specs.mesa_key.declared.KeyType.TheVariants as kind
use Rattle.mesa_columns.specs.mesa_key.Order.{byte_cmp}
use Rattle.mesa_columns.specs.mesa_key.Spelling.{is_key_text}
use Rattle.mesa_columns.specs.declared.rows.Row.{Row}
use Rattle.mesa_block.specs.Reading.{bad_column, bad_text, is_less, or_else, out_of_order}
use Rattle.mesa_block.proofs.Found.{either}

one_of : (a b : Option ℕ) (i : ℕ) → or_else a b ≡ Some i → (a ≡ Some i) ⊎ (b ≡ Some i)
one_of (Some j) b i e = inl e
one_of None b i e = inr e

bad_cell_small : (k : KeyType) (c : List (List ℕ)) (i : ℕ) → bad_column k c ≡ Some i → i < length c
bad_cell_small kind.Int c i e = absurd cc
bad_cell_small kind.Text c i e = (position-Some (λ cell. not (is_key_text cell)) c i [] e).0

pub bad_text_small : (kinds : List KeyType) (cs : List (List (List ℕ))) (r i : ℕ) → AllByRecursion (λ (c : List (List ℕ)). length c ≡ r) cs → Some i ≡ bad_text kinds cs → i < r
unfolding bad_text
bad_text_small [] cs r i all e = absurd cc
bad_text_small (k ∷ kinds) [] r i all e = absurd cc
bad_text_small (k ∷ kinds) (c ∷ cs) r i all e = elim (one_of (bad_column k c) (bad_text kinds cs) i (sym e)) [
  | inl here ↦ omega (arith, bad_cell_small k c i here, all.0)
  | inr later ↦ bad_text_small kinds cs r i all.1 (sym later)
]

same_some : (i j : ℕ) → Some i ≡ Some j → i ≡ j
same_some i j e = cc

pub order_small : (rows : List Row) (from i : ℕ) → Some i ≡ out_of_order rows from → i < from + length rows
unfolding out_of_order
order_small [] from i e = absurd cc
order_small (a ∷ []) from i e = absurd cc
order_small (a ∷ b ∷ rows) from i e = elim (either (is_less (byte_cmp a.key b.key))) [
  | inl t ↦ omega (arith, order_small (b ∷ rows) (from + 1) i (e ∙ ap (λ x. cond x (out_of_order (b ∷ rows) (from + 1)) (Some (from + 1))) t))
  | inr f ↦ omega (arith, same_some i (from + 1) (e ∙ ap (λ x. cond x (out_of_order (b ∷ rows) (from + 1)) (Some (from + 1))) f))
]
