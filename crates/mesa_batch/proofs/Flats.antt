-- Rows that stand flat.
use Rattle.std.proofs.Common.{◌≡◌, ℕ, zero, suc, ◌+◌, ◌<◌, ◌≤◌, ◌^◌, ℤ, List, [], ◌∷◌, ◌++◌, length, take, get_or, refl, sym, ◌∙◌, ap, arith, length-append}
use Rattle.std.specs.Prelude.{slice_range}
use Rattle.std.proofs.lemmas.List.{get_or_default}
use Rattle.std.proofs.Math.ListN.{get_or-eq_default}
use Rattle.mesa_list.specs.Pieces.{last_end, pieces}
use Rattle.mesa_list.proofs.Pieces.{count_of_pieces, last_end_push, piece_at, pieces_push, rise_push}
use Rattle.mesa_batch.specs.Batch.{Placed}
use Rattle.mesa_batch.specs.Flat.{AreFlat, flat_rows, placed_at}
use Rattle.mesa_batch.proofs.LoadedRows.{some_at}

pub flat-count : (ts : List ℕ) (ks : List (List ℕ)) (vs : List (List ℤ)) → length ks ≡ length ts → length vs ≡ length ts → length (flat_rows ts ks vs) ≡ length ts
flat-count [] ks vs e f = refl
flat-count (t ∷ ts) [] vs e f = absurd (omega arith)
flat-count (t ∷ ts) (k ∷ ks) [] e f = absurd (omega arith)
flat-count (t ∷ ts) (k ∷ ks) (v ∷ vs) e f = let rest : length (flat_rows ts ks vs) ≡ length ts = flat-count ts ks vs (omega (arith, e)) (omega (arith, f)) in omega arith

flat-push : (ts : List ℕ) (ks : List (List ℕ)) (vs : List (List ℤ)) (t : ℕ) (k : List ℕ) (v : List ℤ) → length ks ≡ length ts → length vs ≡ length ts
    → flat_rows (ts ++ t ∷ []) (ks ++ k ∷ []) (vs ++ v ∷ []) ≡ flat_rows ts ks vs ++ record { table = t; row = record { key = k; values = v } } ∷ []
flat-push [] [] [] t k v e f = refl
flat-push [] [] (w ∷ vs) t k v e f = absurd (omega arith)
flat-push [] (l ∷ ks) vs t k v e f = absurd (omega arith)
flat-push (s ∷ ts) [] vs t k v e f = absurd (omega arith)
flat-push (s ∷ ts) (l ∷ ks) [] t k v e f = absurd (omega arith)
flat-push (s ∷ ts) (l ∷ ks) (w ∷ vs) t k v e f = ap (λ rest. record { table = s; row = record { key = l; values = w } } ∷ rest) (flat-push ts ks vs t k v (omega (arith, e)) (omega (arith, f)))

flat-at : (ts : List ℕ) (ks : List (List ℕ)) (vs : List (List ℤ)) (i : ℕ) → length ks ≡ length ts → length vs ≡ length ts
    → placed_at (flat_rows ts ks vs) i ≡ record { table = get_or ts i 0; row = record { key = get_or ks i []; values = get_or vs i [] } }
flat-at [] [] [] i e f = refl
flat-at [] [] (w ∷ vs) i e f = absurd (omega arith)
flat-at [] (l ∷ ks) vs i e f = absurd (omega arith)
flat-at (s ∷ ts) [] vs i e f = absurd (omega arith)
flat-at (s ∷ ts) (l ∷ ks) [] i e f = absurd (omega arith)
flat-at (s ∷ ts) (l ∷ ks) (w ∷ vs) zero e f = refl
flat-at (s ∷ ts) (l ∷ ks) (w ∷ vs) (suc i) e f = flat-at ts ks vs i (omega (arith, e)) (omega (arith, f))

-- a row more stands flat
pub flat_more : (ts : List ℕ) (ks : List (List ℕ)) (values : List ℤ) (ends : List ℕ) (t : ℕ) (k : List ℕ) (more : List ℤ) (end : ℕ) → AreFlat ts ks values ends → end ≡ length values + length more → length ts + 1 < 2 ^ 32
    → AreFlat (ts ++ t ∷ []) (ks ++ k ∷ []) (values ++ more) (ends ++ end ∷ [])
flat_more ts ks values ends t k more end flat e few = record {
  keyed = omega (arith, flat.keyed, length-append ks (k ∷ []), length-append ts (t ∷ []));
  ended = omega (arith, flat.ended, length-append ends (end ∷ []), length-append ts (t ∷ []));
  rise = rise_push 0 ends end flat.rise (omega (arith, flat.whole, e));
  whole = last_end_push 0 ends end ∙ e ∙ sym (length-append values more);
  few = omega (arith, few, length-append ts (t ∷ []));
}

module _ (ts : List ℕ) (ks : List (List ℕ)) (values : List ℤ) (ends : List ℕ) (flat : AreFlat ts ks values ends) where
  as_many : length (pieces values 0 ends) ≡ length ts
  as_many = count_of_pieces values 0 ends ∙ flat.ended

  pub count_is : length (flat_rows ts ks (pieces values 0 ends)) ≡ length ts
  count_is = flat-count ts ks (pieces values 0 ends) flat.keyed as_many

  -- a row more
  pub row_pushed : (t : ℕ) (k : List ℕ) (more : List ℤ) (end : ℕ) → end ≡ length values + length more
      → flat_rows (ts ++ t ∷ []) (ks ++ k ∷ []) (pieces (values ++ more) 0 (ends ++ end ∷ [])) ≡ flat_rows ts ks (pieces values 0 ends) ++ record { table = t; row = record { key = k; values = more } } ∷ []
  row_pushed t k more end e = ap (flat_rows (ts ++ t ∷ []) (ks ++ k ∷ [])) (pieces_push values more 0 ends end flat.rise flat.whole e) ∙ flat-push ts ks (pieces values 0 ends) t k more flat.keyed as_many

  -- the row at a place
  pub table_is : (i : ℕ) → (placed_at (flat_rows ts ks (pieces values 0 ends)) i).table ≡ get_or ts i 0
  table_is i = ap (λ (p : Placed). p.table) (flat-at ts ks (pieces values 0 ends) i flat.keyed as_many)

  pub key_is : (i : ℕ) → (placed_at (flat_rows ts ks (pieces values 0 ends)) i).row.key ≡ get_or ks i []
  key_is i = ap (λ (p : Placed). p.row.key) (flat-at ts ks (pieces values 0 ends) i flat.keyed as_many)

  pub values_are : (i : ℕ) → i < length ends → (placed_at (flat_rows ts ks (pieces values 0 ends)) i).row.values ≡ slice_range values (last_end 0 (take i ends)) (get_or ends i 0)
  values_are i h = ap (λ (p : Placed). p.row.values) (flat-at ts ks (pieces values 0 ends) i flat.keyed as_many) ∙ at (some_at (pieces values 0 ends) i _ (piece_at values 0 ends i h))
    where
      at : {x : List ℤ} → (i < length (pieces values 0 ends)) × (x ≡ get_or (pieces values 0 ends) i x) → get_or (pieces values 0 ends) i [] ≡ x
      at {x} found = get_or_default (pieces values 0 ends) i [] x found.0 ∙ sym found.1

  pub no_values : (i : ℕ) → length ends ≤ i → (placed_at (flat_rows ts ks (pieces values 0 ends)) i).row.values ≡ []
  no_values i h = ap (λ (p : Placed). p.row.values) (flat-at ts ks (pieces values 0 ends) i flat.keyed as_many) ∙ get_or-eq_default (pieces values 0 ends) [] (omega (arith, h, count_of_pieces values 0 ends))
