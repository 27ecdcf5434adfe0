-- A value column less.
use Rattle.std.proofs.Common.{◌≡◌, ℕ, zero, suc, List, [], ◌∷◌, refl, sym, ◌∙◌, ap, length, arith, map}
use Rattle.std.specs.Prelude.{ℤ}
use Rattle.mesa_columns.specs.mesa_value.declared.Agg.{Agg}
use Rattle.mesa_columns.specs.mesa_value.Agg.{combined}
use Rattle.mesa_columns.specs.declared.rows.Row.{Row}
use Rattle.mesa_columns.specs.Changes.{without}
use Rattle.mesa_fold.specs.Folded.{folded, row_combined, rows_of}
use Rattle.mesa_fold.proofs.Lifts.{Each, row_combined-length, with_values, with_values-folded}
use Rattle.mesa_columns.proofs.Drops.{without-suc, without-nil}

row_combined-without : (aggs : List Agg) (i : ℕ) (a b : List ℤ) → length a ≡ length aggs → length b ≡ length aggs → without i (row_combined aggs a b) ≡ row_combined (without i aggs) (without i a) (without i b)
row_combined-without [] i [] [] p q = without-nil i ∙ sym (ap (λ gs. row_combined gs (without i []) (without i [])) (without-nil i))
row_combined-without [] i (x ∷ a) b p q = absurd (omega arith)
row_combined-without [] i [] (y ∷ b) p q = absurd (omega arith)
row_combined-without (g ∷ aggs) i [] b p q = absurd (omega arith)
row_combined-without (g ∷ aggs) i (x ∷ a) [] p q = absurd (omega arith)
row_combined-without (g ∷ aggs) zero (x ∷ a) (y ∷ b) p q = refl
row_combined-without (g ∷ aggs) (suc i) (x ∷ a) (y ∷ b) p q =
    without-suc i (combined g x y) (row_combined aggs a b) ∙ ap (λ vs. combined g x y ∷ vs) (row_combined-without aggs i a b (omega arith) (omega arith))
    ∙ sym (λ k. row_combined (without-suc i g aggs k) (without-suc i x a k) (without-suc i y b k))

-- A value column less, before folding or after it.
pub dropped-folded : (aggs : List Agg) (i : ℕ) (parts : List (List Row)) → Each (λ vs. length vs ≡ length aggs) (rows_of parts)
    → map (with_values (without i)) (folded aggs parts) ≡ folded (without i aggs) (map (map (with_values (without i))) parts)
dropped-folded aggs i parts all = with_values-folded (λ vs. length vs ≡ length aggs) (without i) aggs (without i aggs) (row_combined-length aggs) (λ a b. row_combined-without aggs i a b) parts all
