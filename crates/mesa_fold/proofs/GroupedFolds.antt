-- Rows may be folded before grouping or after it.
use Rattle.std.proofs.Common.{◌≡◌, ℕ, zero, suc, List, [], ◌∷◌, ◌++◌, refl, sym, ◌∙◌, ap, length, map, arith, append_assoc, inl, inr, Some, None}
use Rattle.std.proofs.lemmas.List.{append-nil}
use Rattle.std.proofs.lemmas.Simd.{map-map}
use Rattle.std.proofs.lemmas.Int.{ints}
use Rattle.std.specs.Prelude.{ℤ, ◌⊎◌, slice_get}
use Rattle.std.specs.List.{AllByRecursion, concat, cons_option}
use Rattle.mesa_columns.specs.mesa_value.declared.Agg.{Agg}
use Rattle.mesa_columns.specs.mesa_value.declared.Agg.TheVariants.{Sum, Min, Max, Replace}
use Rattle.mesa_columns.specs.mesa_value.Agg.{IsOrderless, combined}
use Rattle.mesa_columns.specs.mesa_key.Spelling.{columns_of}
use Rattle.mesa_columns.specs.declared.rows.Row.{Row}
use Rattle.mesa_columns.specs.Columns.{Columns, aggs_of, chosen, kinds_of}
use Rattle.mesa_columns.specs.Rows.{AreRowsOf}
use Rattle.mesa_fold.specs.Folded.{folded, folded_at, grouped, keys_of, regrouped, row_combined, rows_of}
use Rattle.mesa_fold.proofs.Forms.{rows-full, rows_of-map}
use Rattle.mesa_fold.proofs.Grouping.{AllCommute, rekeyed-folded}
use Rattle.mesa_fold.proofs.Lifts.{row_combined-length, with_values, with_values-folded}
use Rattle.mesa_fold.proofs.Refolds.{combined-assoc, refolded}

-- what the order of values doesn't change
combined-comm : (agg : Agg) (a b : ℤ) → IsOrderless agg → combined agg a b ≡ combined agg b a
combined-comm Sum a b h = omega (arith, ints)
combined-comm Min a b h = grind (arith, ints)
combined-comm Max a b h = grind (arith, ints)
combined-comm Replace a b h = absurd h

all_commute : (aggs : List Agg) → AllByRecursion IsOrderless aggs → AllCommute aggs
all_commute [] h = tt
all_commute (agg ∷ aggs) h = (record { comm = λ x y. combined-comm agg x y h.0; assoc = combined-assoc agg }, all_commute aggs h.1)

-- one place of combined rows: nothing stands there in any of them, or something in each
cell : (aggs : List Agg) (a b : List ℤ) (p : ℕ) → length a ≡ length aggs → length b ≡ length aggs
    → ((slice_get aggs p ≡ None) × (slice_get a p ≡ None) × (slice_get b p ≡ None) × (slice_get (row_combined aggs a b) p ≡ None))
    ⊎ ((g : Agg) × (x : ℤ) × (y : ℤ) × (slice_get aggs p ≡ Some g) × (slice_get a p ≡ Some x) × (slice_get b p ≡ Some y) × (slice_get (row_combined aggs a b) p ≡ Some (combined g x y)))
cell [] [] [] p e f = inl (refl, refl, refl, refl)
cell [] [] (y ∷ b) p e f = absurd (omega arith)
cell [] (x ∷ a) b p e f = absurd (omega arith)
cell (g ∷ aggs) [] b p e f = absurd (omega arith)
cell (g ∷ aggs) (x ∷ a) [] p e f = absurd (omega arith)
cell (g ∷ aggs) (x ∷ a) (y ∷ b) zero e f = inr (g, x, y, refl, refl, refl, refl)
cell (g ∷ aggs) (x ∷ a) (y ∷ b) (suc p) e f = cell aggs a b p (omega arith) (omega arith)

-- Values may be chosen before they are combined or after it.
pub chosen-combined : (values : List ℕ) (aggs : List Agg) (a b : List ℤ) → length a ≡ length aggs → length b ≡ length aggs
    → chosen values (row_combined aggs a b) ≡ row_combined (chosen values aggs) (chosen values a) (chosen values b)
chosen-combined [] aggs a b e f = refl
chosen-combined (p ∷ values) aggs a b e f =
    let rest = chosen-combined values aggs a b e f in
    elim (cell aggs a b p e f) [
      | inl none ↦
          ap (λ o. cons_option o (chosen values (row_combined aggs a b))) none.3 ∙ rest
          ∙ sym (λ i. row_combined (cons_option (none.0 i) (chosen values aggs)) (cons_option (none.1 i) (chosen values a)) (cons_option (none.2 i) (chosen values b)))
      | inr some ↦
          ap (λ o. cons_option o (chosen values (row_combined aggs a b))) some.6 ∙ ap (λ vs. combined some.0 some.1 some.2 ∷ vs) rest
          ∙ sym (λ i. row_combined (cons_option (some.3 i) (chosen values aggs)) (cons_option (some.4 i) (chosen values a)) (cons_option (some.5 i) (chosen values b)))
    ]

-- Folding each part first.
each_folded : (aggs : List Agg) (before parts : List (List Row)) → folded aggs (before ++ map (λ part. folded aggs (part ∷ [])) parts) ≡ folded aggs (before ++ parts)
each_folded aggs before [] = refl
each_folded aggs before (part ∷ parts) =
    refolded aggs before (part ∷ []) (map (λ p. folded aggs (p ∷ [])) parts)
    ∙ each_folded aggs (before ++ part ∷ []) parts
    ∙ ap (folded aggs) (append_assoc before (part ∷ []) parts)

-- Rows of several parts are folded as those of one.
one_part : (aggs : List Agg) (parts : List (List Row)) → folded aggs (rows_of parts ∷ []) ≡ folded aggs parts
one_part aggs parts = ap (λ (rows : List Row). map (folded_at aggs rows) (keys_of rows)) (append-nil (rows_of parts))

pub groups_folded : (s : Columns) (columns values : List ℕ) (parts : List (List Row)) → AllByRecursion IsOrderless (chosen values (aggs_of s)) → AreRowsOf s (rows_of parts)
    → grouped s columns values (folded (aggs_of s) parts) ≡ folded (chosen values (aggs_of s)) (map (grouped s columns values) parts)
groups_folded s columns values parts orderless all =
    let aggs : List Agg = aggs_of s in
    let fewer : List Agg = chosen values aggs in
    let to : List ℕ → List ℕ = λ (key : List ℕ). concat (chosen columns (columns_of (kinds_of s) key)) in
    let pick : Row → Row = with_values (chosen values) in
    let place : Row → Row = regrouped s columns values in
    let commute = all_commute fewer orderless in
    ap (λ rows. folded fewer (rows ∷ [])) (sym (map-map (λ (row : Row). record row { key = to row.key }) pick (folded aggs parts)))
    ∙ ap (λ rows. folded fewer (map (λ (row : Row). record row { key = to row.key }) rows ∷ []))
    (with_values-folded (λ vs. length vs ≡ length aggs) (chosen values) aggs fewer (row_combined-length aggs) (λ a b. chosen-combined values aggs a b) parts (rows-full s (rows_of parts) all))
    ∙ rekeyed-folded fewer commute to (map (map pick) parts)
    ∙ ap (λ rows. folded fewer (map (λ (row : Row). record row { key = to row.key }) rows ∷ [])) (rows_of-map pick parts)
    ∙ ap (λ rows. folded fewer (rows ∷ [])) (map-map (λ (row : Row). record row { key = to row.key }) pick (rows_of parts) ∙ sym (rows_of-map place parts))
    ∙ one_part fewer (map (map place) parts)
    ∙ sym (each_folded fewer [] (map (map place) parts))
    ∙ ap (folded fewer) (map-map (λ part. folded fewer (part ∷ [])) (map place) parts)
