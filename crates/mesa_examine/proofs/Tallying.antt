-- Rows tallied one by one.
use Rattle.std.proofs.Common.{◌≡◌, ℕ, ◌+◌, ◌<◌, min, ℤ, pos, List, [], ◌∷◌, ◌++◌, length, map, get_or, refl, sym, ap, subst, ◌∙◌, arith}
use Rattle.std.specs.Prelude.{nat_abs, slice_index_or}
use Rattle.std.proofs.lemmas.List.{length-append, length-map, map-append}
use Rattle.std.proofs.lemmas.List.Sums.{sum_by-append}
use Rattle.mesa_open_files.specs.mesa_columns.declared.rows.Row.{Row}
use Rattle.mesa_open_files.specs.mesa_columns.declared.lifting.Lift.{Lift}
use Rattle.mesa_open_files.specs.mesa_columns.Columns.{Columns, aggs_of}
use Rattle.mesa_open_files.specs.mesa_columns.Lifting.{lifted_with}
use Rattle.mesa_open_files.specs.mesa_batch.Totals.{abs_total}
use Rattle.mesa_schema.specs.mesa_value.declared.Agg.{Agg}
use Rattle.mesa_open_files.specs.mesa_delta_format.Summary.{all_noted}
use Rattle.mesa_open_files.specs.mesa_delta_format.Totals.{added}
use Rattle.mesa_delta.proofs.mesa_delta_format.Adding.{agg_of, aggregates_more, last_key-push}
use Rattle.mesa_examine.specs.Sums.{AreTotals, most}
use Rattle.mesa_examine.specs.Tallies.{AreEnds}
use Rattle.mesa_examine.specs.declared.tally.Ends.{Ends}

pub ends_more : (s : Columns) (old new : Ends) (row : Row) (rows : List Row) → length row.values ≡ length s.values → 0 < old.rows → new.rows ≡ old.rows + 1 → new.first.items ≡ old.first.items → new.last.items ≡ row.key → new.aggregates.items ≡ added (aggs_of s) old.aggregates.items row.values
    → AreEnds s old rows → AreEnds s new (rows ++ row ∷ [])
ends_more s old new row [] len z r f l t h = absurd (omega (arith, h.rows))
ends_more s old new row (x ∷ rows) len z r f l t h = record {
  rows = omega (arith, h.rows, length-append (x ∷ rows) (row ∷ []));
  first = f ∙ h.first;
  last = l ∙ sym (last_key-push (x ∷ rows) row);
  aggregates = t ∙ ap (λ o. added (aggs_of s) o row.values) h.aggregates ∙ sym (aggregates_more (aggs_of s) x rows row (omega (arith, length-map s.values agg_of)));
}

saturated : (m a b : ℕ) → min m (min m a + b) ≡ min m (a + b)
saturated m a b = omega arith

total_more : (j : ℕ) (rows : List Row) (row : Row) → abs_total j (rows ++ row ∷ []) ≡ abs_total j rows + nat_abs (slice_index_or row.values j (pos 0))
total_more j rows row = sum_by-append (λ (r : Row). nat_abs (slice_index_or r.values j (pos 0))) rows (row ∷ []) ∙ (omega arith)

-- every column has the row's absolute value more
pub totals_more : (columns : ℕ) (old new : List ℕ) (rows : List Row) (row : Row) → length new ≡ length old
    → ((j : ℕ) → j < length old → get_or new j 0 ≡ min most (get_or old j 0 + nat_abs (slice_index_or row.values j (pos 0))))
    → AreTotals columns old rows → AreTotals columns new (rows ++ row ∷ [])
totals_more columns old new rows row same more h = record {
  len = same ∙ h.len;
  each = λ j lt.
      more j (omega (arith, lt, h.len)) ∙ ap (λ n. min most (n + nat_abs (slice_index_or row.values j (pos 0)))) (h.each j lt)
      ∙ saturated most (abs_total j rows) (nat_abs (slice_index_or row.values j (pos 0))) ∙ ap (λ n. min most n) (sym (total_more j rows row));
}

-- and so of lifted rows
pub lifted_more : (lift : Lift) (columns : ℕ) (totals : List ℕ) (rows : List Row) (row : Row) → AreTotals columns totals (map (lifted_with lift) rows ++ lifted_with lift row ∷ []) → AreTotals columns totals (map (lifted_with lift) (rows ++ row ∷ []))
lifted_more lift columns totals rows row h = subst (λ (l : List Row). AreTotals columns totals l) (sym (map-append (lifted_with lift) rows (row ∷ []))) h

-- as a call of the list that is kept leaves it
pub kept_totals : (columns : ℕ) (kept old new : List ℕ) (values : List ℤ) (rows : List Row) (row : Row) → old ≡ kept → values ≡ row.values → length new ≡ length old
    → ((j : ℕ) → j < length old → get_or new j 0 ≡ min most (get_or old j 0 + nat_abs (slice_index_or values j (pos 0))))
    → AreTotals columns kept rows → AreTotals columns new (rows ++ row ∷ [])
kept_totals columns kept old new values rows row is same len more h =
    totals_more columns old new rows row len (λ j lt. more j lt ∙ ap (λ vs. min most (get_or old j 0 + nat_abs (slice_index_or vs j (pos 0)))) same) (subst (λ (l : List ℕ). AreTotals columns l rows) (sym is) h)

none_noted : (aggs : List Agg) → all_noted aggs [] ≡ []
none_noted [] = refl
none_noted (agg ∷ aggs) = refl

-- no row is tallied yet
pub no_ends : (s : Columns) (t : Ends) → t.rows ≡ 0 → t.first.items ≡ [] → t.last.items ≡ [] → t.aggregates.items ≡ [] → AreEnds s t []
no_ends s t r f l a = record { rows = r; first = f; last = l; aggregates = a ∙ sym (none_noted (aggs_of s)) }
