-- Rows whose keys rise: folds.
use Rattle.std.proofs.Common.{◌≡◌, List, [], ◌∷◌, refl, ◌∙◌, ap, Bool, true, false, T}
use Rattle.std.specs.Ordering.{is_lt}
use Rattle.std.proofs.lemmas.Bool.{and_from, and_parts}
use Rattle.mesa_columns.specs.mesa_value.declared.Agg.{Agg}
use Rattle.mesa_columns.specs.mesa_key.Order.{byte_cmp}
use Rattle.mesa_columns.specs.declared.rows.Row.{Row}
use Rattle.mesa_fold.specs.Folded.{folded, keys_of, rows_of}
use Rattle.mesa_columns.specs.Rows.{keys_rise}
use Rattle.mesa_fold.proofs.Folds.{keys, keys-folded_at, rising-keys_of}
use Rattle.mesa_fold.proofs.Keys.{is_rising}

is_true : (b : Bool) → T b → b ≡ true
is_true true h = refl
is_true false h = absurd h

-- ---- folds

rise : (rows : List Row) → is_rising (keys rows) ≡ true → keys_rise rows ≡ true
rise [] h = refl
rise (row ∷ []) h = refl
rise (row ∷ next ∷ rows) h =
    let parts = and_parts _ (is_rising (keys (next ∷ rows))) h in
    and_from (is_lt (byte_cmp row.key next.key)) (keys_rise (next ∷ rows)) (and_parts (is_lt (byte_cmp row.key next.key)) _ parts.0).0 (rise (next ∷ rows) parts.1)

-- The keys of a fold rise.
pub folded_rise : (aggs : List Agg) (parts : List (List Row)) → keys_rise (folded aggs parts) ≡ true
folded_rise aggs parts =
    rise (folded aggs parts) (ap is_rising (keys-folded_at aggs (rows_of parts) (keys_of (rows_of parts))) ∙ is_true _ (rising-keys_of (rows_of parts)))
