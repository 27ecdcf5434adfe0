-- Which short keys may belong to keys that meet a filter.
use Rattle.std.specs.Prelude.{ℕ, ◌+◌, max, List, [], ◌∷◌, Bool, true, ◌&&◌, ◌||◌, ◌==◌, not, if◌then◌else◌, Some}
use Rattle.std.specs.List.{list_all, list_any}
use Rattle.std.specs.Ordering.{is_eq, is_le, is_ge, is_lt, is_gt}
use Rattle.std.specs.declared.cmp.Ordering.{Ordering}
use Rattle.mesa_fold.specs.mesa_key.declared.KeyType.{KeyType}
use Rattle.mesa_fold.specs.mesa_key.declared.KeyValue.{KeyValue}
use Rattle.mesa_fold.specs.mesa_key.Order.{value_cmp}
pub use Rattle.mesa_fold.specs.mesa_key.Columns.{is_whole, first_value, behind_first}
use Rattle.mesa_filter.specs.declared.terms.Comparison.{Comparison}
use Rattle.mesa_filter.specs.declared.terms.Comparison.TheVariants as op
use Rattle.mesa_filter.specs.declared.terms.Term.{Term}
use Rattle.mesa_filter.specs.Filter.{value_meets}

-- how many columns from the first on hold each that a term names
abbrev pub columns_named : List Term → ℕ
columns_named [] = 0
columns_named (term ∷ terms) = max (term.column + 1) (columns_named terms)

-- a value meets each term of its column, which stands at this place
abbrev pub column_meets : ℕ → KeyValue → List Term → Bool
column_meets place value terms = list_all (λ (term : Term). not (term.column == place) || value_meets (Some value) term) terms

-- each column of an encoded key, from the one at a place on, meets its terms
abbrev pub all_meet : List KeyType → ℕ → List Term → List ℕ → Bool
all_meet [] place terms bytes = true
all_meet (kind ∷ kinds) place terms bytes = column_meets place (first_value kind bytes) terms && all_meet kinds (place + 1) terms (behind_first kind bytes)

-- some value of a closed interval compares so with a literal, by the orders of the interval's ends and the literal
abbrev pub reaches : Comparison → Ordering → Ordering → Bool
reaches op.Equal low high = is_le low && is_ge high
reaches op.AtMost low high = is_le low
reaches op.AtLeast low high = is_ge high
reaches op.Less low high = is_lt low
reaches op.Greater low high = is_gt high

-- some value of the closed interval from low to high meets a term
abbrev pub interval_meets : KeyValue → KeyValue → Term → Bool
interval_meets low high term = list_any (λ literal. reaches term.comparison (value_cmp low literal) (value_cmp high literal)) term.literals

-- each term of the column at a place is met by some value of the closed interval
abbrev pub column_reaches : ℕ → KeyValue → KeyValue → List Term → Bool
column_reaches place low high terms = list_all (λ (term : Term). not (term.column == place) || interval_meets low high term) terms

-- Whether a key of these columns, from the column at a place on, may meet the terms where its short key lies from low to high. The columns are walked while both hold them whole and equal, and each has to meet its terms. The first that differs decides by its closed interval; one that isn't whole, and the end of the columns, end the walk with yes.
abbrev pub may_meet_from : List KeyType → ℕ → List Term → List ℕ → List ℕ → Bool
may_meet_from [] place terms low high = true
may_meet_from (kind ∷ kinds) place terms low high =
    if not (is_whole kind low && is_whole kind high) then true
    else if is_eq (value_cmp (first_value kind low) (first_value kind high)) then column_meets place (first_value kind low) terms && may_meet_from kinds (place + 1) terms (behind_first kind low) (behind_first kind high)
    else column_reaches place (first_value kind low) (first_value kind high) terms
