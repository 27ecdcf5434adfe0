-- Columns that no term names.
use Rattle.std.proofs.Common.{◌≡◌, ℕ, ◌+◌, ◌≤◌, List, [], ◌∷◌, Bool, true, false, refl, sym, ◌∙◌, arith}
use Rattle.std.specs.Prelude.{◌==◌}
use Rattle.std.proofs.lemmas.Bool.{ne_eqb}
use Rattle.mesa_fold.specs.mesa_key.declared.KeyType.{KeyType}
use Rattle.mesa_fold.specs.mesa_key.declared.KeyValue.{KeyValue}
use Rattle.mesa_filter.specs.declared.terms.Term.{Term}
use Rattle.mesa_filter.specs.Walk.{all_meet, behind_first, column_meets, columns_named, first_value}

-- a value meets the terms of a column that none names
unnamed : (i : ℕ) (value : KeyValue) (terms : List Term) → columns_named terms ≤ i → column_meets i value terms ≡ true
unnamed i value [] h = refl
unnamed i value (term ∷ terms) h =
    let off : (term.column == i) ≡ false = ne_eqb term.column i (λ e. omega arith) in
    rw off (unnamed i value terms (omega arith))

all_unnamed : (left : List KeyType) (i : ℕ) (terms : List Term) (bytes : List ℕ) → columns_named terms ≤ i → all_meet left i terms bytes ≡ true
all_unnamed [] i terms bytes h = refl
all_unnamed (kind ∷ left) i terms bytes h = rw (unnamed i (first_value kind bytes) terms h) (all_unnamed left (i + 1) terms (behind_first kind bytes) (omega arith))

-- Behind the last column that a term names nothing is left to meet.
pub all_met : (left : List KeyType) (i : ℕ) (terms : List Term) (bytes : List ℕ) (all : Bool) → columns_named terms ≤ i → all_meet left i terms bytes ≡ all → true ≡ all
all_met left i terms bytes all h before = sym (all_unnamed left i terms bytes h) ∙ before
