-- How many key columns there are after changes.
use Rattle.std.proofs.Common.{◌≡◌, ◌+◌, List, [], ◌∷◌, length, ◌∙◌, cond, arith}
use Rattle.std.specs.Prelude.{count_by}
use Rattle.std.proofs.lemmas.List.{length-append}
use Rattle.std.proofs.lemmas.List.Sums.{sum_by-cons}
use Rattle.mesa_columns.specs.declared.changes.Change.{Change}
use Rattle.mesa_columns.specs.declared.changes.Change.TheVariants.{AddKey, AddValue, DropValue}
use Rattle.mesa_columns.specs.Columns.{Columns}
use Rattle.mesa_columns.specs.Changes.{adds_key, changed, columns_after}

-- one change more
counted : (c : Change) (changes : List Change) → count_by adds_key (c ∷ changes) ≡ cond (adds_key c) 1 0 + count_by adds_key changes
counted c changes = sum_by-cons (λ x. cond (adds_key x) 1 0) c changes

-- Each change that adds a key column makes one more.
pub key_count : (s : Columns) (changes : List Change) → length (columns_after s changes).keys ≡ length s.keys + count_by adds_key changes
key_count s [] = omega arith
key_count s (AddValue column default ∷ changes) = key_count (changed s (AddValue column default)) changes
key_count s (DropValue name ∷ changes) = key_count (changed s (DropValue name)) changes
key_count s (AddKey column default ∷ changes) =
    let one : count_by adds_key (AddKey column default ∷ changes) ≡ 1 + count_by adds_key changes = counted (AddKey column default) changes in
    key_count (changed s (AddKey column default)) changes ∙ omega (arith, one, length-append s.keys (column ∷ []))
