-- The files of a pinned query, and what damage is told of them.
use Rattle.std.specs.Prelude.{◌⊎◌, ℕ, List, [], ◌∷◌, map, Bool, Option}
use Rattle.mesa_file.specs.declared.damage.Damage.{Damage}
use Rattle.mesa_group_blocks.specs.mesa_scan.Damaged.{IsDamaged}
use Rattle.mesa_group_blocks.specs.mesa_open_files.declared.querying.PinnedInput.{PinnedInput}
use Rattle.mesa_group_blocks.specs.Moved.{AreMoved}
pub use Rattle.mesa_group_blocks.specs.Moved.{inputs_in}

-- which of a query's files are the relation's own
abbrev pub owns_in : {R : Type 0} → List (PinnedInput R) → List Bool
owns_in files = map (λ file. file.own) files

-- Damage of one of the files, which isn't the recorded one, and at which reading ended: of those behind it no block was taken, though some may have been read ahead.
abbrev pub IsDamageIn : {R : Type 0} → (R → Option (List ℕ)) → (R → ℕ) → Damage → List (PinnedInput R) → List (PinnedInput R) → Type 0
IsDamageIn bytes size d [] new = ⊥
IsDamageIn bytes size d (file ∷ old) [] = ⊥
IsDamageIn bytes size d (file ∷ old) (now ∷ new) = (IsDamaged bytes size file.input d × AreMoved bytes size old new) ⊎ IsDamageIn bytes size d old new
