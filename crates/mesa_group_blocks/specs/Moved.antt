-- The files of a pinned query, of which blocks may have been read ahead.
use Rattle.std.specs.Prelude.{◌≡◌, ℕ, List, [], ◌∷◌, map, Option, ⊤}
use Rattle.mesa_delta.specs.declared.input.Input.{Input}
use Rattle.mesa_scan.specs.Cursors.{reader_in}
use Rattle.mesa_scan.specs.Moving.{moved_to}
use Rattle.mesa_open_files.specs.declared.querying.PinnedInput.{PinnedInput}

-- the inputs that read them
abbrev pub inputs_in : {R : Type 0} → List (PinnedInput R) → List (Input R)
inputs_in files = map (λ file. file.input) files

-- A file is as it was but for what it reads from: blocks of it may have been read ahead, and none of them was taken.
pub record IsMoved {R : Type 0} (bytes : R → Option (List ℕ)) (size_of : R → ℕ) (old new : PinnedInput R) : Type 0 where
  pub file : new ≡ record old { input = moved_to (reader_in new.input) old.input }
  pub told : bytes (reader_in new.input) ≡ bytes (reader_in old.input)
  pub size : size_of (reader_in new.input) ≡ size_of (reader_in old.input)

-- each file is
abbrev pub AreMoved : {R : Type 0} → (R → Option (List ℕ)) → (R → ℕ) → List (PinnedInput R) → List (PinnedInput R) → Type 0
AreMoved bytes size [] [] = ⊤
AreMoved bytes size [] (now ∷ new) = ⊥
AreMoved bytes size (file ∷ old) [] = ⊥
AreMoved bytes size (file ∷ old) (now ∷ new) = IsMoved bytes size file now × AreMoved bytes size old new
