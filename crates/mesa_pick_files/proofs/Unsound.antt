-- A file that is damaged isn't the recorded one.
use Rattle.std.proofs.Common.{◌≡◌, inl, inr, ℕ, List, [], ◌∷◌, map, Option, Some, Result, Ok, Err}
use Rattle.std.specs.Prelude.{IfErr}
use Rattle.std.specs.List.{AllByRecursion}
use Rattle.mesa_delta.specs.declared.error.FileError.{FileError}
use Rattle.mesa_delta.specs.declared.error.FileError.TheVariants as file_error
use Rattle.mesa_delta.specs.declared.input.Input.{Input}
use Rattle.mesa_disk.specs.Image.{Image}
use Rattle.mesa_file.specs.declared.damage.Damage.{Damage}
use Rattle.mesa_validate.specs.mesa_store_spec.Contents.{Rows}
use Rattle.mesa_validate.specs.mesa_store_spec.Sound.{bytes_of}
use Rattle.mesa_pick_files.specs.Read.{SomeUnsound}
use Rattle.mesa_pick_files.proofs.Given.{IsSeen, live_file_of}
use Rattle.mesa_pick_files.specs.Files.{Seen, want_in, want_of}
use Rattle.mesa_open_files.specs.Opening.{HaveOpened}
use Rattle.mesa_open_files.specs.declared.opening.Wanted.{Wanted}

-- where opening ended at a damaged file, that one isn't the recorded one
pub opened_unsound : {R : Type 0} (bytes : R → Option (List ℕ)) (faults : R → ℕ) (told : Option Image) (ws : List Wanted) (is : List (Input R)) (d : Damage) → HaveOpened bytes faults told ws is (Some d) → SomeUnsound told (map want_of ws)
opened_unsound bytes faults told [] [] d have = absurd have
opened_unsound bytes faults told [] (i ∷ is) d have = absurd have
opened_unsound bytes faults told (w ∷ ws) [] d have = inl have.unsound
opened_unsound bytes faults told (w ∷ ws) (i ∷ is) d have = inr (opened_unsound bytes faults told ws is d have.1)

-- what holds of a damage holds of it by another name
pub damage_also : {T : Type 0} (r : Result T FileError) (P Q : Type 0) → (P → Q) → IfErr r (λ e. (d : Damage) → e ≡ file_error.Damaged d → P) → IfErr r (λ e. (d : Damage) → e ≡ file_error.Damaged d → Q)
damage_also (Ok x) P Q also is = tt
damage_also (Err e) P Q also is = λ d same. also (is d same)

-- Files that a read gives, with the bytes of their rows, of which their references are true, are all sound.
pub seen_sound : (rows : Rows) (image : Image) (told : Option Image) → told ≡ Some image → (seen : List Seen) → AllByRecursion (IsSeen rows image) seen → SomeUnsound told (map want_in seen) → ⊥
seen_sound rows image told is [] all unsound = unsound
seen_sound rows image told is (x ∷ seen) all unsound = elim unsound [
  | inl one ↦ one image is (bytes_of rows (live_file_of x.want)) (rows x.want.file.id) all.0.1 all.0.0.file all.0.0.true
  | inr more ↦ seen_sound rows image told is seen all.1 more
]
