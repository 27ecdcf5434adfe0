-- The device work of a turn that drops no file keeps those that were there.
use Rattle.std.proofs.Common.{◌≡◌, ℕ, List, [], ◌∷◌, refl, sym, ◌∙◌, subst, Option, None, Some}
use Rattle.mesa_disk.specs.Files.{AreAbsent, HasOtherIds}
use Rattle.mesa_disk.specs.Image.{Image, file_of}
use Rattle.mesa_disk.specs.Story.{Steps}
use Rattle.mesa_engine.specs.mesa_commit.Turn.{MovesOnly}
use Rattle.mesa_write_turns.specs.Writing.{KeepsFiles}

-- a file that is there is none of those that weren't
there_before : (id : ℕ) (made : List (ℕ × Option (List ℕ))) (i : Image) → AreAbsent made i → (file_of i id ≡ None → ⊥) → HasOtherIds id made
there_before id [] i absent there = tt
there_before id (file ∷ made) i absent there = ((λ (same : file.0 ≡ id). there (subst (λ n. file_of i n ≡ None) same absent.0)), there_before id made i absent.1 there)

keeps : (made : List (ℕ × Option (List ℕ))) (i j : Image) → MovesOnly made [] i j → AreAbsent made i → KeepsFiles i j
keeps made i j moves absent id there = moves.others id (there_before id made i absent there) tt

pub moves_keep : (made : List (ℕ × Option (List ℕ))) (old new : Option Image) → Steps (MovesOnly made []) old new → ((i : Image) → old ≡ Some i → AreAbsent made i) → Steps KeepsFiles old new
moves_keep made old new moves absent = record {
  on = λ i is. (let to = moves.on i is in (to.0, to.1, keeps made i to.0 to.2 (absent i is)));
  back = λ j is. (let from = moves.back j is in (from.0, from.1, keeps made from.0 j from.2 (absent from.0 from.1)));
}

-- A turn without device work keeps all.
pub same_keep : (old new : Option Image) → new ≡ old → Steps KeepsFiles old new
same_keep old new same = record { on = λ i is. (i, same ∙ is, λ id there. refl); back = λ j is. (j, sym same ∙ is, λ id there. refl) }
