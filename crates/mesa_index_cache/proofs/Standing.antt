-- Indexes stay true while the disk is called.
use Rattle.std.proofs.Common.{◌≡◌, ⊎_elim, ℕ, List, Option, Some, None, sym, ◌∙◌, ap, subst}
use Rattle.std.proofs.lemmas.Option.{none-some}
use Rattle.mesa_disk.specs.Image.{Image, file_of, InArea, Adopts, Loses, May, Torn}
use Rattle.mesa_disk.specs.Story.{Steps}
use Rattle.mesa_disk.specs.declared.area.Area.{Area}
use Rattle.mesa_disk.proofs.Rounds.{other_file}
use Rattle.mesa_disk.proofs.Others.{other_than_lost, area_others}
use Rattle.mesa_open_files.specs.mesa_delta_format.Indexed.{Indexed}
use Rattle.mesa_index_cache.specs.Kept.{AreTrue, AreWith, AreWithout, index_kept}
use Rattle.mesa_open_files.specs.Opening.{IsTrueOf}
use Rattle.mesa_index_cache.specs.declared.indexes.Indexes.{Indexes}

-- a call after which the files of kept indexes have the bytes that they had
still : {step : Image → Image → Type 0} (old new : Option Image) (indexes : Indexes)
    → ((i j : Image) (id : ℕ) (x : Indexed) (b : List ℕ) → old ≡ Some i → index_kept id indexes ≡ Some x → file_of i id ≡ Some b → step i j → file_of j id ≡ Some b)
    → Steps step old new → AreTrue old indexes → AreTrue new indexes
still old new indexes same steps true id x kept j is =
    let from = steps.back j is in
    let was = true id x kept from.0 from.1 in
    (was.0, same from.0 j id x was.0 from.1 kept was.1 from.2, was.2)

-- a write into an area
pub still_written : (area : Area) (at n : ℕ) (old new : Option Image) (indexes : Indexes) → Steps (InArea area (Torn at n)) old new → AreTrue old indexes → AreTrue new indexes
still_written area at n old new indexes = still old new indexes (λ i j id x b told kept there step. area_others area (Torn at n) i j step id ∙ there)

-- a file that wasn't there is adopted, or isn't
pub still_adopted : (id : ℕ) (made : Option (List ℕ)) (old new : Option Image) (indexes : Indexes) → ((i : Image) → old ≡ Some i → file_of i id ≡ None) → Steps (May Adopts (id, made)) old new → AreTrue old indexes → AreTrue new indexes
still_adopted id made old new indexes absent =
    still old new indexes (λ i j q x b told kept there step.
    ⊎_elim (λ same. ap (λ (k : Image). file_of k q) same ∙ there)
    (λ put. other_file id q made i j (λ same. none-some b (sym (absent i told) ∙ ap (file_of i) (sym same) ∙ there)) put ∙ there)
    step)

-- a file of which no index is kept is removed, or isn't
pub still_removed : (id : ℕ) (old new : Option Image) (before indexes : Indexes) → AreWithout id indexes before → Steps (May Loses id) old new → AreTrue old before → AreTrue new indexes
still_removed id old new before indexes without steps true =
    still old new indexes (λ i j q x b told kept there step.
    ⊎_elim (λ same. ap (λ (k : Image). file_of k q) same ∙ there)
    (λ lost. other_than_lost id q i j (without q x kept).1 lost ∙ there)
    step)
    steps (λ q x kept. true q x (without q x kept).0)

-- one index more
pub with_one : (told : Option Image) (id : ℕ) (index : Indexed) (old new : Indexes) → AreWith id index new old → IsTrueOf told id index → AreTrue told old → AreTrue told new
with_one told id index old new more one true q x kept =
    ⊎_elim (λ before. true q x before)
    (λ own. subst (λ n. IsTrueOf told n x) (sym own.0) (subst (λ y. IsTrueOf told id y) (sym own.1) one))
    (more q x kept)
