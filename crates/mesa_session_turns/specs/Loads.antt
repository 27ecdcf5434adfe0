-- What a load keeps of its look.
use Rattle.std.specs.Prelude.{◌≡◌, ℕ, List, ◌++◌, Option, Result}
use Rattle.mesa_batch.specs.Glance.{Sight}
use Rattle.mesa_batch.specs.declared.words.RowWords.{RowWords}
use Rattle.mesa_model.specs.declared.entries.Entry.{Entry}
use Rattle.mesa_open_files.specs.declared.prepared.LoadError.{LoadError}
use Rattle.mesa_open_files.specs.declared.prepared.Prepared.{Prepared}
use Rattle.mesa_open_files.specs.Batches.{HasPrepared}

-- What was prepared of rows, by what was seen after a history, stands after every history that goes on from there with this generation.
abbrev pub StaysPrepared : {M : Type 0} → (M → Option (List ℕ)) → (M → ℕ) → (List Entry → Sight) → List Entry → ℕ → List RowWords → Result (Prepared M) LoadError → Type 0
StaysPrepared bytes id_of sees h generation rows made = (more : List Entry) → (sees (h ++ more)).generation ≡ generation → HasPrepared bytes id_of (sees (h ++ more)) rows made
