-- Readers whose index was known.
use Rattle.std.proofs.Common.{◌≡◌, ℕ, List, Option, Some, None, refl, sym, ◌∙◌, subst}
use Rattle.std.proofs.lemmas.Option.{none-some, same_Some}
use Rattle.mesa_disk.specs.Image.{Image}
use Rattle.mesa_scan.specs.mesa_delta_format.Indexed.{Indexed}
use Rattle.mesa_delta.specs.Reading.{IsOver, IsReaderOf}
use Rattle.mesa_open_files.specs.Opening.{HasBytes, IsTrueOf, IsUntold}

module _ {R : Type 0} (bytes : R → Option (List ℕ)) where
  -- an index that is true of a reader's file is of what the reader tells
  pub known_of_reader : (told : Option Image) (id : ℕ) (reader : R) (x : Indexed) → IsTrueOf told id x → HasBytes bytes told id reader → IsUntold bytes told reader → IsReaderOf bytes reader x
  known_of_reader None id reader x true has untold b is = absurd (none-some b (sym (untold refl) ∙ is))
  known_of_reader (Some i) id reader x true has untold b is =
      let read = has i refl in
      let was = true i refl in
      let same : was.0 ≡ b = same_Some was.0 b (sym was.1 ∙ read.1 ∙ sym read.2 ∙ is) in
      subst (λ c. IsOver x c) same was.2

  -- the index of a reader is true of the file that it reads
  pub read_index : (told : Option Image) (id : ℕ) (reader : R) (x : Indexed) → HasBytes bytes told id reader → IsReaderOf bytes reader x → IsTrueOf told id x
  read_index told id reader x has over i is =
      let read = has i is in
      (read.0, read.1, over read.0 read.2)
