-- What waits of the blocks that were read ahead, while an input is scanned.
use Rattle.std.proofs.Common.{◌≡◌, ℕ, List, sym, ◌∙◌, subst}
use Rattle.std.specs.Prelude.{Option, Some, slice_get}
use Rattle.mesa_delta.specs.Ahead.{AreAhead, AreOfFile, Told, Untested}
use Rattle.mesa_scan.specs.mesa_delta_format.Indexed.{Indexed}
use Rattle.mesa_delta.specs.Reading.{index_of}
use Rattle.mesa_delta.specs.declared.input.Input.{Input}
use Rattle.mesa_scan.specs.Cursors.{IsSameInput, reader_in}
use Rattle.mesa_scan.specs.Moving.{told_in}

-- What waits now is of this input, or waited before.
pub record Waits {R : Type 0} (bytes : R → Option (List ℕ)) (start : Input R) (place : ℕ) (before now : List Untested) : Type 0 where
  pub own : AreOfFile (bytes (reader_in start)) (index_of start.reader) place now
  pub ahead : (files : List Told) → slice_get files place ≡ Some (told_in bytes start) → AreAhead files before → AreAhead files now

pub waits_first : {R : Type 0} (bytes : R → Option (List ℕ)) (start : Input R) (place : ℕ) (before : List Untested) → AreOfFile (bytes (reader_in start)) (index_of start.reader) place before → Waits bytes start place before before
waits_first bytes start place before own = record { own = own; ahead = λ files at h. h }

-- it is of the input as it is now
pub own_now : {R : Type 0} (bytes : R → Option (List ℕ)) (start input : Input R) (place : ℕ) (before now : List Untested) → IsSameInput bytes start input → Waits bytes start place before now → AreOfFile (bytes (reader_in input)) (index_of input.reader) place now
own_now bytes start input place before now same w =
    subst (λ (x : Indexed). AreOfFile (bytes (reader_in input)) x place now) (sym same.index)
    (subst (λ (t : Option (List ℕ)). AreOfFile t (index_of start.reader) place now) (sym same.told) w.own)

-- one block more
pub waits_more : {R : Type 0} (bytes : R → Option (List ℕ)) (start input : Input R) (place : ℕ) (before now next : List Untested) → IsSameInput bytes start input → Waits bytes start place before now
    → AreOfFile (bytes (reader_in input)) (index_of input.reader) place next → ((files : List Told) → slice_get files place ≡ Some (told_in bytes input) → AreAhead files now → AreAhead files next) → Waits bytes start place before next
waits_more bytes start input place before now next same w own ahead = record {
  own = subst (λ (x : Indexed). AreOfFile (bytes (reader_in start)) x place next) same.index
      (subst (λ (t : Option (List ℕ)). AreOfFile t (index_of input.reader) place next) same.told own);
  ahead = λ files at h. ahead files (at ∙ (λ k. Some (record { index = sym same.index k; content = sym same.told k }))) (w.ahead files at h);
}
