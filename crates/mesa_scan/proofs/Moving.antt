-- What holds of an input holds where blocks of it were read ahead.
use Rattle.std.proofs.Common.{◌≡◌, ℕ, List, [], ◌∷◌, ◌++◌, sym, ◌∙◌, ap, subst, drop, zero, suc}
use Rattle.std.specs.Prelude.{◌⊎◌, IfSome, Option, Some, slice_get}
use Rattle.std.proofs.Common.{inl, inr}
use Rattle.std.specs.List.{AllByRecursion}
use Rattle.mesa_delta.specs.mesa_columns.declared.rows.Row.{Row}
use Rattle.mesa_delta.specs.Ahead.{AreAhead, AreOfFile, IsOfFile, Told, Untested}
use Rattle.mesa_delta.specs.mesa_delta_format.Indexed.{Indexed}
use Rattle.mesa_delta.specs.Reading.{index_of}
use Rattle.mesa_delta.specs.declared.input.Input.{Input}
use Rattle.mesa_scan.specs.Cursors.{IsInput, IsSameInput, reader_in}
use Rattle.mesa_scan.specs.declared.scanning.Scan.{Scan}
use Rattle.mesa_scan.specs.Moving.{moved_to}
use Rattle.mesa_scan.specs.Scanning.{HasScanned}

moved_input : {R : Type 0} (bytes : R → Option (List ℕ)) (i : Input R) (r : R) → bytes r ≡ bytes (reader_in i) → IsInput bytes i → IsInput bytes (moved_to r i)
moved_input bytes i r told h =
    let read = h.read.1 in
    record {
      epoch = h.epoch;
      columns = h.columns;
      over = λ b t. h.over b (sym told ∙ t);
      read = (h.read.0, record { run = read.run; places = read.places; counted = read.counted; told = λ b t. read.told b (sym told ∙ t) });
    }

moved_scanned : {R : Type 0} (bytes : R → Option (List ℕ)) (i : Input R) (r : R) (s : Scan) (given : List Row) → bytes r ≡ bytes (reader_in i) → HasScanned bytes i s given → HasScanned bytes (moved_to r i) s given
moved_scanned bytes i r s given told h = record {
  input = moved_input bytes i r told h.input;
  filter = h.filter;
  lifts = h.lifts;
  columns = h.columns;
  within = h.within;
  counted = h.counted;
  form = h.form;
  told = λ b all t indexed. h.told b all (sym told ∙ t) indexed;
}

-- an input that was moved
module _ {R : Type 0} (bytes : R → Option (List ℕ)) (old new : Input R) (is : new ≡ moved_to (reader_in new) old) (told : bytes (reader_in new) ≡ bytes (reader_in old)) where
  -- stays one
  pub stays_input : IsInput bytes old → IsInput bytes new
  stays_input h = subst (IsInput bytes) (sym is) (moved_input bytes old (reader_in new) told h)

  -- of the same file
  pub stays_same : IsSameInput bytes old new
  stays_same = record { index = ap (λ (i : Input R). index_of i.reader) is; evolving = ap (λ (i : Input R). i.evolving) is; epoch = ap (λ (i : Input R). i.epoch) is; told = told }

  -- of which as much was scanned
  pub stays_scanned : (s : Scan) (given : List Row) → HasScanned bytes old s given → HasScanned bytes new s given
  stays_scanned s given h = subst (λ (i : Input R). HasScanned bytes i s given) (sym is) (moved_scanned bytes old (reader_in new) s given told h)

  pub stays_own : (place : ℕ) (ahead : List Untested) → AreOfFile (bytes (reader_in old)) (index_of old.reader) place ahead → AreOfFile (bytes (reader_in new)) (index_of new.reader) place ahead
  stays_own place ahead h =
      subst (λ (x : Indexed). AreOfFile (bytes (reader_in new)) x place ahead) (sym stays_same.index)
      (subst (λ (t : Option (List ℕ)). AreOfFile t (index_of old.reader) place ahead) (sym told) h)

-- ---- what waits

pub all_push : {X : Type 0} (P : X → Type 0) (xs : List X) (x : X) → AllByRecursion P xs → P x → AllByRecursion P (xs ++ x ∷ [])
all_push P [] x all one = (one, tt)
all_push P (y ∷ xs) x all one = (all.0, all_push P xs x all.1 one)

all_drop : {X : Type 0} (P : X → Type 0) (n : ℕ) (xs : List X) → AllByRecursion P xs → AllByRecursion P (drop n xs)
all_drop P zero xs all = all
all_drop P (suc n) [] all = tt
all_drop P (suc n) (x ∷ xs) all = all_drop P n xs all.1

-- a block of a file is one of the files in whose place it stands
pub there_ahead : (files : List Told) (place : ℕ) (f : Told) (u : Untested) → slice_get files place ≡ Some f → u.file ≡ place → IsOfFile f.content f.index u → IfSome (slice_get files u.file) (λ (f : Told). IsOfFile f.content f.index u)
there_ahead files place f u at is h = subst (λ (o : Option Told). IfSome o (λ (f : Told). IsOfFile f.content f.index u)) (sym (ap (slice_get files) is ∙ at)) h

pub own_left : (told : Option (List ℕ)) (x : Indexed) (place : ℕ) (old new : List Untested) → (new ≡ old) ⊎ (new ≡ drop 1 old) → AreOfFile told x place old → AreOfFile told x place new
own_left told x place old new (inl e) h = subst (AreOfFile told x place) (sym e) h
own_left told x place old new (inr e) h = subst (AreOfFile told x place) (sym e) (all_drop (λ (u : Untested). u.file ≡ place → IsOfFile told x u) 1 old h)

pub ahead_left : (files : List Told) (old new : List Untested) → (new ≡ old) ⊎ (new ≡ drop 1 old) → AreAhead files old → AreAhead files new
ahead_left files old new (inl e) h = subst (AreAhead files) (sym e) h
ahead_left files old new (inr e) h = subst (AreAhead files) (sym e) (all_drop (λ (u : Untested). IfSome (slice_get files u.file) (λ (f : Told). IsOfFile f.content f.index u)) 1 old h)
