-- Inputs of which blocks were read ahead.
use Rattle.std.proofs.Common.{◌≡◌, ℕ, zero, suc, ◌<◌, List, [], ◌∷◌, get_or, length, set, refl, sym, ◌∙◌, ap, subst, arith}
use Rattle.std.specs.Prelude.{IfSome, Option, Some, slice_get}
use Rattle.mesa_scan.specs.mesa_columns.declared.rows.Row.{Row}
use Rattle.mesa_delta.specs.Ahead.{AreAhead, AreOfFile, IsOfFile, Told, Untested}
use Rattle.mesa_delta.specs.Reading.{index_of}
use Rattle.mesa_delta.specs.declared.input.Input.{Input}
use Rattle.mesa_scan.specs.declared.cursor.Cursor.{Cursor}
use Rattle.mesa_scan.specs.Cursors.{HasGivenFrom, IsInput, IsReady, reader_in}
use Rattle.mesa_scan.specs.Moving.{moved_to, told_in}
use Rattle.mesa_scan.proofs.Moving.{stays_input, stays_same}
use Rattle.mesa_merge.specs.Inputs.{Known, knowns_of, tolds_of}
use Rattle.mesa_merge.specs.Merging.{AreReady, HasGivens}
use Rattle.mesa_merge.specs.Waiting.{AreWaiting}
use Rattle.mesa_merge.proofs.Inputs.{inputs_set, known_set}

-- what is told of the file at a place
pub told_get : {R : Type 0} (bytes : R → Option (List ℕ)) (is : List (Input R)) (i : ℕ) (d : Input R) → i < length is → slice_get (tolds_of (knowns_of bytes is)) i ≡ Some (told_in bytes (get_or is i d))
told_get bytes [] i d lt = absurd (omega (arith, lt))
told_get bytes (x ∷ is) zero d lt = refl
told_get bytes (x ∷ is) (suc i) d lt = told_get bytes is i d (omega (arith, lt))

pub of_file : (files : List Told) (place : ℕ) (f : Told) (ahead : List Untested) → slice_get files place ≡ Some f → AreAhead files ahead → AreOfFile f.content f.index place ahead
of_file files place f [] at h = tt
of_file files place f (u ∷ ahead) at h = (λ is. subst (λ (o : Option Told). IfSome o (λ (f : Told). IsOfFile f.content f.index u)) (ap (slice_get files) is ∙ at) h.0, of_file files place f ahead at h.1)

-- what waits of an input is of its file
pub own_of : {R : Type 0} (bytes : R → Option (List ℕ)) (is : List (Input R)) (i : ℕ) (d : Input R) (ahead : List Untested) → i < length is → AreAhead (tolds_of (knowns_of bytes is)) ahead
    → AreOfFile (bytes (reader_in (get_or is i d))) (index_of (get_or is i d).reader) i ahead
own_of bytes is i d ahead lt h = of_file (tolds_of (knowns_of bytes is)) i (told_in bytes (get_or is i d)) ahead (told_get bytes is i d lt) h

moved_given : {R : Type 0} (bytes : R → Option (List ℕ)) (low : Option (List ℕ)) (i : Input R) (r : R) (c : Cursor) (given : List Row) → bytes r ≡ bytes (reader_in i) → IsInput bytes (moved_to r i) → HasGivenFrom bytes low i c given → HasGivenFrom bytes low (moved_to r i) c given
moved_given bytes low i r c given told input h = record {
  start = h.start;
  parts = h.parts;
  input = input;
  lineage = h.lineage;
  lifts = h.lifts;
  key = h.key;
  none = h.none;
  next = h.next;
  within = h.within;
  few = h.few;
  blocks = h.blocks;
  rise = h.rise;
  last = h.last;
  rows = h.rows;
  read = λ zero some. let read = h.read zero some in record { run = read.run; places = read.places; counted = read.counted; told = λ b t. read.told b (sym told ∙ t) };
  whole = λ zero all. let whole = h.whole zero all in record { file = whole.file; tail = whole.tail; told = λ b t. whole.told b (sym told ∙ t) };
  before = λ b all t indexed. h.before b all (sym told ∙ t) indexed;
  again = λ b all t indexed. h.again b all (sym told ∙ t) indexed;
}

-- an input that was moved
module _ {R : Type 0} (bytes : R → Option (List ℕ)) (old new : Input R) (is : new ≡ moved_to (reader_in new) old) (told : bytes (reader_in new) ≡ bytes (reader_in old)) where
  -- of which as much was given
  pub stays_given : (low : Option (List ℕ)) (c : Cursor) (given : List Row) → HasGivenFrom bytes low old c given → HasGivenFrom bytes low new c given
  stays_given low c given h =
      let input : IsInput bytes (moved_to (reader_in new) old) = subst (IsInput bytes) is (stays_input bytes old new is told h.input) in
      subst (λ (i : Input R). HasGivenFrom bytes low i c given) (sym is) (moved_given bytes low old (reader_in new) c given told input h)

  -- is ready as it was
  pub stays_ready : (c : Cursor) → IsReady old c → IsReady new c
  stays_ready c h = subst (λ (i : Input R). IsReady i c) (sym is) h

-- ---- inputs of which one was moved

given_moved : {R : Type 0} (bytes : R → Option (List ℕ)) (low : Option (List ℕ)) (is : List (Input R)) (cs : List Cursor) (gs : List (List Row)) (j : ℕ) (x d : Input R) → ((c : Cursor) (g : List Row) → HasGivenFrom bytes low (get_or is j d) c g → HasGivenFrom bytes low x c g)
    → j < length is → HasGivens bytes low is cs gs → HasGivens bytes low (set is j x) cs gs
given_moved bytes low [] cs gs j x d f lt h = absurd (omega (arith, lt))
given_moved bytes low (i ∷ is) [] gs j x d f lt h = absurd h
given_moved bytes low (i ∷ is) (c ∷ cs) [] j x d f lt h = absurd h
given_moved bytes low (i ∷ is) (c ∷ cs) (g ∷ gs) zero x d f lt h = (f c g h.0, h.1)
given_moved bytes low (i ∷ is) (c ∷ cs) (g ∷ gs) (suc j) x d f lt h = (h.0, given_moved bytes low is cs gs j x d f (omega (arith, lt)) h.1)

ready_moved : {R : Type 0} (n : ℕ) (is : List (Input R)) (cs : List Cursor) (j : ℕ) (x d : Input R) → ((c : Cursor) → IsReady (get_or is j d) c → IsReady x c) → j < length is → AreReady n is cs → AreReady n (set is j x) cs
ready_moved zero is cs j x d f lt h = tt
ready_moved (suc n) [] cs j x d f lt h = absurd (omega (arith, lt))
ready_moved (suc n) (i ∷ is) [] zero x d f lt h = tt
ready_moved (suc n) (i ∷ is) [] (suc j) x d f lt h = tt
ready_moved (suc n) (i ∷ is) (c ∷ cs) zero x d f lt h = (f c h.0, h.1)
ready_moved (suc n) (i ∷ is) (c ∷ cs) (suc j) x d f lt h = (h.0, ready_moved n is cs j x d f (omega (arith, lt)) h.1)

pub none_waiting : {R : Type 0} (bytes : R → Option (List ℕ)) (cursors : List Cursor) (inputs : List (Input R)) (was : List Untested) → AreWaiting bytes cursors inputs inputs was was
none_waiting bytes cursors inputs was = record { ahead = λ h. h; given = λ low givens h. h; ready = λ n h. h; known = refl; inputs = λ h. h }

-- one more was read
pub more_waiting : {R : Type 0} (bytes : R → Option (List ℕ)) (cursors : List Cursor) (start now : List (Input R)) (was ahead after : List Untested) (i : ℕ) (d new : Input R) → AreWaiting bytes cursors start now was ahead → i < length now
    → new ≡ moved_to (reader_in new) (get_or now i d) → bytes (reader_in new) ≡ bytes (reader_in (get_or now i d)) → ((files : List Told) → slice_get files i ≡ Some (told_in bytes (get_or now i d)) → AreAhead files ahead → AreAhead files after)
    → AreWaiting bytes cursors start (set now i new) was after
more_waiting bytes cursors start now was ahead after i d new h lt is told waits =
    let old = get_or now i d in
    record {
      ahead = λ own. waits (tolds_of (knowns_of bytes start)) (ap (λ (ks : List Known). slice_get (tolds_of ks) i) (sym h.known) ∙ told_get bytes now i d lt) (h.ahead own);
      given = λ low givens own. given_moved bytes low now cursors givens i new d (stays_given bytes old new is told low) lt (h.given low givens own);
      ready = λ n own. ready_moved n now cursors i new d (stays_ready bytes old new is told) lt (h.ready n own);
      known = known_set bytes now i new d lt (stays_same bytes old new is told) ∙ h.known;
      inputs = λ own. inputs_set bytes now i new d (h.inputs own) lt (stays_input bytes old new is told);
    }
