-- A history that passes the tests is legal.
use Rattle.std.proofs.Common.{List, [], ◌∷◌, Bool, true, false, IsTrue, ◌&&◌, refl}
use Rattle.mesa_script.specs.mesa_model.declared.commands.Script.{Script}
use Rattle.mesa_script.specs.mesa_model.declared.entries.Entry.{Entry}
use Rattle.mesa_history_spec.specs.Run.{State, Run, begins}
use Rattle.mesa_history_spec.specs.Replay.{told_by, is_skipped, go, runs}
use Rattle.mesa_history_spec.specs.Legal.{Fits, AllFit, IsLegal, fits_prologue, is_due, fits_renewal, fits_sink, fits_moment, fits_outcome, fits_reading, fits_writing, fits_closed, is_fit, are_fit, ends_well, is_legal}

left_of : (a b : Bool) → IsTrue (a && b) → IsTrue a
left_of true b is = refl
left_of false b is = absurd cc

right_of : (a b : Bool) → IsTrue (a && b) → IsTrue b
right_of true b is = is
right_of false b is = absurd cc

module _ (script : Script) (r : Run) (e : Entry) where
  abbrev from_closed : Bool
  from_closed = fits_closed r e

  abbrev from_writing : Bool
  from_writing = fits_writing script r e && from_closed

  abbrev from_reading : Bool
  from_reading = fits_reading script r e && from_writing

  abbrev from_outcome : Bool
  from_outcome = fits_outcome script e && from_reading

  abbrev from_moment : Bool
  from_moment = fits_moment r.moment (told_by script r e) e && from_outcome

  abbrev from_sink : Bool
  from_sink = fits_sink r.last (is_skipped e) && from_moment

  abbrev from_renewal : Bool
  from_renewal = fits_renewal r e && from_sink

  abbrev from_due : Bool
  from_due = is_due script r e && from_renewal

  pub fits_by_test : IsTrue (is_fit script r e) → Fits script r e
  fits_by_test is =
      let due : IsTrue from_due = right_of (fits_prologue r e) from_due is in
      let renewal : IsTrue from_renewal = right_of (is_due script r e) from_renewal due in
      let sink : IsTrue from_sink = right_of (fits_renewal r e) from_sink renewal in
      let moment : IsTrue from_moment = right_of (fits_sink r.last (is_skipped e)) from_moment sink in
      let outcome : IsTrue from_outcome = right_of (fits_moment r.moment (told_by script r e) e) from_outcome moment in
      let reading : IsTrue from_reading = right_of (fits_outcome script e) from_reading outcome in
      let writing : IsTrue from_writing = right_of (fits_reading script r e) from_writing reading in
      record {
        prologue = left_of (fits_prologue r e) from_due is;
        due = left_of (is_due script r e) from_renewal due;
        renewal = left_of (fits_renewal r e) from_sink renewal;
        sink = left_of (fits_sink r.last (is_skipped e)) from_moment sink;
        moment = left_of (fits_moment r.moment (told_by script r e) e) from_outcome moment;
        outcome = left_of (fits_outcome script e) from_reading outcome;
        reading = left_of (fits_reading script r e) from_writing reading;
        writing = left_of (fits_writing script r e) from_closed writing;
        closed = right_of (fits_writing script r e) from_closed writing;
      }

all_fit_by_test : (script : Script) (r : Run) (h : List Entry) → IsTrue (are_fit script r h) → AllFit script r h
unfolding AllFit are_fit
all_fit_by_test script r [] is = tt
all_fit_by_test script r (e ∷ h) is =
    (fits_by_test script r e (left_of (is_fit script r e) (are_fit script (go script r e) h) is), all_fit_by_test script (go script r e) h (right_of (is_fit script r e) (are_fit script (go script r e) h) is))

-- A history that passes the tests is legal.
pub legal_by_test : (start : State) (script : Script) (h : List Entry) (failed : Bool) → IsTrue (is_legal start script h failed) → IsLegal start script h failed
legal_by_test start script h failed is = record {
  each = all_fit_by_test script (begins start) h (left_of (are_fit script (begins start) h) (ends_well failed script (runs script (begins start) h)) is);
  ends = right_of (are_fit script (begins start) h) (ends_well failed script (runs script (begins start) h)) is;
}
