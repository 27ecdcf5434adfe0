-- The invariant before its first turn, and one whose disk gave readers back.
use Rattle.std.proofs.Common.{◌≡◌, ℕ, ◌+◌, ◌<◌, ◌≤◌, List, [], Bool, true, false, IsTrue, refl, sym, subst, arith, Option}
use Rattle.std.specs.Io.KnownBytes.{Appends}
use Rattle.std.proofs.KnownBytes.{Appends-nil}
use Rattle.mesa_disk.specs.mesa_io.Causes.{last}
use Rattle.mesa_disk.specs.Story.{Story, Unmoved}
use Rattle.mesa_history_spec.specs.mesa_model.declared.entries.Entry.{Entry}
use Rattle.mesa_history_spec.specs.Replay.{runs}
use Rattle.mesa_history_spec.specs.Legal.{AllFit}
use Rattle.mesa_history_spec.specs.Counting.{count_in}
use Rattle.mesa_history_spec.specs.Refused.{some_refused}
use Rattle.mesa_history_spec.specs.Output.{IsOutput}
use Rattle.mesa_invariant_spec.specs.Books.{Books, AreBooksOf}
use Rattle.mesa_invariant_spec.specs.Printing.{IsOutputButRows}
use Rattle.mesa_invariant_spec.specs.Invariant.{Outset, run_of, AllBy, IsAtClock, AllFound, HoldsInvariant, Counts}

-- Books of the start, on a disk whose images are found without any entry.
pub started : (o : Outset) (sound : Bool) (books : Books) (story : Story) (held : Option (List ℕ)) → AreBooksOf sound books o.start → o.since ≤ story.moment → o.counted ≤ story.faults + story.read_faults → (IsTrue sound → AllFound o [] story) → held ≡ o.at_start
    → HoldsInvariant o sound books story held [] true false
unfolding runs AllFit count_in some_refused IsOutput IsOutputButRows
started o sound books story held state begun counted found same = record {
  state = state;
  legal = tt;
  short = tt;
  by = tt;
  at = tt;
  begun = begun;
  sink = refl;
  told = refl;
  counts = λ low below under. omega (arith, counted);
  shown = record { text = []; output = refl; held = subst (λ x. Appends x held []) same (Appends-nil held) };
  printed = λ ok low. record { text = []; output = refl; held = subst (λ x. Appends x held []) same (Appends-nil held) };
  found = found;
}

-- Calls that move no image keep the invariant, and so does a rise of a count.
pub unmoved_invariant : (o : Outset) (sound : Bool) (books : Books) (story new : Story) (held : Option (List ℕ)) (h : List Entry) (running refused : Bool) → Unmoved story new → Counts story new false → HoldsInvariant o sound books story held h running refused → HoldsInvariant o sound books new held h running refused
unmoved_invariant o sound books story new held h running refused same counts v = record {
  state = v.state;
  legal = v.legal;
  short = v.short;
  by = subst (AllBy h) (sym same.moment) v.by;
  at = subst (IsAtClock (run_of o h).moment) (sym same.moment) v.at;
  begun = subst (λ m. o.since ≤ m) (sym same.moment) v.begun;
  sink = v.sink;
  told = v.told;
  counts = λ low below under. (let had = v.counts (subst (λ m. m < last) same.moment low) (omega (arith, below, counts.faults)) (omega (arith, under, counts.reads)) in omega (arith, had, counts.faults, counts.reads));
  shown = v.shown;
  printed = λ ok low. v.printed ok (subst (λ m. m < last) same.moment low);
  found = λ ok below t c from to left. v.found ok (subst (λ m. m < last) same.moment below) t c from (subst (λ m. t ≤ m) same.moment to) ((same.may_have_left t c).0 left);
}
