-- What a run under its name leaves, by what its lock and its vault tell of it.
use Rattle.std.proofs.Common.{◌≡◌, ℕ, ◌+◌, ◌^◌, ◌<◌, ◌≤◌, List, [], ◌∷◌, ◌++◌, length, take, drop, Bool, not, refl, sym, ◌∙◌, ap, subst, arith, Option, None}
use Rattle.std.proofs.lemmas.List.{append-nil, drop_all, take_all}
use Rattle.std.specs.List.{AllByRecursion}
use Rattle.std.specs.Prelude.{◌==◌, ◌&&◌}
use Rattle.mesa_io.specs.Causes.{last}
use Rattle.mesa_disk.specs.Story.{Story}
use Rattle.mesa_model.specs.declared.commands.Script.{Script}
use Rattle.mesa_model.specs.declared.entries.Entry.{Entry}
use Rattle.mesa_session.specs.mesa_history_spec.Counting.{answers_bench, count_in, is_bench_fault, is_disk_fault, one_if}
use Rattle.mesa_session.specs.mesa_history_spec.Legal.{IsLegal}
use Rattle.mesa_session.specs.mesa_history_spec.Replay.{closes, go, runs}
use Rattle.mesa_session.specs.mesa_history_spec.Run.{Run, State, begins}
use Rattle.mesa_session.specs.mesa_history_spec.Bare.{bare_run, bare_state}
use Rattle.mesa_session.proofs.mesa_history_spec.Alike.{go_alike, legal_alike}
use Rattle.mesa_session.specs.mesa_core.Answers.{AreTimely, HasCounted, HaveCounted}
use Rattle.mesa_session.specs.mesa_invariant_spec.Printing.{IsPrintedButRows}
use Rattle.mesa_session.specs.mesa_invariant_spec.Invariant.{HasCounted as HasCountedFaults}
use Rattle.mesa_shell.specs.Counting.{HasBenchCounts}
use Rattle.mesa_shell.specs.Run.{RanAnyhow}
use Rattle.mesa_engine.specs.Vault.{IsRead}
use Rattle.mesa_engine.specs.DiskState.{ReadsState}

-- ---- moments

within : (h : List Entry) (since until : ℕ) → AllByRecursion (λ (e : Entry). since ≤ e.moment) h → AllByRecursion (λ (e : Entry). e.moment ≤ until) h → AllByRecursion (λ (e : Entry). (since ≤ e.moment) × (e.moment ≤ until)) h
within [] since until from to = tt
within (e ∷ h) since until from to = ((from.0, to.0), within h since until from.1 to.1)

timely : (h : List Entry) (until : ℕ) → until < last → AllByRecursion (λ (e : Entry). e.moment ≤ until) h → AreTimely h
timely [] until below to = tt
timely (e ∷ h) until below to = (omega (arith, below, to.0), timely h until below to.1)

-- ---- benches

-- which entries answer a fault of a bench hangs on the projection alone
counts_alike : (script : Script) (session : ℕ) (r s : Run) (h : List Entry) → bare_run r ≡ bare_run s → count_in (is_bench_fault session) script r h ≡ count_in (is_bench_fault session) script s h
unfolding count_in
counts_alike script session r s [] same = refl
counts_alike script session r s (e ∷ h) same =
    let moments : r.moment ≡ s.moment = ap (λ (x : Run). x.moment) same in
    λ i. one_if ((e.session == session) && answers_bench (closes (moments i) e) e.outcome) + counts_alike script session (go script r e) (go script s e) h (go_alike script r s e same) i

-- what was lent whole and came back as long is what came back
pub refilled : {X : Type 0} (n : ℕ) (items back : List X) → n ≡ length items → length back ≡ length items → take n (back ++ drop (length back) items) ≡ back
refilled n items back whole long =
    ap (λ (rest : List _). take n (back ++ rest)) (drop_all (length back) items (omega (arith, long))) ∙ ap (take n) (append-nil back) ∙ take_all n back (omega (arith, whole, long))

counted_in : {B : Type 0} (faults : B → ℕ) (story : Story) (script : Script) (first start : State) → bare_state first ≡ bare_state start → (h : List Entry) → AllByRecursion (λ (e : Entry). e.moment ≤ story.moment) h → (old new : List B)
    → HaveCounted faults script first h 0 old new → HasBenchCounts faults story script (begins start) h old new
counted_in faults story script first start same h until old new counted below session before after was now few =
    let here : 0 + session ≡ session = omega arith in
    let own : HasCounted script first h session (faults before) (faults after) = subst (λ (n : ℕ). HasCounted script first h n (faults before) (faults after)) here (counted session before after was now) in
    let some : faults before + count_in (is_bench_fault session) script (begins first) h ≤ faults after = own (timely h story.moment below until) few in
    let alike = counts_alike script session (begins first) (begins start) h (ap begins same) in
    omega (arith, some, alike)

pub benches_counted : {B : Type 0} (faults : B → ℕ) (story : Story) (script : Script) (first start : State) → bare_state first ≡ bare_state start → (seen h : List Entry) → h ≡ seen → AllByRecursion (λ (e : Entry). e.moment ≤ story.moment) h
    → (n : ℕ) (items lent back : List B) → n ≡ length items → lent ≡ items → length back ≡ length lent → HaveCounted faults script first seen 0 lent back → HasBenchCounts faults story script (begins start) h items (take n (back ++ drop (length back) items))
benches_counted {B} faults story script first start same seen h is until n items lent back whole given long counted =
    subst (λ (x : List B). HasBenchCounts faults story script (begins start) h items x) (sym (refilled n items back whole (long ∙ ap length given)))
    (subst (λ (x : List B). HasBenchCounts faults story script (begins start) h x back) given
    (counted_in faults story script first start same h until lent back (subst (λ (x : List Entry). HaveCounted faults script first x 0 lent back) (sym is) counted)))

-- ---- the lock

-- a run's turns fit into their room
pub fits_room : (n turns room most : ℕ) → n ≡ turns → room ≡ turns → room ≤ most → most < 2 ^ 60 → (turns ≤ n) × (n ≤ room) × (n < 2 ^ 60)
fits_room n turns room most is all few least = (omega (arith, is), omega (arith, is, all), omega (arith, is, all, few, least))

-- ---- the whole

pub ran_anyhow : (script : Script) (first start : State) → bare_state first ≡ bare_state start → (seen h : List Entry) → h ≡ seen → (running : Bool) (since counted : ℕ) (story : Story) → IsLegal first script seen (not running)
    → since ≤ story.moment → AllByRecursion (λ (e : Entry). since ≤ e.moment) h → AllByRecursion (λ (e : Entry). e.moment ≤ story.moment) h → HasCountedFaults counted story (count_in is_disk_fault script (begins start) h)
    → (before now : Option (List ℕ)) → IsPrintedButRows script (begins start) h (not (not running)) before now → RanAnyhow script start h (not running) since counted story before now
ran_anyhow script first start same seen h is running since counted story legal clock from to counts before now printed = record {
  clock = clock;
  legal = subst (λ (x : List Entry). IsLegal start script x (not running)) (sym is) (legal_alike first start script seen (not running) same legal);
  moments = within h since story.moment from to;
  counts = counts;
  printed = printed;
}

-- ---- no turn

-- Behind no turn a read gives an image.
pub read_first : (script : Script) (start : State) (h : List Entry) (story : Story) → h ≡ [] → start.warehouse.closed ≡ None → ReadsState script start h story → IsRead story
unfolding runs
read_first script start h story none unclosed reads = let read = subst (λ (x : List Entry). ReadsState script start x story) none reads unclosed in (read.0, read.1)
