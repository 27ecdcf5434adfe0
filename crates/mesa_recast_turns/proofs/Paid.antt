-- A fault that is unpaid: a close may answer it.
use Rattle.std.proofs.Common.{◌≡◌, ◌⊎◌, inl, inr, ⊎_elim, ℕ, zero, suc, ◌+◌, ◌<◌, ◌≤◌, List, Bool, true, false, refl, arith, Option, None, Some, IsTrue}
use Rattle.std.proofs.lemmas.Bool.Decides.{leb_tells}
use Rattle.mesa_disk.specs.Story.{Story, Unmoved}
use Rattle.mesa_io.specs.Causes.{last}
use Rattle.mesa_engine.specs.EngineState.{EngineState, books_of}
use Rattle.mesa_engine.specs.Vault.{Origin, IsVault}
use Rattle.mesa_work_turns.specs.mesa_invariant_spec.Invariant.{Counts, HasCounted, HoldsInvariant, Outset, faults_in}
use Rattle.mesa_model.specs.declared.entries.Entry.{Entry}
use Rattle.mesa_work_turns.specs.Unmerged.{closing_cause}
use Rattle.mesa_work_turns.proofs.Closings.{IsPaid, paid_back}
use Rattle.mesa_delta.specs.declared.error.FileError.TheVariants as file_error
use Rattle.mesa_delta.specs.declared.input.Input.{Input}
use Rattle.mesa_work_turns.specs.mesa_history_spec.Counting.{answers_disk}
use Rattle.mesa_work_turns.specs.mesa_history_spec.Legal.{is_answered}
use Rattle.mesa_work_turns.specs.mesa_history_spec.Machine.{Claim}
use Rattle.mesa_work_turns.specs.mesa_invariant_spec.Works.{closing_stage}
use Rattle.mesa_work_turns.specs.mesa_invariant_spec.Causes.{outcome_of}
use Rattle.mesa_open_files.specs.GivingBack.{GivesBack, SomeFailed}
use Rattle.mesa_open_files.specs.declared.merging.CompactError.{CompactError}
use Rattle.mesa_open_files.specs.declared.merging.CompactError.TheVariants as compact

-- the story with these counts
abbrev with_counts : Story → ℕ → ℕ → Story
with_counts story calls reads = record story { faults = calls; read_faults = reads }

module _ (o : Outset) (g : Origin) (sound : Bool) (l : EngineState) (story new : Story) (held : Option (List ℕ)) (h : List Entry) (running refused : Bool) (v : IsVault o g sound l story held h running refused)
    (unmoved : Unmoved story new) (calls : story.faults ≤ new.faults) (reads : story.read_faults ≤ new.read_faults) where
  -- the invariant hangs on the counts only by how many faults it has answered
  counted_so : (calls reads : ℕ) → HasCounted o.counted (with_counts story calls reads) (faults_in o h) → HoldsInvariant o sound (books_of v.rows l) (with_counts story calls reads) held h running refused
  counted_so calls reads counts = record {
    state = v.invariant.state;
    legal = v.invariant.legal;
    short = v.invariant.short;
    by = v.invariant.by;
    at = v.invariant.at;
    begun = v.invariant.begun;
    sink = v.invariant.sink;
    told = v.invariant.told;
    counts = counts;
    shown = v.invariant.shown;
    printed = v.invariant.printed;
    found = v.invariant.found;
  }

  unmoved_so : (calls reads : ℕ) → Unmoved (with_counts story calls reads) new
  unmoved_so calls reads = record { told = unmoved.told; len = unmoved.len; moment = unmoved.moment; may_leave = unmoved.may_leave; may_have_left = unmoved.may_have_left }

  -- where a count stands at its last value, it may be taken to have risen
  as_it_is : Counts story new true → IsPaid o g sound l story new held h running refused v true
  as_it_is counts = record { before = story; invariant = v.invariant; moment = refl; unmoved = unmoved; counts = counts; quiet = record { faults = calls; reads = reads; rose = λ low answers. absurd cc } }

  -- and else one of them has, which no entry has answered yet: the invariant is one from before it
  from_calls : (n : ℕ) → story.faults ≡ suc n → HasCounted o.counted (with_counts story n story.read_faults) (faults_in o h) → IsPaid o g sound l story new held h running refused v true
  from_calls n is counts = record {
    before = with_counts story n story.read_faults;
    invariant = counted_so n story.read_faults counts;
    moment = refl;
    unmoved = unmoved_so n story.read_faults;
    counts = record { faults = omega (arith, is, calls); reads = reads; rose = λ low answers. inl (omega (arith, is, calls)) };
    quiet = record { faults = omega (arith, is, calls); reads = reads; rose = λ low answers. absurd cc };
  }

  from_reads : (n : ℕ) → story.read_faults ≡ suc n → HasCounted o.counted (with_counts story story.faults n) (faults_in o h) → IsPaid o g sound l story new held h running refused v true
  from_reads n is counts = record {
    before = with_counts story story.faults n;
    invariant = counted_so story.faults n counts;
    moment = refl;
    unmoved = unmoved_so story.faults n;
    counts = record { faults = calls; reads = omega (arith, is, reads); rose = λ low answers. inr (omega (arith, is, reads)) };
    quiet = record { faults = calls; reads = omega (arith, is, reads); rose = λ low answers. absurd cc };
  }

  pub unpaid_backs : (story.moment < last → story.faults < last → story.read_faults < last → o.counted + (faults_in o h + 1) ≤ story.faults + story.read_faults) → IsPaid o g sound l story new held h running refused v true
  unpaid_backs unpaid = ⊎_elim
      (λ full. as_it_is (record { faults = calls; reads = reads; rose = λ low answers. inl (let most = full.1 in omega (arith, calls, most)) }))
      (λ low. ⊎_elim
      (λ full. as_it_is (record { faults = calls; reads = reads; rose = λ less answers. inr (let most = full.1 in omega (arith, reads, most)) }))
      (λ lower. by story.faults story.read_faults refl refl low.1 lower.1)
      (leb_tells last story.read_faults))
      (leb_tells last story.faults)
    where
      by : (m n : ℕ) → story.faults ≡ m → story.read_faults ≡ n → story.faults < last → story.read_faults < last → IsPaid o g sound l story new held h running refused v true
      by (suc m) n is other low lower = from_calls m is (λ below a b. let more = unpaid below low lower in omega (arith, more, is))
      by zero (suc n) is other low lower = from_reads n other (λ below a b. let more = unpaid below low lower in omega (arith, more, other))
      by zero zero is other low lower = as_it_is (record { faults = calls; reads = reads; rose = λ below answers. absurd (let same = unmoved.moment in let more = unpaid (omega (arith, below, same)) low lower in omega (arith, more, is, other)) })

-- So the fault of a close is paid: one of a reader that is given back is counted then, and the other one was.
pub paid : {R : Type 0} (o : Outset) (g : Origin) (sound : Bool) (l : EngineState) (story new : Story) (held : Option (List ℕ)) (h : List Entry) (running refused : Bool) (v : IsVault o g sound l story held h running refused) → Unmoved story new
    → (failures : R → ℕ) (inputs : List (Input R)) → GivesBack failures inputs story new → (answers : Bool)
    → (answers ≡ true → SomeFailed failures inputs ⊎ (story.moment < last → story.faults < last → story.read_faults < last → o.counted + (faults_in o h + 1) ≤ story.faults + story.read_faults)) → IsPaid o g sound l story new held h running refused v answers
paid o g sound l story new held h running refused v unmoved failures inputs given false read = paid_back o g sound l story new held h running refused v false unmoved failures inputs given (λ is. absurd cc)
paid o g sound l story new held h running refused v unmoved failures inputs given true read = ⊎_elim
    (λ failed. paid_back o g sound l story new held h running refused v true unmoved failures inputs given (λ is. failed))
    (λ unpaid. unpaid_backs o g sound l story new held h running refused v unmoved (let same = given.calls in omega (arith, same)) given.later unpaid)
    (read refl)

-- ---- the stage of a close

-- No query is answered in it.
pub close_unanswered : (early : Bool) (claim : Claim) → is_answered (closing_stage early claim) ≡ false
close_unanswered true claim = refl
close_unanswered false claim = refl

-- ---- which faults a close answers

-- Where it doesn't close the vault, one of the disk only for a read that failed.
pub only_read : (closed : Option ℕ) (error : CompactError) → IsTrue (answers_disk false (outcome_of (closing_cause closed error))) → error ≡ compact.File file_error.Read
only_read (Some position) error is = absurd cc
only_read None compact.Draft is = absurd cc
only_read None (compact.File file_error.Read) is = refl
only_read None (compact.File (file_error.Damaged damage)) is = absurd cc
only_read None (compact.File file_error.Memory) is = absurd cc
