-- Which calls on a bench in memory and on its drafts fail.
use Rattle.std.specs.Prelude.{◌≡◌, ◌⊎◌, ℕ, ◌+◌, ◌==◌, min, List, map}
use Rattle.std.specs.List.{Contains, filter}
use Rattle.mesa_io.specs.Causes.{last}
use Rattle.mesa_disk.specs.declared.memory.bench.MemBench.{MemBench}
use Rattle.mesa_disk.specs.declared.memory.bench.MemDraft.{MemDraft}

-- the calls that fail, each by its draft's number and its own, which is 0 for the making of the draft
abbrev pub failing_calls : MemBench → List (ℕ × ℕ)
failing_calls b = b.fails.items

-- how many drafts were asked for
abbrev pub drafts_made : MemBench → ℕ
drafts_made b = b.drafts

-- the ids under which drafts were given, in their order
abbrev pub given_ids : MemBench → List ℕ
given_ids b = b.given.items

-- how often a bench has failed
abbrev pub bench_faults : MemBench → ℕ
bench_faults b = b.faults

-- a draft's id, its bytes, how often it has failed, which of its calls fail, and how many were made
abbrev pub draft_id : MemDraft → ℕ
draft_id d = d.id

abbrev pub draft_bytes : MemDraft → List ℕ
draft_bytes d = d.bytes.items

abbrev pub draft_faults : MemDraft → ℕ
draft_faults d = d.faults

abbrev pub draft_fails : MemDraft → List ℕ
draft_fails d = d.fails.items

abbrev pub draft_calls : MemDraft → ℕ
draft_calls d = d.calls

-- the calls on a draft of this number that fail
abbrev pub calls_of : ℕ → List (ℕ × ℕ) → List ℕ
calls_of draft fails = map (λ f. f.1) (filter (λ f. f.0 == draft) fails)

-- The next draft of a bench fails, if it is asked for under this id: its number is one of those that are to fail, or a draft was given under this id before.
abbrev pub DraftIsDue : MemBench → ℕ → Type 0
DraftIsDue b id = Contains (failing_calls b) (drafts_made b, 0) ⊎ Contains (given_ids b) id

-- The next call on a draft fails; they are counted from 1.
abbrev pub CallIsDue : MemDraft → Type 0
CallIsDue d = Contains (draft_fails d) (min (draft_calls d + 1) last)

-- A draft that no call was made on yet, and of which those calls fail that its bench names for its number.
pub record IsFresh (b : MemBench) (d : MemDraft) : Type 0 where
  pub fails : draft_fails d ≡ calls_of (drafts_made b) (failing_calls b)
  pub calls : draft_calls d ≡ 0

-- A call on a draft is counted.
pub record CountsCall (old new : MemDraft) : Type 0 where
  pub calls : draft_calls new ≡ min (draft_calls old + 1) last
  pub fails : draft_fails new ≡ draft_fails old
