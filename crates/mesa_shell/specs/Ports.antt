-- What is known of what a call is given.
use Rattle.std.specs.Prelude.{ℕ, List, Option, Some}
use Rattle.mesa_disk.specs.Story.{Story}

-- What is known of a sink, a disk, a finished file and a bench: what a sink was given, where that is told, and how often it failed; a disk's story; a file's bytes, where they are told; and how often a bench failed.
pub record Ports (K D M B : Type 0) : Type 1 where
  pub held : K → Option (List ℕ)
  pub sink_faults : K → ℕ
  pub story : D → Story
  pub bytes : M → Option (List ℕ)
  pub bench_faults : B → ℕ

abbrev pub ports : {K D M B : Type 0} → (K → Option (List ℕ)) → (K → ℕ) → (D → Story) → (M → Option (List ℕ)) → (B → ℕ) → Ports K D M B
ports held sink_faults story bytes bench_faults = record { held = held; sink_faults = sink_faults; story = story; bytes = bytes; bench_faults = bench_faults }

-- the same over a sink in memory, which is what it holds
abbrev pub in_memory : {K D M B : Type 0} → Ports K D M B → Ports (List ℕ) D M B
in_memory p = record { held = λ text. Some text; sink_faults = λ text. 0; story = p.story; bytes = p.bytes; bench_faults = p.bench_faults }
