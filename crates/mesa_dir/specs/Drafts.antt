-- What is known of a draft in a folder, of a finished file and of a bench.
use Rattle.std.specs.Prelude.{ℕ, List, Option, string_bytes}
use Rattle.mesa_os.specs.Calls.{Call}
use Rattle.mesa_dir.specs.Told.{told_bytes}
use Rattle.mesa_os.specs.declared.system.System.{Ghosts}
use Rattle.mesa_dir.specs.declared.draft.DirDraft.{DirDraft}
use Rattle.mesa_dir.specs.declared.draft.DirMade.{DirMade}
use Rattle.mesa_dir.specs.declared.bench.DirBench.{DirBench}

-- the calls on a draft's file, the newest first, where they are told
abbrev pub draft_calls : {S H C : Type 0} {G : Ghosts S H C} → DirDraft S H C G → Option (List Call)
draft_calls {G = ghosts} d = ghosts.calls d.file

-- the bytes of a draft so far, where they are told
abbrev pub draft_bytes : {S H C : Type 0} {G : Ghosts S H C} → DirDraft S H C G → Option (List ℕ)
draft_bytes d = told_bytes (draft_calls d)

-- where a draft's file lies
abbrev pub path_of_draft : {S H C : Type 0} {G : Ghosts S H C} → DirDraft S H C G → List ℕ
path_of_draft d = string_bytes d.name.path

-- a draft's id, and how often it has failed
abbrev pub draft_id : {S H C : Type 0} {G : Ghosts S H C} → DirDraft S H C G → ℕ
draft_id d = d.id

abbrev pub draft_faults : {S H C : Type 0} {G : Ghosts S H C} → DirDraft S H C G → ℕ
draft_faults d = d.faults

-- the calls on a finished file, the newest first, where they are told
abbrev pub made_calls : {S H C : Type 0} {G : Ghosts S H C} → DirMade S H C G → Option (List Call)
made_calls {G = ghosts} m = ghosts.closed_calls m.closed

-- the bytes of a finished file, where they are told
abbrev pub made_bytes : {S H C : Type 0} {G : Ghosts S H C} → DirMade S H C G → Option (List ℕ)
made_bytes m = told_bytes (made_calls m)

-- where a finished file lies
abbrev pub path_of_made : {S H C : Type 0} {G : Ghosts S H C} → DirMade S H C G → List ℕ
path_of_made m = string_bytes m.name.path

-- a finished file's id
abbrev pub made_id : {S H C : Type 0} {G : Ghosts S H C} → DirMade S H C G → ℕ
made_id m = m.id

-- the path of a bench's folder, and how often the bench has failed
abbrev pub bench_folder : {S H C : Type 0} → DirBench S H C → List ℕ
bench_folder b = string_bytes b.folder

abbrev pub bench_faults : {S H C : Type 0} → DirBench S H C → ℕ
bench_faults b = b.faults
