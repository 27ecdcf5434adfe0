-- Works whose files are handed out, and what they are merged to.
use Rattle.std.specs.Prelude.{◌≡◌, ℕ, List, ◌++◌, Option, None, IfSome, Result, Ok, Err, ⊤}
use Rattle.std.specs.List.{AllByRecursion}
use Rattle.mesa_open_files.specs.mesa_file.declared.damage.Damage.{Damage}
use Rattle.mesa_engine.specs.mesa_span.declared.works.Work.{Work}
use Rattle.mesa_recast_turns.specs.mesa_schema.Changes.{Lineage}
use Rattle.mesa_model.specs.declared.entries.Entry.{Entry}
use Rattle.mesa_recast_turns.specs.mesa_compact.Bounded.{IsBounded}
use Rattle.mesa_recast_turns.specs.mesa_merge.Inputs.{Known as KnownFile, knowns_of}
use Rattle.mesa_open_files.specs.GivingBack.{task_inputs}
use Rattle.mesa_open_files.specs.Spares.{IsSpareOf}
use Rattle.mesa_open_files.specs.Tasks.{IsTask, IsMerged}
use Rattle.mesa_open_files.specs.declared.merging.CompactError.{CompactError}
use Rattle.mesa_open_files.specs.declared.merging.CompactError.TheVariants as compact
use Rattle.mesa_open_files.specs.declared.merging.NewDelta.{NewDelta}
use Rattle.mesa_open_files.specs.declared.merging.Task.{Task}
use Rattle.mesa_core.specs.Damages.{IsUnread}
use Rattle.mesa_open_files.specs.Errors.{Differs}

-- What is known of a task while its files are handed out, however much of them was read.
pub record KnownTask : Type 0 where
  pub table : ℕ
  pub work : Work
  pub lease : ℕ
  pub epoch : ℕ
  pub files : List KnownFile
  pub damage : Option Damage

abbrev pub known_task : {R : Type 0} → (R → Option (List ℕ)) → Task R → KnownTask
known_task bytes t = record { table = t.table; work = t.work; lease = t.lease; epoch = t.epoch; files = knowns_of bytes t.inputs.items; damage = t.damage }

-- A task that can be merged: it is one of a table with some columns and views; damage that was met where its files were opened differs from what was wanted; and where none was met, its further readers are of just its files.
pub record CanBeMerged {R : Type 0} (bytes : R → Option (List ℕ)) (t : Task R) : Type 0 where
  pub task : (l : Lineage) × IsTask bytes l t
  pub damage : IfSome t.damage Differs
  pub spare : t.damage ≡ None → AllByRecursion (IsSpareOf bytes t) t.spare.items

-- A task or a recast was handed out somewhere in a history: this was so of it by the history up to there.
pub record WasGranted {Known : Type 0} (granted : List Entry → Known → Type 0) (h : List Entry) (t : Known) : Type 0 where
  pub past : List Entry
  pub later : List Entry
  pub whole : past ++ later ≡ h
  pub was : granted past t

-- Which damage a task's files may bring: what was found isn't what was wanted, and unless it was met where they were opened, it never comes where all files are told, each that of its index, and no sum over their rows leaves its type.
pub record IsMergeDamage {R : Type 0} (bytes : R → Option (List ℕ)) (l : Lineage) (t : Task R) (d : Damage) : Type 0 where
  pub differs : Differs d
  pub never : t.damage ≡ None → IsBounded bytes l t → ⊥

-- Why a task has no delta: a draft failed; or its files weren't read.
abbrev pub IsUnmerged : {R : Type 0} → (R → Option (List ℕ)) → (R → ℕ) → Lineage → Task R → CompactError → Type 0
IsUnmerged bytes faults l t compact.Draft = ⊤
IsUnmerged bytes faults l t (compact.File e) = IsUnread faults (task_inputs t) (IsMergeDamage bytes l t) e

-- A task's delta, or why there is none.
abbrev pub IsDeltaOf : {M R : Type 0} → (M → Option (List ℕ)) → (M → ℕ) → (R → Option (List ℕ)) → (R → ℕ) → Lineage → Task R → Result (NewDelta M) CompactError → Type 0
IsDeltaOf bytes id_of read faults l t (Ok delta) = IsMerged bytes id_of read l t delta
IsDeltaOf bytes id_of read faults l t (Err e) = IsUnmerged read faults l t e

-- What a work is closed with: its files, which can be read still, and what came of merging them.
abbrev pub HasMerged : {M R : Type 0} → (M → Option (List ℕ)) → (M → ℕ) → (R → Option (List ℕ)) → (R → ℕ) → Task R → Result (NewDelta M) CompactError → Type 0
HasMerged bytes id_of read faults t merged = (l : Lineage) × IsTask read l t × IsDeltaOf bytes id_of read faults l t merged
