-- Rounds, in which pieces are merged while those of the round before are written.
use Rattle.std.specs.Prelude.{◌≡◌, ◌⊎◌, ◌<◌, ◌++◌, ℕ, List, Vec, [], length, map, Bool, true, false, IfErr, IfOk, IsTrue, OnOk, Option, None, Some, Result}
use Rattle.std.specs.declared.alloc.Global.{Global}
use Rattle.std.specs.List.{AllByRecursion}
use Rattle.mesa_compact.specs.mesa_io.Causes.{HasFaultCause}
use Rattle.mesa_file.specs.declared.damage.Damage.{Damage}
use Rattle.mesa_compact.specs.mesa_columns.declared.rows.Row.{Row}
use Rattle.mesa_compact.specs.mesa_columns.Columns.{Columns, aggs_of}
use Rattle.mesa_open_files.specs.mesa_fold.Folded.{folded}
use Rattle.mesa_compact.specs.mesa_columns.Rows.{keys_rise}
use Rattle.mesa_delta.specs.Writing.{HasTaken, columns_of, draft_of, id_of}
use Rattle.mesa_delta.specs.declared.error.FileError.{FileError}
use Rattle.mesa_delta.specs.declared.input.Input.{Input}
use Rattle.mesa_delta.specs.declared.writer.DeltaWriter.{DeltaWriter}
use Rattle.mesa_answer.specs.Answering.{KeepsSums}
use Rattle.mesa_answer.specs.declared.groups.Groups.{Groups}
use Rattle.mesa_compact.specs.mesa_scan.Cursors.{IsInput}
use Rattle.mesa_merge.specs.Inputs.{Known, knowns_of, lifted_parts}
use Rattle.mesa_merge.specs.Sums.{sum_damage}
use Rattle.mesa_open_files.specs.Made.{IsMadeFile}
use Rattle.mesa_open_files.specs.declared.made.MadeFile.{MadeFile}
use Rattle.mesa_open_files.specs.declared.merging.CompactError.{CompactError}
use Rattle.mesa_compact.specs.Bounded.{AreBounded}
use Rattle.mesa_compact.specs.Damaged.{BeginMerged, LeavesAmong, RowLeaves}
use Rattle.mesa_answer.specs.Gathered.{wanted_of}
use Rattle.mesa_compact.specs.Grouping.{HavePut}
use Rattle.mesa_compact.specs.Writing.{IsDraftFault, IsReadFault, damaged_by}
use Rattle.mesa_split.specs.Held.{held_bytes, sent_bytes}
use Rattle.mesa_split.specs.Lending.{AllTell, HavePieces, IsDamageIn, IsEndOf, Moved, answers_of, counts_in, knowns_in, own_in}
use Rattle.mesa_split.specs.Parts.{IsPartOf}
use Rattle.mesa_split.specs.Split.{IsGained}
use Rattle.mesa_split.specs.Written.{HasPoured}
use Rattle.mesa_split.specs.declared.held.Held.{Held}
use Rattle.mesa_split.specs.declared.parts.Part.{Part}

-- the rows of the whole merge of inputs that are told, in these columns
abbrev pub merge_of : Columns → List Known → List (List Row) → List Row
merge_of s knowns contents = folded (aggs_of s) (lifted_parts knowns contents)

-- A total over the first rows of the merge of inputs really leaves its type: this is its damage.
pub record IsFrontTotal (s : Columns) (knowns : List Known) (newest : ℕ) (d : Damage) : Type 0 where
  pub rows : List Row
  pub begins : BeginMerged s knowns rows
  pub leaves : LeavesAmong (RowLeaves s) rows
  pub told : d ≡ sum_damage newest

-- What is known of parts stays, and each input is one.
pub record StayInputs {R : Type 0} (bytes : R → Option (List ℕ)) (olds news : List (Part R)) : Type 0 where
  pub known : knowns_in bytes news ≡ knowns_in bytes olds
  pub each : AllByRecursion (λ (p : Part R). AllByRecursion (IsInput bytes) p.inputs.items) news

-- What stays of a writer, and of the draft beside it, while rows are given to it.
pub record StaysOver {M D : Type 0} (drawn : D → ℕ) (old new : DeltaWriter M (Held M D)) (before now : D) (groups : List Groups) (after : List Groups) : Type 0 where
  pub columns : columns_of new ≡ columns_of old
  pub id : id_of new ≡ id_of old
  pub draft : drawn now ≡ drawn before
  pub wanted : map wanted_of after ≡ map wanted_of groups

-- What came of putting what a writer holds on its draft.
pub record IsFlushed {M D U : Type 0} (told : D → Option (List ℕ)) (drawn counted : D → ℕ) (old new : DeltaWriter M (Held M D)) (before now : D) (answer : Result U CompactError) : Type 0 where
  pub taken : OnOk answer ((rows : List Row) → HasTaken (held_bytes told) old rows → HasTaken (held_bytes told) new rows)
  pub sent : OnOk answer (sent_bytes told (draft_of new) ≡ told now)
  pub flushed : OnOk answer (held_bytes told (draft_of new) ≡ told now)
  pub columns : columns_of new ≡ columns_of old
  pub id : id_of new ≡ id_of old
  pub draft : drawn now ≡ drawn before
  pub cause : HasFaultCause IsDraftFault (counted before) (counted now) answer
  pub plain : IfErr answer (λ e. (IsReadFault e → ⊥) × ((d : Damage) → e ≡ damaged_by d → ⊥))

-- What came of giving rows to a writer and putting all that it holds on its draft.
pub record HasFlushed {M D U : Type 0} (told : D → Option (List ℕ)) (drawn counted : D → ℕ) (newest : ℕ) (rows : List Row) (old new : DeltaWriter M (Held M D)) (before now : D) (groups after : List Groups) (answer : Result U CompactError) : Type 0 where
  pub poured : OnOk answer ((given : List Row) → HasPoured (held_bytes told) old groups given → IsTrue (keys_rise (given ++ rows)) → HasPoured (held_bytes told) new after (given ++ rows))
  pub flushed : OnOk answer (held_bytes told (draft_of new) ≡ told now)
  pub over : StaysOver drawn old new before now groups after
  pub drafts : HasFaultCause IsDraftFault (counted before) (counted now) answer
  pub read : IfErr answer (λ e. IsReadFault e → ⊥)
  pub damaged : IfErr answer (λ e. (d : Damage) → e ≡ damaged_by d → (d ≡ sum_damage newest) × ((given : List Row) → HasPoured (held_bytes told) old groups given → IsTrue (keys_rise (given ++ rows)) → LeavesAmong (RowLeaves (columns_of old)) (given ++ rows)))
  pub accepts : IfErr answer (λ e. (d : Damage) → e ≡ damaged_by d → (given : List Row) → HasPoured (held_bytes told) old groups given → IsTrue (keys_rise (given ++ rows)) → KeepsSums (columns_of old) (given ++ rows) → ⊥)

-- What came of a round: parts merged the next pieces, and those of the round before, which have these rows, were given to a writer and put on its draft.
pub record HasRound {M D R : Type 0} (told : D → Option (List ℕ)) (drawn counted : D → ℕ) (bytes : R → Option (List ℕ)) (faults size : R → ℕ) (s : Columns) (cuts : List (List ℕ)) (first newest : ℕ) (rows : List Row) (olds news : List (Part R)) (old new : DeltaWriter M (Held M D)) (before now : D) (groups after : List Groups) (answer : Result (Vec (Result (List Row) FileError) Global) CompactError) : Type 0 where
  pub pieces : IfOk answer (λ made. (mid : List (Part R)) × HavePieces bytes faults size s cuts first olds mid × (made.items ≡ answers_of mid) × AllByRecursion IsGained made.items × (counts_in faults news ≡ counts_in faults olds))
  pub poured : OnOk answer ((given : List Row) → HasPoured (held_bytes told) old groups given → IsTrue (keys_rise (given ++ rows)) → HasPoured (held_bytes told) new after (given ++ rows))
  pub sent : OnOk answer (sent_bytes told (draft_of new) ≡ told now)
  pub over : StaysOver drawn old new before now groups after
  pub inputs : StayInputs bytes olds news
  pub drafts : HasFaultCause IsDraftFault (counted before) (counted now) answer
  pub reads : (answers : List (Result (List Row) FileError)) × Moved (counts_in faults olds) (counts_in faults news) answers × IsEndOf answers answer
  pub damaged : IfErr answer (λ e. (d : Damage) → e ≡ damaged_by d → IsDamageIn bytes size news d ⊎ ((d ≡ sum_damage newest) × ((given : List Row) → HasPoured (held_bytes told) old groups given → IsTrue (keys_rise (given ++ rows)) → LeavesAmong (RowLeaves (columns_of old)) (given ++ rows))))
  pub accepts : IfErr answer (λ e. (d : Damage) → e ≡ damaged_by d → AllTell bytes (own_in olds) olds → AreBounded s (knowns_of bytes (own_in olds)) → (given : List Row) → HasPoured (held_bytes told) old groups given → IsTrue (keys_rise (given ++ rows)) → KeepsSums (columns_of old) (given ++ rows) → ⊥)

-- All rows of the merge of inputs were given to a writer, whose bytes are all on the draft; and whether there are any.
pub record HasAll {M D R : Type 0} (told : D → Option (List ℕ)) (bytes : R → Option (List ℕ)) (s : Columns) (own : List (Input R)) (w : DeltaWriter M (Held M D)) (draft : D) (groups : List Groups) (some : Bool) : Type 0 where
  pub rows : List Row
  pub poured : HasPoured (held_bytes told) w groups rows
  pub merge : IsPartOf s None None (knowns_of bytes own) rows
  pub many : some ≡ true → 0 < length rows
  pub none : some ≡ false → rows ≡ []
  pub flushed : held_bytes told (draft_of w) ≡ told draft

-- What came of merging all pieces and giving them to a writer, where each part reads what the own inputs read.
pub record HasRun {M D R : Type 0} (told : D → Option (List ℕ)) (drawn counted : D → ℕ) (bytes : R → Option (List ℕ)) (faults size : R → ℕ) (s : Columns) (newest : ℕ) (own : List (Input R)) (olds news : List (Part R)) (old new : DeltaWriter M (Held M D)) (before now : D) (groups after : List Groups) (answer : Result Bool CompactError) : Type 0 where
  pub all : IfOk answer (HasAll told bytes s own new now after)
  pub over : StaysOver drawn old new before now groups after
  pub inputs : StayInputs bytes olds news
  -- A fault of the draft is told only where its count rose, and one of a reader where a reader's did.
  pub drafts : HasFaultCause IsDraftFault (counted before) (counted now) answer
  pub reads : (answers : List (Result (List Row) FileError)) × Moved (counts_in faults olds) (counts_in faults news) answers × IsEndOf answers answer
  pub damaged : IfErr answer (λ e. (d : Damage) → e ≡ damaged_by d → IsDamageIn bytes size news d ⊎ IsFrontTotal s (knowns_of bytes own) newest d)
  pub accepts : IfErr answer (λ e. (d : Damage) → e ≡ damaged_by d → (b : AreBounded s (knowns_of bytes own)) → KeepsSums s (merge_of s (knowns_of bytes own) b.contents) → ⊥)

-- A file of the rows of a range, through a draft of this id, and its rows in the groups; none where there are no rows.
abbrev pub IsRangeFile : {M : Type 0} → (M → Option (List ℕ)) → (M → ℕ) → Columns → ℕ → List Row → List Groups → Option (MadeFile M) → Type 0
IsRangeFile bytes id_of s id rows groups None = rows ≡ []
IsRangeFile bytes id_of s id rows groups (Some made) = (0 < length rows) × IsMadeFile bytes id_of (record { columns = s; rows = rows }) made × HavePut groups rows × (id_of made.made ≡ id)

-- What came of writing the file of a range whose pieces are merged by parts, each of which reads what the own inputs read; by the bench's counts of faults before and now.
pub record HasRangeFile {M R : Type 0} (told : M → Option (List ℕ)) (drawn : M → ℕ) (bytes : R → Option (List ℕ)) (faults size : R → ℕ) (s : Columns) (id newest : ℕ) (own : List (Input R)) (olds news : List (Part R)) (groups after : List Groups) (before now : ℕ) (answer : Result (Option (MadeFile M)) CompactError) : Type 0 where
  pub file : IfOk answer (λ made. (rows : List Row) × IsPartOf s None None (knowns_of bytes own) rows × IsRangeFile told drawn s id rows after made)
  pub wanted : map wanted_of after ≡ map wanted_of groups
  pub inputs : StayInputs bytes olds news
  pub drafts : HasFaultCause IsDraftFault before now answer
  pub reads : (answers : List (Result (List Row) FileError)) × Moved (counts_in faults olds) (counts_in faults news) answers × IsEndOf answers answer
  pub damaged : IfErr answer (λ e. (d : Damage) → e ≡ damaged_by d → IsDamageIn bytes size news d ⊎ IsFrontTotal s (knowns_of bytes own) newest d)
  pub accepts : IfErr answer (λ e. (d : Damage) → e ≡ damaged_by d → (b : AreBounded s (knowns_of bytes own)) → KeepsSums s (merge_of s (knowns_of bytes own) b.contents) → ⊥)
