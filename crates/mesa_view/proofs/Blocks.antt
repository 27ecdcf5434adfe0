-- A file is put into groups block by block.
use Rattle.std.proofs.Common.{◌≡◌, ◌≢◌, ℕ, List, [], ◌∷◌, ◌++◌, refl, sym, ◌∙◌, ap, drop, subst, arith, length, ◌≤◌}
use Rattle.std.specs.Prelude.{map, IfSome, Option, None, Some, Err}
use Rattle.mesa_scan.specs.mesa_io.Causes.{HasFaultCause, Rose}
use Rattle.mesa_columns.specs.declared.rows.Row.{Row}
use Rattle.mesa_scan.specs.mesa_schema.Changes.{columns_of}
use Rattle.mesa_columns.specs.Columns.{Columns}
use Rattle.mesa_columns.specs.Rows.{AreRowsOf, IsRowOf}
use Rattle.mesa_scan.specs.mesa_file.declared.damage.Damage.{Damage}
use Rattle.mesa_list.proofs.Whole.{each_split}
use Rattle.mesa_filter.specs.Filter.{KeyFilter, filtered}
use Rattle.mesa_scan.specs.mesa_delta_format.Indexed.{Indexed}
use Rattle.mesa_scan.specs.mesa_fold.Folded.{rows_of}
use Rattle.mesa_delta.specs.Reading.{IsIndexed, index_of}
use Rattle.mesa_scan.specs.mesa_delta_format.Spread.{blocks_of}
use Rattle.mesa_delta.specs.declared.input.Input.{Input}
use Rattle.mesa_delta.specs.declared.error.FileError.{FileError}
use Rattle.mesa_delta.specs.declared.error.FileError.TheVariants as file_error
use Rattle.mesa_scan.specs.Cursors.{IsSameInput, lift_by, reader_in}
use Rattle.mesa_scan.specs.declared.scanning.Scan.{Scan}
use Rattle.mesa_scan.specs.Scanning.{HasScanned, filter_of, matching, next_of}
use Rattle.mesa_scan.proofs.Onwards.{all_matching}
use Rattle.mesa_answer.specs.declared.groups.Groups.{Groups}
use Rattle.mesa_answer.specs.declared.error.GroupError.{GroupError}
use Rattle.mesa_answer.specs.declared.error.GroupError.TheVariants as group_error
use Rattle.mesa_answer.specs.Answering.{KeepsSums}
use Rattle.mesa_answer.specs.Gathered.{HasPut, wanted_of}
use Rattle.mesa_view.specs.Gathering.{gather_error}
use Rattle.mesa_view.specs.declared.error.GatherError.{GatherError}
use Rattle.mesa_view.specs.declared.error.GatherError.TheVariants as gather
use Rattle.mesa_view.proofs.Sums.{matching_split, sums_scanned}

-- The matching rows of the blocks so far are put in, and the input stays what it was.
pub record Gathers {R : Type 0} (bytes : R → Option (List ℕ)) (size_of faults_of : R → ℕ) (start now : Input R) (f : KeyFilter) (s : Scan) (old new : Groups) : Type 0 where
  pub given : List Row
  pub scanned : HasScanned bytes now s given
  pub filter : filter_of s ≡ f
  pub same : IsSameInput bytes start now
  pub size : size_of (reader_in now) ≡ size_of (reader_in start)
  pub faults : faults_of (reader_in now) ≡ faults_of (reader_in start)
  pub put : (before : List Row) → HasPut old before → HasPut new (before ++ given)
  pub wanted : wanted_of new ≡ wanted_of old

-- the matching rows of a file are those of the file as it was
pub same_matching : {R : Type 0} (bytes : R → Option (List ℕ)) (start now : Input R) (f : KeyFilter) (all : List Row) → IsSameInput bytes start now
    → filtered (columns_of now.evolving.value) f.terms (map (lift_by now) all) ≡ filtered (columns_of start.evolving.value) f.terms (map (lift_by start) all)
same_matching bytes start now f all same = λ k. filtered (columns_of (same.evolving k).value) f.terms (map (lift_by (record now { evolving = same.evolving k; epoch = same.epoch k })) all)

-- what a scan has given of a file that is told
pub given_matching : {R : Type 0} (bytes : R → Option (List ℕ)) (start now : Input R) (f : KeyFilter) (s : Scan) (given : List Row) → HasScanned bytes now s given → filter_of s ≡ f → IsSameInput bytes start now
    → (b : List ℕ) (all : List Row) → bytes (reader_in start) ≡ Some b → IsIndexed (index_of start.reader) all b → given ≡ matching now f all (next_of s)
given_matching bytes start now f s given h filter same b all told indexed =
    h.told b all (same.told ∙ told) (subst (λ (x : Indexed). IsIndexed x all b) (sym same.index) indexed) ∙ ap (λ (g : KeyFilter). matching now g all (next_of s)) filter

-- at the end it has given all of them
pub given_all : {R : Type 0} (bytes : R → Option (List ℕ)) (start now : Input R) (f : KeyFilter) (s : Scan) (given : List Row) → HasScanned bytes now s given → filter_of s ≡ f → IsSameInput bytes start now → length (index_of now.reader).entries ≤ next_of s
    → (b : List ℕ) (all : List Row) → bytes (reader_in start) ≡ Some b → IsIndexed (index_of start.reader) all b → given ≡ filtered (columns_of start.evolving.value) f.terms (map (lift_by start) all)
given_all bytes start now f s given h filter same over b all told indexed =
    given_matching bytes start now f s given h filter same b all told indexed
    ∙ all_matching now f all b (next_of s) (subst (λ (x : Indexed). IsIndexed x all b) (sym same.index) indexed) over
    ∙ same_matching bytes start now f all same

-- So the sums of what was put in before and of what was given keep the bound that those of the whole file keep.
pub given_bounded : {R : Type 0} (bytes : R → Option (List ℕ)) (start now : Input R) (f : KeyFilter) (s : Scan) (before given : List Row) → HasScanned bytes now s given → filter_of s ≡ f → IsSameInput bytes start now
    → (b : List ℕ) (all : List Row) → bytes (reader_in start) ≡ Some b → IsIndexed (index_of start.reader) all b
    → KeepsSums (columns_of start.evolving.value) (before ++ filtered (columns_of start.evolving.value) f.terms (map (lift_by start) all)) → KeepsSums (columns_of start.evolving.value) (before ++ given)
given_bounded bytes start now f s before given h filter same b all told indexed keeps =
    let columns : columns_of now.evolving.value ≡ columns_of start.evolving.value = λ k. columns_of (same.evolving k).value in
    let here : KeepsSums (columns_of now.evolving.value) (before ++ filtered (columns_of now.evolving.value) f.terms (map (lift_by now) all)) =
    subst (λ (t : Columns). KeepsSums t (before ++ filtered (columns_of now.evolving.value) f.terms (map (lift_by now) all))) (sym columns)
    (subst (λ (rows : List Row). KeepsSums (columns_of start.evolving.value) (before ++ rows)) (sym (same_matching bytes start now f all same)) keeps) in
    subst (λ (t : Columns). KeepsSums t (before ++ given)) columns
    (subst (λ (rows : List Row). KeepsSums (columns_of now.evolving.value) (before ++ rows)) (sym (given_matching bytes start now f s given h filter same b all told indexed)) (sums_scanned now f all before (next_of s) here))

-- what is given of a file are its first matching rows
pub given_first : {R : Type 0} (bytes : R → Option (List ℕ)) (start now : Input R) (f : KeyFilter) (s : Scan) (given : List Row) → HasScanned bytes now s given → filter_of s ≡ f → IsSameInput bytes start now
    → (b : List ℕ) (all : List Row) → bytes (reader_in start) ≡ Some b → IsIndexed (index_of start.reader) all b
    → (rest : List Row) × (filtered (columns_of start.evolving.value) f.terms (map (lift_by start) all) ≡ given ++ rest)
given_first bytes start now f s given h filter same b all told indexed =
    let rest : List Row = filtered (columns_of now.evolving.value) f.terms (map (lift_by now) (rows_of (drop (next_of s) (blocks_of (index_of now.reader).layout all)))) in
    (rest, sym (same_matching bytes start now f all same) ∙ matching_split now f all (next_of s) ∙ ap (λ (rows : List Row). rows ++ rest) (sym (given_matching bytes start now f s given h filter same b all told indexed)))

-- the rows of one block more have the columns' form
pub more_form : {R : Type 0} (bytes : R → Option (List ℕ)) (i : Input R) (s : Scan) (given more : List Row) → HasScanned bytes i s (given ++ more) → AreRowsOf (columns_of i.evolving.value) more
more_form bytes i s given more h = (each_split (IsRowOf (columns_of i.evolving.value)) given more h.form).1

-- an error that is no fault leaves the count
pub no_fault : {T : Type 0} (e : GatherError) (before now : ℕ) → now ≡ before → e ≢ gather.File file_error.Read → HasFaultCause {T = T} (λ x. x ≡ gather.File file_error.Read) before now (Err e)
no_fault e before now same unread = record {
  later = omega (arith, same);
  failed = λ is. absurd (unread is);
  quiet = tt;
  other = λ not. same;
}

-- every row meets a filter without terms
pub every_passes : (s : Columns) (rows : List Row) → filtered s [] rows ≡ rows
every_passes s [] = refl
every_passes s (row ∷ rows) = ap (λ rest. row ∷ rest) (every_passes s rows)

-- what follows of a value that is there
pub if_some : {X : Type 0} (o : Option X) (P Q : X → Type 0) → ((x : X) → P x → Q x) → IfSome o P → IfSome o Q
if_some None P Q f p = p
if_some (Some x) P Q f p = f x p

-- ---- why a row isn't put in

-- it isn't a fault of a reader,
pub group_unread : (g : GroupError) → gather_error g ≢ gather.File file_error.Read
group_unread group_error.Sum e = cc e
group_unread group_error.Memory e = cc e

-- nor damage,
pub group_undamaged : (g : GroupError) (d : Damage) → gather_error g ≡ gather.File (file_error.Damaged d) → ⊥
group_undamaged group_error.Sum d e = cc e
group_undamaged group_error.Memory d e = cc e

-- and a sum only where it is one
pub group_sum : (g : GroupError) → gather_error g ≡ gather.Sum → g ≡ group_error.Sum
group_sum group_error.Sum e = refl
group_sum group_error.Memory e = cc e

-- an error of a file has the cause that it had there
pub fault_of_file : {T U : Type 0} (e : FileError) (start before now : ℕ) → before ≡ start → HasFaultCause {T = U} (λ x. x ≡ file_error.Read) before now (Err e) → HasFaultCause {T = T} (λ x. x ≡ gather.File file_error.Read) start now (Err (gather.File e))
fault_of_file e start before now same h = record {
  later = omega (arith, same, h.later);
  failed = λ is. subst (λ n. Rose n now) same (h.failed (cc is));
  quiet = tt;
  other = λ not. h.other (λ is. not (ap gather.File is)) ∙ same;
}
