-- A task that was merged.
use Rattle.std.specs.Prelude.{Result, flat_map, Bool, true, false, ◌==◌}
use Rattle.mesa_open_files.specs.GivingBack.{spare_inputs}
use Rattle.mesa_file.specs.declared.damage.Damage.{Damage}
use Rattle.mesa_merge.specs.Faults.{faults_of}
use Rattle.mesa_merge.proofs.Inputs.{SameEnd}
use Rattle.mesa_open_files.specs.declared.merging.CompactError.{CompactError}
use Rattle.mesa_merge.specs.Sums.{sum_damage}
use Rattle.mesa_compact.specs.Damaged.{AreMerged, BeginMerged, IsGroupsTotalOf, IsNewestOf, LeavesAmong, RowLeaves, ViewLeaves}
use Rattle.mesa_compact.specs.Tasks.{IsFilesDamage}
use Rattle.mesa_compact.specs.Writing.{HasCauses}
use Rattle.mesa_compact.proofs.Causing.{caused_left, caused_on}
use Rattle.mesa_compact.proofs.Viewing.{faults_append}
use Rattle.std.proofs.Common.{◌≡◌, ◌⊎◌, inr, ℕ, zero, suc, ◌<◌, List, [], ◌∷◌, ◌++◌, refl, sym, ◌∙◌, ap, subst, length, get_or, arith}
use Rattle.std.specs.Prelude.{Option, Some, None, map, slice_get}
use Rattle.mesa_open_files.specs.mesa_columns.declared.rows.Row.{Row}
use Rattle.mesa_schema.specs.Changes.{Lineage, columns_of}
use Rattle.mesa_delta.specs.declared.input.Input.{Input}
use Rattle.mesa_open_files.specs.mesa_columns.Columns.{aggs_of}
use Rattle.mesa_open_files.specs.mesa_fold.Folded.{folded}
use Rattle.mesa_merge.specs.Inputs.{AreTold, Known, known_of, knowns_of, lifted_in, lifted_parts}
use Rattle.mesa_open_files.specs.Inputs.{AreInputsOf, IsMergeOf, present_parts}
use Rattle.mesa_open_files.specs.Inputs.{AreTold as AreToldInputs}
use Rattle.mesa_open_files.specs.Made.{AreMadeFiles}
use Rattle.mesa_open_files.specs.Tasks.{IsMerged}
use Rattle.mesa_open_files.specs.declared.made.MadeFiles.{MadeFiles}
use Rattle.mesa_open_files.specs.declared.merging.Spare.{Spare}
use Rattle.mesa_open_files.specs.declared.merging.Task.{Task}

-- a list that isn't empty
pub some_of : {A : Type 0} (xs : List A) (empty : Bool) → empty ≡ (length xs == 0) → empty ≡ false → 0 < length xs
some_of [] empty e f = let both : true ≡ false = sym e ∙ f in cc
some_of (x ∷ xs) empty e f = omega arith

-- the table of the first of a task's inputs is the task's
pub first_table : {R : Type 0} (bytes : R → Option (List ℕ)) (l : Lineage) (inputs : List (Input R)) (d : Input R) → AreInputsOf bytes l inputs → 0 < length inputs → (get_or inputs 0 d).evolving.value ≡ l
first_table bytes l [] d h some = absurd (omega (arith, some))
first_table bytes l (i ∷ is) d h some = h.0.1

-- a task without inputs has no rows
pub nothing_merged : {M R : Type 0} (bytes : M → Option (List ℕ)) (id_of : M → ℕ) (read : R → Option (List ℕ)) (l : Lineage) (t : Task R) → t.inputs.items ≡ [] → IsMerged bytes id_of read l t (record { files = None })
nothing_merged bytes id_of read l t none = record {
  rows = [];
  merge = subst (λ is. IsMergeOf read (columns_of l) is []) (sym none) (λ parts told. refl);
  files = refl;
}

-- files of a task
pub files_merged : {M R : Type 0} (bytes : M → Option (List ℕ)) (id_of : M → ℕ) (read : R → Option (List ℕ)) (l own : Lineage) (t : Task R) (made : MadeFiles M) → own ≡ l
    → (rows : List Row) × IsMergeOf read (columns_of own) t.inputs.items rows × AreMadeFiles bytes id_of (columns_of own) own.views rows made → IsMerged bytes id_of read l t (record { files = Some made })
files_merged bytes id_of read l own t made same all =
    let its = subst (λ (o : Lineage). (rows : List Row) × IsMergeOf read (columns_of o) t.inputs.items rows × AreMadeFiles bytes id_of (columns_of o) o.views rows made) same all in
    record { rows = its.0; merge = its.1; files = its.2 }

-- ---- the merge of inputs, by what is known of them

pub told_inputs : {R : Type 0} (bytes : R → Option (List ℕ)) (is : List (Input R)) (contents : List (List Row)) → AreTold (knowns_of bytes is) contents → AreToldInputs bytes is contents
told_inputs bytes [] [] told = tt
told_inputs bytes [] (rows ∷ contents) told = told
told_inputs bytes (i ∷ is) [] told = told
told_inputs bytes (i ∷ is) (rows ∷ contents) told = (told.0, told_inputs bytes is contents told.1)

pub known_parts : {R : Type 0} (bytes : R → Option (List ℕ)) (is : List (Input R)) (contents : List (List Row)) → present_parts is contents ≡ lifted_parts (knowns_of bytes is) contents
known_parts bytes [] contents = refl
known_parts bytes (i ∷ is) [] = refl
known_parts bytes (i ∷ is) (rows ∷ contents) = ap (λ parts. map (lifted_in (known_of bytes i)) rows ∷ parts) (known_parts bytes is contents)

-- each input's table is theirs
known_table : {R : Type 0} (bytes : R → Option (List ℕ)) (l : Lineage) (is : List (Input R)) (n : ℕ) (k : Known) → AreInputsOf bytes l is → slice_get (knowns_of bytes is) n ≡ Some k → k.table ≡ l
known_table bytes l [] n k h e = cc
known_table bytes l (i ∷ is) zero k h e =
    let same : known_of bytes i ≡ k = cc in
    sym (ap (λ (x : Known). x.table) same) ∙ h.0.1
known_table bytes l (i ∷ is) (suc n) k h e = known_table bytes l is n k h.1 e

-- the total of a table's first merged rows, or of a view's, is told of the newest of the inputs
pub total_damage : {R : Type 0} (bytes : R → Option (List ℕ)) (l : Lineage) (is js : List (Input R)) (rows : List Row) (newest : ℕ) (d : Damage) → knowns_of bytes js ≡ knowns_of bytes is → IsNewestOf (knowns_of bytes is) newest → AreInputsOf bytes l is → d ≡ sum_damage newest
    → (BeginMerged (columns_of l) (knowns_of bytes is) rows × LeavesAmong (RowLeaves (columns_of l)) rows) ⊎ (AreMerged (columns_of l) (knowns_of bytes is) rows × ViewLeaves l rows) → IsGroupsTotalOf (knowns_of bytes js) d
total_damage bytes l is js rows newest d known last inputs told leaves =
    let table : last.file.table ≡ l = known_table bytes l is _ last.file inputs last.last in
    let here : IsGroupsTotalOf (knowns_of bytes is) d = record {
      newest = newest;
      last = last;
      rows = rows;
      leaves = subst (λ (t : Lineage). (BeginMerged (columns_of t) (knowns_of bytes is) rows × LeavesAmong (RowLeaves (columns_of t)) rows) ⊎ (AreMerged (columns_of t) (knowns_of bytes is) rows × ViewLeaves t rows)) (sym table) leaves;
      told = told;
    } in
    subst (λ (ks : List Known). IsGroupsTotalOf ks d) (sym known) here

pub merged_knowns : {R : Type 0} (bytes : R → Option (List ℕ)) (l : Lineage) (is : List (Input R)) (rows : List Row) → IsMergeOf bytes (columns_of l) is rows → AreMerged (columns_of l) (knowns_of bytes is) rows
merged_knowns bytes l is rows merge = λ contents all. merge contents (told_inputs bytes is contents all) ∙ ap (folded (aggs_of (columns_of l))) (known_parts bytes is contents)

-- damage that is told of a view's groups
pub files_damage : {R : Type 0} (bytes : R → Option (List ℕ)) (size : R → ℕ) (l : Lineage) (is js : List (Input R)) (rows : List Row) (newest : ℕ) (d : Damage) → knowns_of bytes js ≡ knowns_of bytes is → IsNewestOf (knowns_of bytes is) newest
    → AreInputsOf bytes l is → IsMergeOf bytes (columns_of l) is rows → d ≡ sum_damage newest → ViewLeaves l rows → IsFilesDamage bytes size js d
files_damage bytes size l is js rows newest d known last inputs merge told leaves = inr (total_damage bytes l is js rows newest d known last inputs told (inr (merged_knowns bytes l is rows merge, leaves)))

-- ---- causes at a task's own readers, beside further ones

-- further readers are read by none
pub caused_spare : {R T U : Type 0} (faults : R → ℕ) (IsTold Told : Damage → Type 0) (a b : ℕ) (is js : List (Input R)) (old new : List (Spare R)) (r : Result T CompactError) (q : Result U CompactError) → new ≡ old
    → HasCauses a b (faults_of faults is) (faults_of faults js) IsTold r → SameEnd r q → ((d : Damage) → IsTold d → Told d) → HasCauses a b (faults_of faults (is ++ flat_map spare_inputs old)) (faults_of faults (js ++ flat_map spare_inputs new)) Told q
caused_spare faults IsTold Told a b is js old new r q same h ends more =
    let ss = flat_map spare_inputs old in
    let left : HasCauses a b (faults_of faults is ++ faults_of faults ss) (faults_of faults js ++ faults_of faults ss) IsTold r = caused_left IsTold a b (faults_of faults is) (faults_of faults js) (faults_of faults ss) r h in
    let all : HasCauses a b (faults_of faults (is ++ ss)) (faults_of faults (js ++ ss)) IsTold r =
    subst (λ ns. HasCauses a b ns (faults_of faults (js ++ ss)) IsTold r) (sym (faults_append faults is ss)) (subst (λ ns. HasCauses a b (faults_of faults is ++ faults_of faults ss) ns IsTold r) (sym (faults_append faults js ss)) left) in
    let now = subst (λ (spares : List (Spare _)). HasCauses a b (faults_of faults (is ++ ss)) (faults_of faults (js ++ flat_map spare_inputs spares)) IsTold r) (sym same) all in
    caused_on IsTold Told a a b _ _ _ r q refl refl now ends more
