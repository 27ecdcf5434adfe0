-- A task that was merged in parts.
use Rattle.std.proofs.Common.{◌≡◌, ◌⊎◌, inl, inr, ℕ, zero, suc, List, [], ◌∷◌, get_or, map, refl, sym, ap, subst, ◌∙◌, arith, Global, Vec}
use Rattle.std.specs.Prelude.{Option, None, Some, slice_get}
use Rattle.std.specs.List.{AllByRecursion}
use Rattle.sha2.specs.Sha256.{sha256}
use Rattle.mesa_compact.specs.mesa_columns.declared.rows.Row.{Row}
use Rattle.mesa_schema.specs.Changes.{Lineage, columns_at, columns_of, epoch_of, lifted}
use Rattle.mesa_compact.specs.mesa_columns.Columns.{Columns, aggs_of}
use Rattle.mesa_open_files.specs.mesa_fold.Folded.{folded}
use Rattle.mesa_schema.specs.Lineages.{IsLineage}
use Rattle.mesa_compact.specs.mesa_columns.Rows.{AreRowsOf}
use Rattle.mesa_schema.proofs.PresentRows.{present_form}
use Rattle.mesa_batch.specs.Bound.{FoldsTotals}
use Rattle.mesa_compact.specs.mesa_block.Layout.{Layout}
use Rattle.mesa_compact.specs.mesa_block.Rows.{IsRow}
use Rattle.mesa_compact.specs.mesa_delta_format.Indexed.{IsIndexOf}
use Rattle.mesa_compact.specs.mesa_delta_format.Summary.{file_layout}
use Rattle.mesa_delta.specs.declared.input.Input.{Input}
use Rattle.mesa_compact.specs.mesa_scan.Cursors.{IsInput, lift_by}
use Rattle.mesa_merge.proofs.mesa_scan.Cutting.{cut_none}
use Rattle.mesa_file.specs.declared.damage.Damage.{Damage}
use Rattle.mesa_merge.specs.Damaged.{IsDamageOf}
use Rattle.mesa_merge.specs.Inputs.{AreInputs as AreMergeable}
use Rattle.mesa_merge.specs.Inputs.{AreTold, Known, known_of, knowns_of, lifted_parts}
use Rattle.mesa_merge.proofs.Bounds.{full_all}
use Rattle.mesa_merge.proofs.Combining.{aggs_count}
use Rattle.mesa_answer.specs.Answering.{KeepsSums}
use Rattle.mesa_open_files.specs.Inputs.{AreInputsOf, IsMergeOf, lineage_of, present_parts}
use Rattle.mesa_open_files.specs.Inputs.{AreTold as AreToldInputs}
use Rattle.mesa_open_files.specs.Spares.{AreSpareInputs, IsSpareInput, IsSpareOf}
use Rattle.mesa_open_files.specs.declared.merging.Task.{Task}
use Rattle.mesa_open_files.specs.Tasks.{HaveMerged, IsMerged}
use Rattle.mesa_open_files.specs.declared.made.MadeFiles.{MadeFiles}
use Rattle.mesa_open_files.specs.declared.merging.Spare.{Spare}
use Rattle.mesa_open_files.proofs.Spares.{spares_are, spares_told}
use Rattle.mesa_compact.specs.Bounded.{AreBounded}
use Rattle.mesa_compact.specs.Damaged.{IsMergeDamage}
use Rattle.mesa_compact.specs.Tasks.{known_spares}
use Rattle.mesa_compact.proofs.Viewing.{mergeable, of_table}
use Rattle.mesa_split.specs.Lending.{Tells, items_of, lists_of}
use Rattle.mesa_split.specs.Parts.{IsPartOf}
use Rattle.mesa_split.specs.Split.{IsSpareDamage}

-- ---- what is told

pub told_knowns : {R : Type 0} (bytes : R → Option (List ℕ)) (is : List (Input R)) (contents : List (List Row)) → AreToldInputs bytes is contents → AreTold (knowns_of bytes is) contents
told_knowns bytes [] [] told = tt
told_knowns bytes [] (rows ∷ contents) told = absurd told
told_knowns bytes (i ∷ is) [] told = absurd told
told_knowns bytes (i ∷ is) (rows ∷ contents) told = (told.0, told_knowns bytes is contents told.1)

pub knowns_told : {R : Type 0} (bytes : R → Option (List ℕ)) (is : List (Input R)) (contents : List (List Row)) → AreTold (knowns_of bytes is) contents → AreToldInputs bytes is contents
knowns_told bytes [] [] told = tt
knowns_told bytes [] (rows ∷ contents) told = absurd told
knowns_told bytes (i ∷ is) [] told = absurd told
knowns_told bytes (i ∷ is) (rows ∷ contents) told = (told.0, knowns_told bytes is contents told.1)

pub present_knowns : {R : Type 0} (bytes : R → Option (List ℕ)) (is : List (Input R)) (contents : List (List Row)) → lifted_parts (knowns_of bytes is) contents ≡ present_parts is contents
present_knowns bytes [] contents = refl
present_knowns bytes (i ∷ is) [] = refl
present_knowns bytes (i ∷ is) (rows ∷ contents) = ap (λ parts. map (lift_by i) rows ∷ parts) (present_knowns bytes is contents)

spare_lifts : {R : Type 0} (bytes : R → Option (List ℕ)) (is js : List (Input R)) (contents : List (List Row)) → AreSpareInputs bytes is js → lifted_parts (knowns_of bytes js) contents ≡ lifted_parts (knowns_of bytes is) contents
spare_lifts bytes [] [] contents spares = refl
spare_lifts bytes [] (j ∷ js) contents spares = absurd spares
spare_lifts bytes (i ∷ is) [] contents spares = absurd spares
spare_lifts bytes (i ∷ is) (j ∷ js) [] spares = refl
spare_lifts bytes (i ∷ is) (j ∷ js) (rows ∷ contents) spares = λ k. map (lifted (spares.0.lineage k) (spares.0.epoch k) (epoch_of (spares.0.lineage k))) rows ∷ spare_lifts bytes is js contents spares.1 k

-- a spare's inputs tell what the task's do
spare_tells : {R : Type 0} (bytes : R → Option (List ℕ)) (is js : List (Input R)) → AreSpareInputs bytes is js → Tells bytes is js
spare_tells bytes is js spares = λ contents told. (told_knowns bytes js contents (spares_told bytes is js contents spares (knowns_told bytes is contents told)), spare_lifts bytes is js contents spares)

pub lists_tell : {R : Type 0} (bytes : R → Option (List ℕ)) (own : Vec (Input R) Global) (ss : List (Spare R)) → AllByRecursion (λ (s : Spare R). AreSpareInputs bytes own.items s.inputs.items) ss → AllByRecursion (Tells bytes own.items) (items_of (lists_of own ss))
lists_tell {R = R} bytes own ss spares = ((λ contents told. (told, refl)), each ss spares) where
  each : (ss : List (Spare R)) → AllByRecursion (λ (s : Spare R). AreSpareInputs bytes own.items s.inputs.items) ss → AllByRecursion (Tells bytes own.items) (items_of (map (λ (s : Spare R). s.inputs) ss))
  each [] spares = tt
  each (s ∷ ss) spares = (spare_tells bytes own.items s.inputs.items spares.0, each ss spares.1)

spares_each : {R : Type 0} (bytes : R → Option (List ℕ)) (is js : List (Input R)) → AreSpareInputs bytes is js → AllByRecursion (IsInput bytes) js
spares_each bytes [] [] spares = tt
spares_each bytes [] (j ∷ js) spares = absurd spares
spares_each bytes (i ∷ is) [] spares = absurd spares
spares_each bytes (i ∷ is) (j ∷ js) spares = (spares.0.input, spares_each bytes is js spares.1)

-- all lists are of inputs
pub lists_each : {R : Type 0} (bytes : R → Option (List ℕ)) (own : Vec (Input R) Global) (ss : List (Spare R)) → AllByRecursion (IsInput bytes) own.items → AllByRecursion (λ (s : Spare R). AreSpareInputs bytes own.items s.inputs.items) ss → AllByRecursion (AllByRecursion (IsInput bytes)) (items_of (lists_of own ss))
lists_each {R = R} bytes own ss all spares = (all, each ss spares) where
  each : (ss : List (Spare R)) → AllByRecursion (λ (s : Spare R). AreSpareInputs bytes own.items s.inputs.items) ss → AllByRecursion (AllByRecursion (IsInput bytes)) (items_of (map (λ (s : Spare R). s.inputs) ss))
  each [] spares = tt
  each (s ∷ ss) spares = (spares_each bytes own.items s.inputs.items spares.0, each ss spares.1)

-- the rows of the whole range are the merge of the inputs
pub whole_merge : {R : Type 0} (bytes : R → Option (List ℕ)) (s : Columns) (is : List (Input R)) (rows : List Row) → IsPartOf s None None (knowns_of bytes is) rows → IsMergeOf bytes s is rows
whole_merge bytes s is rows part = λ contents told.
    part.told contents (told_knowns bytes is contents told) ∙ cut_none (folded (aggs_of s) (lifted_parts (knowns_of bytes is) contents)) ∙ ap (folded (aggs_of s)) (present_knowns bytes is contents)

-- ---- sums

good_form : (s : Layout) (rows : List Row) → AllByRecursion (IsRow s) rows → AreRowsOf s.columns rows
good_form s [] all = tt
good_form s (row ∷ rows) all = (all.0.form, good_form s rows all.1)

lifted_forms : (l : Lineage) (epoch : ℕ) (rows : List Row) → IsLineage l → AreRowsOf (columns_at l epoch) rows → AreRowsOf (columns_of l) (map (lifted l epoch (epoch_of l)) rows)
lifted_forms l epoch [] is form = tt
lifted_forms l epoch (row ∷ rows) is form = (present_form l epoch row is form.0, lifted_forms l epoch rows is form.1)

-- told rows have the form at present
told_formed : {R : Type 0} (bytes : R → Option (List ℕ)) (l : Lineage) (is : List (Input R)) (contents : List (List Row)) → IsLineage l → AreInputsOf bytes l is → AreTold (knowns_of bytes is) contents → (j : ℕ) → AreRowsOf (columns_of l) (get_or (lifted_parts (knowns_of bytes is) contents) j [])
told_formed bytes l [] contents line are told j = tt
told_formed bytes l (i ∷ is) [] line are told j = absurd told
told_formed bytes l (i ∷ is) (rows ∷ contents) line are told zero =
    let own : Lineage = lineage_of i in
    let form : AreRowsOf (columns_at own i.epoch) rows = subst (λ (s : Columns). AreRowsOf s rows) are.0.0.columns (good_form _ rows told.0.2.file.good) in
    subst (λ (t : Lineage). AreRowsOf (columns_of t) (map (lifted own i.epoch (epoch_of own)) rows)) are.0.1 (lifted_forms own i.epoch rows (subst IsLineage (sym are.0.1) line) form)
told_formed bytes l (i ∷ is) (rows ∷ contents) line are told (suc j) = told_formed bytes l is contents line are.1 told.1 j

-- where the inputs keep the bound, so do the rows that they fold to
pub fold_keeps : {R : Type 0} (bytes : R → Option (List ℕ)) (l : Lineage) (is : List (Input R)) → FoldsTotals → IsLineage l → AreInputsOf bytes l is → (b : AreBounded (columns_of l) (knowns_of bytes is)) → KeepsSums (columns_of l) (folded (aggs_of (columns_of l)) (lifted_parts (knowns_of bytes is) b.contents))
fold_keeps bytes l is law line are b = λ c sum.
    let s : Columns = columns_of l in
    let all : List (List Row) = lifted_parts (knowns_of bytes is) b.contents in
    omega (arith, law (aggs_of s) all c sum (full_all s all (told_formed bytes l is b.contents line are b.told) (aggs_count s)), b.bound c sum)

-- and the rows of the whole range
pub whole_keeps : {R : Type 0} (bytes : R → Option (List ℕ)) (l : Lineage) (is : List (Input R)) (rows : List Row) → FoldsTotals → IsLineage l → AreInputsOf bytes l is → IsPartOf (columns_of l) None None (knowns_of bytes is) rows → AreBounded (columns_of l) (knowns_of bytes is) → KeepsSums (columns_of l) rows
whole_keeps bytes l is rows law line are part b =
    let same = part.told b.contents b.told ∙ cut_none (folded (aggs_of (columns_of l)) (lifted_parts (knowns_of bytes is) b.contents)) in
    subst (KeepsSums (columns_of l)) (sym same) (fold_keeps bytes l is law line are b)

-- ---- lists before and after

abbrev first_of : {A : Type 0} → A → List A → A
first_of d [] = d
first_of d (x ∷ xs) = x

abbrev rest_of : {A : Type 0} → List A → List A
rest_of [] = []
rest_of (x ∷ xs) = xs

module _ {R : Type 0} (bytes : R → Option (List ℕ)) where
  abbrev Known_lists : Vec (Input R) Global → List (Spare R) → List (List Known)
  Known_lists own ss = map (knowns_of bytes) (items_of (lists_of own ss))

  spares_known : (ss : List (Spare R)) → map (knowns_of bytes) (items_of (map (λ (s : Spare R). s.inputs) ss)) ≡ known_spares bytes ss
  spares_known [] = refl
  spares_known (s ∷ ss) = ap (λ ks. knowns_of bytes s.inputs.items ∷ ks) (spares_known ss)

  pub own_known : (old new : Vec (Input R) Global) (os ns : List (Spare R)) → Known_lists new ns ≡ Known_lists old os → knowns_of bytes new.items ≡ knowns_of bytes old.items
  own_known old new os ns same = ap (first_of []) same

  pub rest_known : (old new : Vec (Input R) Global) (os ns : List (Spare R)) → Known_lists new ns ≡ Known_lists old os → known_spares bytes ns ≡ known_spares bytes os
  rest_known old new os ns same = sym (spares_known ns) ∙ ap rest_of same ∙ spares_known os

  pub lists_known : (old new : Vec (Input R) Global) (os ns : List (Spare R)) → lists_of new ns ≡ lists_of old os → Known_lists new ns ≡ Known_lists old os
  lists_known old new os ns same = ap (λ (ls : List (Vec (Input R) Global)). map (knowns_of bytes) (items_of ls)) same

  rest_inputs : (ss : List (Spare R)) → AllByRecursion (AllByRecursion (IsInput bytes)) (items_of (map (λ (s : Spare R). s.inputs) ss)) → AllByRecursion (λ (s : Spare R). AllByRecursion (IsInput bytes) s.inputs.items) ss
  rest_inputs [] all = tt
  rest_inputs (s ∷ ss) all = (all.0, rest_inputs ss all.1)

  pub spares_inputs : (own : Vec (Input R) Global) (ss : List (Spare R)) → AllByRecursion (AllByRecursion (IsInput bytes)) (items_of (lists_of own ss)) → AllByRecursion (λ (s : Spare R). AllByRecursion (IsInput bytes) s.inputs.items) ss
  spares_inputs own ss all = rest_inputs ss all.1

  pub spares_ready : (l : Lineage) (own : Vec (Input R) Global) (ss : List (Spare R)) → AreInputsOf bytes l own.items → AllByRecursion (λ (s : Spare R). AreSpareInputs bytes own.items s.inputs.items) ss → AllByRecursion (λ (s : Spare R). AreMergeable bytes (columns_of l) s.inputs.items) ss
  spares_ready l own [] are spares = tt
  spares_ready l own (s ∷ ss) are spares = (mergeable bytes (columns_of l) s.inputs.items (of_table bytes l s.inputs.items (spares_are bytes l own.items s.inputs.items spares.0 are)), spares_ready l own ss are spares.1)

  -- ---- damage

  spare_at : (ss : List (Spare R)) (at : ℕ) (n : List (Input R)) → slice_get (items_of (map (λ (s : Spare R). s.inputs) ss)) at ≡ Some n → (s : Spare R) × (slice_get ss at ≡ Some s) × (n ≡ s.inputs.items)
  spare_at [] at n is = absurd cc
  spare_at (s ∷ ss) zero n is = (s, refl, cc)
  spare_at (s ∷ ss) (suc at) n is = spare_at ss at n is

  pub damage_at : (size : R → ℕ) (own : Vec (Input R) Global) (ss : List (Spare R)) (d : Damage) → (at : ℕ) × (n : List (Input R)) × (slice_get (items_of (lists_of own ss)) at ≡ Some n) × IsDamageOf bytes size n d → IsMergeDamage bytes size own.items d ⊎ IsSpareDamage bytes size ss d
  damage_at size own ss d all = by all.0 all.2 where
    by : (at : ℕ) → slice_get (items_of (lists_of own ss)) at ≡ Some all.1 → IsMergeDamage bytes size own.items d ⊎ IsSpareDamage bytes size ss d
    by zero is = let same : all.1 ≡ own.items = cc in inl (inl (subst (λ n. IsDamageOf bytes size n d) same all.3))
    by (suc at) is =
        let spare = spare_at ss at all.1 is in
        inr (record { at = at; spare = spare.0; one = spare.1; told = inl (subst (λ n. IsDamageOf bytes size n d) spare.2 all.3) })

pub each_input : {R : Type 0} (bytes : R → Option (List ℕ)) (l : Lineage) (is : List (Input R)) → AreInputsOf bytes l is → AllByRecursion (IsInput bytes) is
each_input bytes l [] are = tt
each_input bytes l (i ∷ is) are = (are.0.0, each_input bytes l is are.1)

-- ---- a task and its spares afterwards

module _ {R : Type 0} (bytes : R → Option (List ℕ)) where
  own_again : (i j k : Input R) → IsSpareInput bytes i k → known_of bytes j ≡ known_of bytes i → IsSpareInput bytes j k
  own_again i j k s same = record {
    file = s.file;
    first = subst (λ (x : Known). (tail : List ℕ) × IsIndexOf s.file (file_layout (columns_at x.table x.epoch) s.file) tail x.file × (sha256 tail ≡ s.file.digest)) (sym same) s.first;
    second = s.second;
    lineage = s.lineage ∙ ap (λ (x : Known). x.table) (sym same);
    epoch = s.epoch ∙ ap (λ (x : Known). x.epoch) (sym same);
    input = s.input;
    told = λ b is. s.told b (ap (λ (x : Known). x.told) (sym same) ∙ is);
  }

  spare_again : (i j k : Input R) → IsSpareInput bytes i j → known_of bytes k ≡ known_of bytes j → IsInput bytes k → IsSpareInput bytes i k
  spare_again i j k s same input = record {
    file = s.file;
    first = s.first;
    second = subst (λ (x : Known). (tail : List ℕ) × IsIndexOf s.file (file_layout (columns_at x.table x.epoch) s.file) tail x.file × (sha256 tail ≡ s.file.digest)) (sym same) s.second;
    lineage = ap (λ (x : Known). x.table) same ∙ s.lineage;
    epoch = ap (λ (x : Known). x.epoch) same ∙ s.epoch;
    input = input;
    told = λ b is. ap (λ (x : Known). x.told) same ∙ s.told b is;
  }

  owns_again : (is js ks : List (Input R)) → AreSpareInputs bytes is ks → knowns_of bytes js ≡ knowns_of bytes is → AreSpareInputs bytes js ks
  owns_again [] [] ks h same = h
  owns_again [] (j ∷ js) ks h same = absurd cc
  owns_again (i ∷ is) [] ks h same = absurd cc
  owns_again (i ∷ is) (j ∷ js) [] h same = absurd h
  owns_again (i ∷ is) (j ∷ js) (k ∷ ks) h same = (own_again i j k h.0 (ap (first_of (known_of bytes i)) same), owns_again is js ks h.1 (ap rest_of same))

  spares_again : (is js ks : List (Input R)) → AreSpareInputs bytes is js → knowns_of bytes ks ≡ knowns_of bytes js → AllByRecursion (IsInput bytes) ks → AreSpareInputs bytes is ks
  spares_again is [] [] h same each = h
  spares_again is [] (k ∷ ks) h same each = absurd cc
  spares_again is (j ∷ js) [] h same each = absurd cc
  spares_again [] (j ∷ js) (k ∷ ks) h same each = absurd h
  spares_again (i ∷ is) (j ∷ js) (k ∷ ks) h same each = (spare_again i j k h.0 (ap (first_of (known_of bytes j)) same) each.0, spares_again is js ks h.1 (ap rest_of same) each.1)

  -- the spares of a task whose readers stay the same are still its spares
  pub spares_stay : (old new : Task R) (os ns : List (Spare R)) → AllByRecursion (IsSpareOf bytes old) os → knowns_of bytes new.inputs.items ≡ knowns_of bytes old.inputs.items → known_spares bytes ns ≡ known_spares bytes os
      → AllByRecursion (λ (s : Spare R). AllByRecursion (IsInput bytes) s.inputs.items) ns → AllByRecursion (IsSpareOf bytes new) ns
  spares_stay old new [] [] all inputs files each = tt
  spares_stay old new [] (n ∷ ns) all inputs files each = absurd cc
  spares_stay old new (o ∷ os) [] all inputs files each = absurd cc
  spares_stay old new (o ∷ os) (n ∷ ns) all inputs files each = (
    owns_again old.inputs.items new.inputs.items n.inputs.items (spares_again old.inputs.items o.inputs.items n.inputs.items all.0 (ap (first_of []) files) each.0) inputs,
    spares_stay old new os ns all.1 inputs (ap rest_of files) each.1,
  )

-- ---- what was merged

-- the rows of the parts are the merge of the task, and its files have them
pub split_merged : {M R : Type 0} (bytes : M → Option (List ℕ)) (id_of : M → ℕ) (read : R → Option (List ℕ)) (l own : Lineage) (t : Task R) (rows : List Row) (files : Option (MadeFiles M)) → own ≡ l → IsMergeOf read (columns_of own) t.inputs.items rows → HaveMerged bytes id_of own rows files
    → IsMerged bytes id_of read l t (record { files = files })
split_merged bytes id_of read l own t rows files same merge have = record {
  rows = rows;
  merge = subst (λ (o : Lineage). IsMergeOf read (columns_of o) t.inputs.items rows) same merge;
  files = subst (λ (o : Lineage). HaveMerged bytes id_of o rows files) same have;
}
