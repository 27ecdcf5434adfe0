-- A task whose files were merged in parts.
use Rattle.std.proofs.Common.{◌≡◌, ◌⊎◌, inl, inr, ℕ, ◌<◌, List, [], ◌∷◌, ◌++◌, length, refl, sym, subst, ◌∙◌, arith, Global, Vec}
use Rattle.std.proofs.lemmas.Bool.{eqb-true}
use Rattle.std.specs.Prelude.{◌==◌, Bool, true, Option, None, Some, Result, Ok, Err, flat_map}
use Rattle.std.specs.List.{AllByRecursion}
use Rattle.mesa_file.specs.declared.damage.Damage.{Damage}
use Rattle.mesa_compact.specs.mesa_columns.declared.rows.Row.{Row}
use Rattle.mesa_schema.specs.Changes.{Lineage, columns_of}
use Rattle.mesa_delta.specs.declared.error.FileError.TheVariants.{Memory}
use Rattle.mesa_delta.specs.declared.input.Input.{Input}
use Rattle.mesa_answer.specs.Answering.{KeepsSums}
use Rattle.mesa_compact.specs.mesa_scan.Cursors.{IsInput}
use Rattle.mesa_merge.specs.Faults.{faults_of}
use Rattle.mesa_merge.specs.Inputs.{knowns_of}
use Rattle.mesa_merge.specs.Sums.{sum_damage}
use Rattle.mesa_merge.proofs.Inputs.{SameEnd}
use Rattle.mesa_open_files.specs.GivingBack.{spare_inputs, task_inputs}
use Rattle.mesa_open_files.specs.Inputs.{IsMergeOf}
use Rattle.mesa_open_files.specs.Made.{AreMadeFiles}
use Rattle.mesa_file.specs.Serials.{Drafts, after_drafts}
use Rattle.mesa_open_files.specs.Spares.{IsSpareOf}
use Rattle.mesa_open_files.specs.Tasks.{HaveMerged, IsMerged, IsTask}
use Rattle.mesa_open_files.specs.declared.made.MadeFiles.{MadeFiles}
use Rattle.mesa_open_files.specs.declared.merging.CompactError.{CompactError}
use Rattle.mesa_open_files.specs.declared.merging.CompactError.TheVariants.{File}
use Rattle.mesa_open_files.specs.declared.merging.Spare.{Spare}
use Rattle.mesa_open_files.specs.declared.merging.Task.{Task}
use Rattle.mesa_compact.specs.Bounded.{AreBounded, IsBounded}
use Rattle.mesa_compact.specs.Damaged.{IsMergeDamage, IsNewestOf, ViewLeaves}
use Rattle.mesa_compact.specs.Tasks.{AreNumbered, IsSameTask, known_spares}
use Rattle.mesa_compact.specs.Writing.{HasCauses, damaged_by}
use Rattle.mesa_compact.proofs.Causing.{caused_memory, caused_ok, caused_on}
use Rattle.mesa_compact.proofs.Tasking.{files_damage, first_table, total_damage}
use Rattle.mesa_compact.proofs.Viewing.{table_kept}
use Rattle.mesa_split.specs.Rounds.{IsFrontTotal}
use Rattle.mesa_split.specs.Split.{HasSplit, IsPartsDamage, IsSpareDamage}
use Rattle.mesa_split.proofs.Splitting.{spares_stay, split_merged}

-- a list that is empty
pub none_of : {A : Type 0} (xs : List A) (empty : Bool) → empty ≡ (length xs == 0) → empty ≡ true → xs ≡ []
none_of [] empty e f = refl
none_of (x ∷ xs) empty e f = absurd (omega (arith, eqb-true (length (x ∷ xs)) 0 (sym e ∙ f)))

-- a task that has inputs is of one table
one_table : {R : Type 0} (bytes : R → Option (List ℕ)) (l k : Lineage) (t : Task R) (is : List (Input R)) → t.inputs.items ≡ is → 0 < length is → IsTask bytes l t → IsTask bytes k t → l ≡ k
one_table bytes l k t [] same some a b = absurd (omega (arith, some))
one_table bytes l k t (i ∷ is) same some a b =
    let many : 0 < length t.inputs.items = subst (λ xs. 0 < length xs) (sym same) some in
    sym (first_table bytes l t.inputs.items i a.inputs many) ∙ first_table bytes k t.inputs.items i b.inputs many

-- what is told once spares were lent as a list, and came back
pub spares_put : {R T : Type 0} (bytes : R → Option (List ℕ)) (faults size : R → ℕ) (l : Lineage) (is js : List (Input R)) (os given ns ms : List (Spare R)) (newest a b : ℕ) (r : Result T CompactError) → given ≡ os → ms ≡ ns
    → HasCauses a b (faults_of faults (is ++ flat_map spare_inputs given)) (faults_of faults (js ++ flat_map spare_inputs ns))
    (λ d. (IsMergeDamage bytes size js d ⊎ IsSpareDamage bytes size ns d) ⊎ IsFrontTotal (columns_of l) (knowns_of bytes is) newest d) r
    → HasCauses a b (faults_of faults (is ++ flat_map spare_inputs os)) (faults_of faults (js ++ flat_map spare_inputs ms))
    (λ d. (IsMergeDamage bytes size js d ⊎ IsSpareDamage bytes size ms d) ⊎ IsFrontTotal (columns_of l) (knowns_of bytes is) newest d) r
spares_put {R = R} bytes faults size l is js os given ns ms newest a b r lent back h =
    subst (λ (xs : List (Spare R)). HasCauses a b (faults_of faults (is ++ flat_map spare_inputs xs)) (faults_of faults (js ++ flat_map spare_inputs ms))
    (λ d. (IsMergeDamage bytes size js d ⊎ IsSpareDamage bytes size ms d) ⊎ IsFrontTotal (columns_of l) (knowns_of bytes is) newest d) r) lent
    (subst (λ (xs : List (Spare R)). HasCauses a b (faults_of faults (is ++ flat_map spare_inputs given)) (faults_of faults (js ++ flat_map spare_inputs xs))
    (λ d. (IsMergeDamage bytes size js d ⊎ IsSpareDamage bytes size xs d) ⊎ IsFrontTotal (columns_of l) (knowns_of bytes is) newest d) r) (sym back) h)

module _ {M R : Type 0} (told : M → Option (List ℕ)) (id_of : M → ℕ) (bytes : R → Option (List ℕ)) (faults size : R → ℕ) (old : Task R) where
  abbrev Split : ℕ → ℕ → Task R → Drafts → Drafts → Result (Option (MadeFiles M)) CompactError → Type 0
  Split before now new d e r = HasSplit told id_of bytes faults size before now old new d e r

  stays_same : IsSameTask bytes old old
  stays_same = record { table = refl; work = refl; lease = refl; epoch = refl; damage = refl; inputs = refl; spare = refl }

  -- nothing was read
  pub split_memory : (a : ℕ) (d e : Drafts) → (n : ℕ) → e ≡ after_drafts n d → AllByRecursion (IsSpareOf bytes old) old.spare.items → Split a a old d e (Err (File Memory))
  split_memory a d e n drawn spares = record {
    merged = tt;
    numbered = tt;
    ids = (n, drawn);
    causes = caused_memory _ _ _ _ _ refl refl;
    accepts = λ x (is : File Memory ≡ damaged_by x). cc;
    same = stays_same;
    kept = λ l t. t;
    spares = spares;
  }

  -- there are no inputs
  pub split_empty : (a : ℕ) (d : Drafts) → old.inputs.items ≡ [] → AllByRecursion (IsSpareOf bytes old) old.spare.items → Split a a old d d (Ok None)
  split_empty a d none spares = record {
    merged = λ l t. record { rows = []; merge = subst (λ is. IsMergeOf bytes (columns_of l) is []) (sym none) (λ contents all. refl); files = refl };
    numbered = tt;
    ids = (0, refl);
    causes = caused_ok _ _ _ _ _ None refl refl;
    accepts = tt;
    same = stays_same;
    kept = λ l t. t;
    spares = spares;
  }

  module _ (l : Lineage) (i : Vec (Input R) Global) (s : Vec (Spare R) Global) (own : IsTask bytes l old) (some : 0 < length old.inputs.items) (spares : AllByRecursion (IsSpareOf bytes old) old.spare.items) where
    abbrev pub Now : Task R
    Now = record old { inputs = i; spare = s }

    -- The readers of the task and its spares are back.
    pub record Back : Type 0 where
      pub known : knowns_of bytes i.items ≡ knowns_of bytes old.inputs.items
      pub kept : AllByRecursion (IsInput bytes) i.items
      pub spare_known : known_spares bytes s.items ≡ known_spares bytes old.spare.items
      pub spare_kept : AllByRecursion (λ (x : Spare R). AllByRecursion (IsInput bytes) x.inputs.items) s.items

    same_now : Back → IsSameTask bytes old Now
    same_now b = record { table = refl; work = refl; lease = refl; epoch = refl; damage = refl; inputs = b.known; spare = b.spare_known }

    kept_now : Back → (k : Lineage) → IsTask bytes k old → IsTask bytes k Now
    kept_now b k t = subst (λ (x : Lineage). IsTask bytes x Now) (one_table bytes l k old old.inputs.items refl some own t) (record { epoch = own.epoch; inputs = table_kept bytes l old.inputs.items i.items b.kept b.known own.inputs })

    spares_now : Back → AllByRecursion (IsSpareOf bytes Now) s.items
    spares_now b = spares_stay bytes old Now old.spare.items s.items spares b.known b.spare_known b.spare_kept

    merged_now : (rows : List Row) (files : Option (MadeFiles M)) → IsMergeOf bytes (columns_of l) old.inputs.items rows → HaveMerged told id_of l rows files → (k : Lineage) → IsTask bytes k old → IsMerged told id_of bytes k old (record { files = files })
    merged_now rows files merge have k t = split_merged told id_of bytes k l old rows files (one_table bytes l k old old.inputs.items refl some own t) merge have

    bounded_now : (k : Lineage) → IsTask bytes k old → IsBounded bytes k old → IsBounded bytes l old
    bounded_now k t b = subst (λ (x : Lineage). IsBounded bytes x old) (sym (one_table bytes l k old old.inputs.items refl some own t)) b

    -- what is told of the table's readers is told of the task
    abbrev TableTold : ℕ → Damage → Type 0
    TableTold newest d = (IsMergeDamage bytes size i.items d ⊎ IsSpareDamage bytes size s.items d) ⊎ IsFrontTotal (columns_of l) (knowns_of bytes old.inputs.items) newest d

    table_told : (newest : ℕ) (d : Damage) → Back → IsNewestOf (knowns_of bytes old.inputs.items) newest → TableTold newest d → IsPartsDamage bytes size Now d
    table_told newest d b last told_ = elim told_ [
      | inl files ↦ elim files [ inl here ↦ inl (inl here) | inr spare ↦ inr spare ]
      | inr total ↦ inl (inr (total_damage bytes l old.inputs.items i.items total.rows newest d b.known last own.inputs total.told (inl (total.begins, total.leaves))))
    ]

    -- the table's file was not written
    pub split_unmade : {T : Type 0} (before now newest : ℕ) (d e : Drafts) (n : ℕ) (error : CompactError) → Back → e ≡ after_drafts n d → IsNewestOf (knowns_of bytes old.inputs.items) newest
        → HasCauses {T = T} before now (faults_of faults (task_inputs old)) (faults_of faults (task_inputs Now)) (TableTold newest) (Err error) → ((x : Damage) → error ≡ damaged_by x → AreBounded (columns_of l) (knowns_of bytes old.inputs.items) → ⊥) → Split before now Now d e (Err error)
    split_unmade before now newest d e n error b drawn last causes accepts = record {
      merged = tt;
      numbered = tt;
      ids = (n, drawn);
      causes = caused_on _ _ _ _ _ _ _ _ _ _ refl refl causes refl (λ x t. table_told newest x b last t);
      accepts = λ x is k t bounds. accepts x is (bounded_now k t bounds);
      same = same_now b;
      kept = kept_now b;
      spares = spares_now b;
    }

    -- there are no rows
    pub split_none : {T : Type 0} (before now newest : ℕ) (d e : Drafts) (n : ℕ) (rows : List Row) (u : T) → Back → e ≡ after_drafts n d → IsMergeOf bytes (columns_of l) old.inputs.items rows → rows ≡ []
        → HasCauses before now (faults_of faults (task_inputs old)) (faults_of faults (task_inputs Now)) (TableTold newest) (Ok u) → Split before now Now d e (Ok None)
    split_none before now newest d e n rows u b drawn merge none causes = record {
      merged = merged_now rows None merge none;
      numbered = tt;
      ids = (n, drawn);
      causes = caused_ok _ _ _ _ _ None causes.drafts.quiet causes.reads.quiet;
      accepts = tt;
      same = same_now b;
      kept = kept_now b;
      spares = spares_now b;
    }

    -- ---- the views' files

    -- the counts of readers stay while the views' files are written
    abbrev ViewCauses : {T : Type 0} → ℕ → ℕ → ℕ → (List Row → Type 0) → Result T CompactError → Type 0
    ViewCauses before now newest Put r = HasCauses before now (faults_of faults (task_inputs Now)) (faults_of faults (task_inputs Now)) (λ d. (d ≡ sum_damage newest) × ((all : List Row) → Put all → ViewLeaves l all)) r

    -- the causes of the views' files, once the table's is written
    view_causes : {T U : Type 0} (start before now newest : ℕ) (Put : List Row → Type 0) (rows : List Row) (r : Result T CompactError) (q : Result U CompactError) → Back → IsNewestOf (knowns_of bytes old.inputs.items) newest → IsMergeOf bytes (columns_of l) old.inputs.items rows → Put rows → before ≡ start
        → faults_of faults (task_inputs Now) ≡ faults_of faults (task_inputs old) → ViewCauses before now newest Put r → SameEnd r q → HasCauses start now (faults_of faults (task_inputs old)) (faults_of faults (task_inputs Now)) (IsPartsDamage bytes size Now) q
    view_causes start before now newest Put rows r q b last merge put stay quiet h same =
        caused_on _ _ _ _ _ _ _ _ r q stay quiet h same (λ d t. inl (files_damage bytes size l old.inputs.items i.items rows newest d b.known last own.inputs merge t.0 (t.1 rows put)))

    -- one of the views' files was not written
    pub split_unviewed : {T : Type 0} (start before now newest : ℕ) (d e : Drafts) (n : ℕ) (Put : List Row → Type 0) (rows : List Row) (error : CompactError) → Back → e ≡ after_drafts n d → IsNewestOf (knowns_of bytes old.inputs.items) newest → IsMergeOf bytes (columns_of l) old.inputs.items rows → Put rows → before ≡ start
        → faults_of faults (task_inputs Now) ≡ faults_of faults (task_inputs old) → ViewCauses {T = T} before now newest Put (Err error)
        → (AreBounded (columns_of l) (knowns_of bytes old.inputs.items) → KeepsSums (columns_of l) rows) → ((x : Damage) → error ≡ damaged_by x → KeepsSums (columns_of l) rows → ⊥) → Split start now Now d e (Err error)
    split_unviewed {T = T} start before now newest d e n Put rows error b drawn last merge put stay quiet h keeps accepts = record {
      merged = tt;
      numbered = tt;
      ids = (n, drawn);
      causes = view_causes {T = T} start before now newest Put rows (Err error) (Err error) b last merge put stay quiet h refl;
      accepts = λ x is k t bounds. accepts x is (keeps (bounded_now k t bounds));
      same = same_now b;
      kept = kept_now b;
      spares = spares_now b;
    }

    -- all files were written
    pub split_made : {T : Type 0} (start before now newest : ℕ) (d e : Drafts) (n : ℕ) (Put : List Row → Type 0) (rows : List Row) (made : MadeFiles M) (u : T) → Back → e ≡ after_drafts n d → IsNewestOf (knowns_of bytes old.inputs.items) newest → IsMergeOf bytes (columns_of l) old.inputs.items rows → Put rows → before ≡ start
        → faults_of faults (task_inputs Now) ≡ faults_of faults (task_inputs old) → ViewCauses before now newest Put (Ok u)
        → AreMadeFiles told id_of (columns_of l) l.views rows made → AreNumbered id_of d made → Split start now Now d e (Ok (Some made))
    split_made start before now newest d e n Put rows made u b drawn last merge put stay quiet h files numbered = record {
      merged = merged_now rows (Some made) merge files;
      numbered = numbered;
      ids = (n, drawn);
      causes = view_causes start before now newest Put rows (Ok u) (Ok (Some made)) b last merge put stay quiet h tt;
      accepts = tt;
      same = same_now b;
      kept = kept_now b;
      spares = spares_now b;
    }
