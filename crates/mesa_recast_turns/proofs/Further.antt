-- What further ranges are to a recast.
use Rattle.std.proofs.Common.{◌≡◌, ◌∙◌, ◌<◌, ◌≤◌, ℕ, ◌+◌, List, [], ◌++◌, length, take, refl, sym, ap, subst, arith, Option, true}
use Rattle.std.specs.List.{AllByRecursion}
use Rattle.std.proofs.lemmas.List.{append-nil, map-append}
use Rattle.mesa_io.specs.Causes.{last}
use Rattle.mesa_disk.specs.Story.{Story, Unmoved}
use Rattle.mesa_work_turns.specs.mesa_history_spec.Sources.{Source, Written}
use Rattle.mesa_work_turns.specs.mesa_schema.Changes.{Lineage, columns_of, epoch_of}
use Rattle.mesa_work_turns.specs.mesa_columns.Columns.{Columns}
use Rattle.mesa_work_turns.specs.mesa_schema.Recasts.{Recast}
use Rattle.mesa_work_turns.specs.mesa_history_spec.Rows.{Rows}
use Rattle.mesa_open_files.specs.Inputs.{AreInputsTo, IsMergeOf}
use Rattle.mesa_open_files.specs.Opening.{Counted}
use Rattle.mesa_open_files.specs.Recasts.{AreRangesOf, AreRewritten, own}
use Rattle.mesa_open_files.specs.declared.recasting.RecastRange.{RecastRange}
use Rattle.mesa_open_files.specs.declared.recasting.RecastedRange.{RecastedRange}
use Rattle.mesa_work_turns.specs.mesa_invariant_spec.Turns.{SomeRose, faults_of}
use Rattle.mesa_work_turns.specs.mesa_invariant_spec.Invariant.{HasCounted}
use Rattle.mesa_engine.proofs.Lists.{all_joined, all_so}
use Rattle.mesa_work_turns.specs.mesa_copy.Copying.{AreRangesBounded, known_range, known_ranges}
use Rattle.mesa_work_turns.specs.mesa_compact.Bounded.{AreBounded}
use Rattle.mesa_work_turns.specs.mesa_merge.Inputs.{knowns_of}
use Rattle.mesa_work_turns.specs.mesa_file_records.Grown.{HasSameColumns}
use Rattle.mesa_work_turns.specs.mesa_file_records.Recasts.{HasItsRange, sources_at}
use Rattle.mesa_work_turns.proofs.mesa_file_records.Rewriting.{same_columns, same_range}
use Rattle.mesa_work_turns.proofs.mesa_copy.Rewriting.{rewritten_front}
use Rattle.mesa_work_turns.proofs.Grants.{fault_counts}
use Rattle.mesa_recast_turns.specs.Rested.{HasFurther}

-- ---- none

-- with no ranges more they are those that were
pub known_none : {R : Type 0} (bytes : R → Option (List ℕ)) (xs : List (RecastRange R)) → known_ranges bytes xs ≡ known_ranges bytes xs ++ []
known_none bytes xs = sym (append-nil (known_ranges bytes xs))

-- ---- the same columns

same_epoch : (was now : Lineage) → HasSameColumns was now → epoch_of now ≡ epoch_of was
same_epoch was now same = λ i. same.begins i + length (same.changes i)

-- a range has its rows, by the columns that the table had as well
range_was : {R : Type 0} (read : R → Option (List ℕ)) (was now : Lineage) (written : List Written) (x : RecastRange R) → HasSameColumns was now → HasItsRange read now written x → HasItsRange read was written x
range_was read was now written x same has = record {
  epochs = subst (λ e. AllByRecursion (λ (s : Source). s.epoch ≤ e) (sources_at x written)) (same_epoch was now same) has.epochs;
  rows = λ rows merge. has.rows rows (subst (λ (s : Columns). IsMergeOf read s (own x) rows) (sym (same_columns was now same)) merge) ∙ same_range was now (sources_at x written) same;
}

-- ---- more of them

module _ {R : Type 0} (read : R → Option (List ℕ)) (now : Lineage) (sound : Rows → Type 0) (written : Rows → List Written) (old new : List (RecastRange R)) (further : HasFurther read now sound written old new) where
  pub further_known : known_ranges read new ≡ known_ranges read old ++ known_ranges read further.more
  further_known = ap (known_ranges read) further.behind ∙ map-append (known_range read) old further.more

  pub further_begun : {M : Type 0} (bytes : M → Option (List ℕ)) (id_of : M → ℕ) (s : Columns) (r : Recast) (ys : List (RecastedRange M)) → AreRewritten bytes id_of read s r old ys → AreRewritten bytes id_of read s r (take (length ys) new) ys
  further_begun bytes id_of s r ys are = subst (λ xs. AreRewritten bytes id_of read s r (take (length ys) xs) ys) (sym further.behind) (rewritten_front bytes id_of read s r old further.more ys are)

  module _ (was : Lineage) (same : HasSameColumns was now) where
    pub further_of : AreRangesOf read was old → AreRangesOf read was new
    further_of are =
        subst (AreRangesOf read was) (sym further.behind)
        (all_joined (λ (x : RecastRange R). AreInputsTo read (columns_of was) (own x)) old further.more are
        (subst (λ (s : Columns). AllByRecursion (λ (x : RecastRange R). AreInputsTo read s (own x)) further.more) (same_columns was now same) further.of_table))

    pub further_bounded : (w : Rows) → sound w → AreRangesBounded read (columns_of was) old → AreRangesBounded read (columns_of was) new
    further_bounded w ok are =
        subst (AreRangesBounded read (columns_of was)) (sym further.behind)
        (all_joined (λ (x : RecastRange R). AreBounded (columns_of was) (knowns_of read (own x))) old further.more are
        (subst (λ (s : Columns). AreRangesBounded read s further.more) (same_columns was now same) (further.bounded w ok)))

    pub further_sourced : (w : Rows) → sound w → AllByRecursion (HasItsRange read was (written w)) old → AllByRecursion (HasItsRange read was (written w)) new
    further_sourced w ok are =
        subst (AllByRecursion (HasItsRange read was (written w))) (sym further.behind)
        (all_joined (HasItsRange read was (written w)) old further.more are
        (all_so (HasItsRange read now (written w)) (HasItsRange read was (written w)) further.more (λ x has. range_was read was now (written w) x same has) (further.sourced w ok)))

-- ---- a fault that was met

-- One of both counts rose.
pub counted_rose : (old new : Story) → Counted old new true → SomeRose (faults_of old) (faults_of new)
counted_rose old new c =
    (fault_counts (record old { moment = 0 }) (record new { moment = 0 }) true (record { faults = c.faults; read_faults = c.read_faults; both = c.both; quiet = c.quiet })).rose (omega arith) refl

-- No entry answers a fault that the disk has counted since the last one.
pub still_unpaid : (counted answered : ℕ) (old new : Story) → Unmoved old new → HasCounted counted old answered → Counted old new true → new.moment < last → new.faults < last → new.read_faults < last → counted + (answered + 1) ≤ new.faults + new.read_faults
still_unpaid counted answered old new unmoved counts rose below calls reads =
    let same = unmoved.moment in
    let before = counts (omega (arith, below, same)) (let more = rose.faults in omega (arith, more, calls)) (let more = rose.read_faults in omega (arith, more, reads)) in
    let one = rose.both calls reads in
    omega (arith, before, one)
