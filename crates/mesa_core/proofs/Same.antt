-- Tasks of which the same is known.
use Rattle.std.proofs.Common.{◌≡◌, ◌∙◌, ℕ, ◌≤◌, List, sym, ap, subst, Option}
use Rattle.std.specs.List.{AllByRecursion}
use Rattle.mesa_recast_turns.specs.mesa_schema.Changes.{Lineage, columns_of}
use Rattle.mesa_engine.specs.mesa_span.declared.works.Work.{Work}
use Rattle.mesa_recast_turns.specs.mesa_history_spec.Sources.{Source, Written, range_rows, sources_from}
use Rattle.mesa_engine.specs.mesa_store_spec.Moves.{first_of, last_of}
use Rattle.mesa_core.specs.Works.{KnownTask, known_task}
use Rattle.mesa_core.proofs.Known.{merge_stays}
use Rattle.mesa_recast_turns.specs.mesa_file_records.Finished.{HasRange}
use Rattle.mesa_open_files.specs.declared.merging.Task.{Task}
use Rattle.mesa_core.specs.Known.{AllHaveRange}

module _ {R : Type 0} (bytes : R → Option (List ℕ)) where
  -- so each has the range that one has
  pub range_known : (was : Lineage) (old : Task R) (written : List Written) → HasRange bytes was old written → AllHaveRange bytes was (known_task bytes old) written
  range_known was old written has new same =
      let work : old.work ≡ new.work = sym (ap (λ (k : KnownTask). k.work) same) in
      let epoch : old.epoch ≡ new.epoch = sym (ap (λ (k : KnownTask). k.epoch) same) in
      let files = ap (λ (k : KnownTask). k.files) same in
      let rows : range_rows was old.epoch (sources_from (first_of old.work) (last_of old.work) written) ≡ range_rows was new.epoch (sources_from (first_of new.work) (last_of new.work) written) =
      λ j. range_rows was (epoch j) (sources_from (first_of (work j)) (last_of (work j)) written) in
      record {
        epochs = subst (λ (w : Work). AllByRecursion (λ (s : Source). s.epoch ≤ new.epoch) (sources_from (first_of w) (last_of w) written)) work
            (subst (λ e. AllByRecursion (λ (s : Source). s.epoch ≤ e) (sources_from (first_of old.work) (last_of old.work) written)) epoch has.epochs);
        rows = λ its merge. has.rows its (merge_stays bytes (columns_of was) new.inputs.items old.inputs.items its (sym files) merge) ∙ rows;
      }
