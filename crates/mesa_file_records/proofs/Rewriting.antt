-- Ranges of a recast are rewritten from what was written in them.
use Rattle.std.proofs.Common.{◌≡◌, ℕ, List, sym, ◌∙◌, ap, subst, Option, Some}
use Rattle.mesa_pick_files.specs.mesa_schema.Changes.{Lineage, columns_of, epoch_of}
use Rattle.mesa_columns.specs.Columns.{Columns}
use Rattle.mesa_pick_files.specs.mesa_schema.Recasts.{recast_columns, recast_rows}
use Rattle.mesa_pick_files.specs.mesa_schema.Recasts.{Recast as Asked}
use Rattle.mesa_file.specs.declared.file_ref.FileRef.{FileRef}
use Rattle.mesa_engine.specs.mesa_store_spec.Contents.{Rows}
use Rattle.mesa_engine.specs.mesa_store_spec.Sound.{IsTold}
use Rattle.mesa_engine.specs.mesa_store_spec.Rewritten.{IsRewritten}
use Rattle.mesa_engine.specs.mesa_history_spec.Sources.{Source, Written, range_rows, sources_from}
use Rattle.mesa_batch.specs.Totals.{abs_totals}
use Rattle.mesa_open_files.specs.Recasts.{IsRangeRewritten}
use Rattle.mesa_open_files.specs.declared.recasting.RecastRange.{RecastRange}
use Rattle.mesa_open_files.specs.declared.recasting.RecastedRange.{RecastedRange}
use Rattle.mesa_file_records.specs.Grown.{HasSameColumns}
use Rattle.mesa_file_records.specs.Recasts.{HasItsRange}

-- columns and ranges don't see views
pub same_columns : (was now : Lineage) → HasSameColumns was now → columns_of now ≡ columns_of was
same_columns was now same = λ i. columns_of (record { begins = same.begins i; first = same.first i; changes = same.changes i; views = now.views })

pub same_range : (was now : Lineage) (sources : List Source) → HasSameColumns was now → range_rows now (epoch_of now) sources ≡ range_rows was (epoch_of was) sources
same_range was now sources same =
    λ i. range_rows (record { begins = same.begins i; first = same.first i; changes = same.changes i; views = now.views }) (epoch_of (record { begins = same.begins i; first = same.first i; changes = same.changes i; views = now.views })) sources

-- A range that its task has, and whose file was adopted under this reference, is rewritten from what was written in it, in the present table too.
pub range_rewritten : {M R : Type 0} (bytes : M → Option (List ℕ)) (id_of : M → ℕ) (read : R → Option (List ℕ)) (rows : Rows) (was now : Lineage) (r : Asked) (written : List Written) (x : RecastRange R) (y : RecastedRange M) (ref : FileRef)
    → HasSameColumns was now → HasItsRange read was written x → (made : IsRangeRewritten bytes id_of read (columns_of was) r x y)
    → rows ref.id ≡ recast_rows (columns_of was) r made.rows → IsTold rows (record { columns = recast_columns (columns_of was) r; file = ref })
    → IsRewritten rows now r written (record { from = y.from; to = y.to; file = Some ref; totals = y.totals })
range_rewritten bytes id_of read rows was now r written x y ref same has made found told =
    let s : Columns = columns_of was in
    let columns : columns_of now ≡ s = same_columns was now same in
    let merged : made.rows ≡ range_rows was (epoch_of was) (sources_from x.from x.to written) = has.rows made.rows made.merge in
    let range : range_rows now (epoch_of now) (sources_from y.from y.to written) ≡ range_rows was (epoch_of was) (sources_from x.from x.to written) =
    same_range was now (sources_from y.from y.to written) same ∙ (λ i. range_rows was (epoch_of was) (sources_from (made.from i) (made.to i) written)) in
    record {
      rows_are = found ∙ ap (recast_rows s r) (merged ∙ sym range) ∙ (λ i. recast_rows (sym columns i) r (range_rows now (epoch_of now) (sources_from y.from y.to written)));
      told = (subst (λ (c : Columns). IsTold rows (record { columns = recast_columns c r; file = ref })) (sym columns) told, tt);
      totals = made.totals ∙ (λ i. abs_totals (recast_columns (sym columns i) r) (sym found i));
    }
