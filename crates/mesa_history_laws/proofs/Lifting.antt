-- Rows of a table at present: written at present, and after one change more.
use Rattle.std.proofs.Common.{◌≡◌, ◌≤◌, List, map, sym, ◌∙◌}
use Rattle.std.proofs.lemmas.List.{map-id}
use Rattle.std.proofs.lemmas.Simd.{map-map}
use Rattle.mesa_history_spec.specs.mesa_columns.declared.rows.Row.{Row}
use Rattle.mesa_history_spec.specs.mesa_columns.declared.changes.Change.{Change}
use Rattle.mesa_history_spec.specs.mesa_columns.Changes.{lifted_once}
use Rattle.mesa_history_spec.specs.mesa_schema.Changes.{Lineage, columns_of, epoch_of, lifted, with_change}
use Rattle.mesa_history_spec.proofs.mesa_columns.Lists.{map_is}
use Rattle.mesa_history_spec.proofs.mesa_schema.PresentRows.{lifted_more, lifted_now}
use Rattle.mesa_history_spec.specs.Sources.{Source, rows_now}

pub present_now : (l : Lineage) (rows : List Row) → rows_now l (record { epoch = epoch_of l; rows = rows }) ≡ rows
present_now l rows = map_is (lifted l (epoch_of l) (epoch_of l)) (λ row. row) rows (lifted_now l) ∙ map-id rows

pub present_more : (l : Lineage) (c : Change) (s : Source) → s.epoch ≤ epoch_of l → rows_now (with_change l c) s ≡ map (lifted_once (columns_of l) c) (rows_now l s)
present_more l c s le =
    map_is (lifted (with_change l c) s.epoch (epoch_of (with_change l c))) (λ row. lifted_once (columns_of l) c (lifted l s.epoch (epoch_of l) row)) s.rows (λ row. lifted_more l c s.epoch row le)
    ∙ sym (map-map (lifted_once (columns_of l) c) (lifted l s.epoch (epoch_of l)) s.rows)
