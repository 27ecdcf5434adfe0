use Rattle.std.proofs.Common.{◌+◌, ◌-◌, ◌^◌, ◌∙◌, ap, sym, arith, length}
use Rattle.std.specs.Prelude.{min}
use Rattle.std.proofs.lemmas.Option.{slice_get_past}
use Rattle.mesa_store_spec.specs.Fitting.{columns_seen}
use Rattle.mesa_schema.specs.Changes.{columns_of}
use Rattle.mesa_store_spec.specs.mesa_columns.Columns.{Columns}
use Rattle.mesa_catalog_table.proofs.Counts.{view_depth, view_width}
use Rattle.mesa_catalog_table.proofs.recording.count_seen.Goals as goal

pub returns-then-view-views : goal.returns-then-view-views
returns-then-view-views c = λ s is.
    let l = c.args.evolving.now in
    let v = c.view.result.now in
    let same = is ∙ ap (columns_seen (columns_of l)) c.view.ensures in
    let views = c.present.ensures.rules.views in
    let keys = sym (ap (λ (columns : Columns). length columns.keys) same ∙ view_depth (columns_of l) l.views c.args.view v views c.view.ensures) in
    let values = sym (ap (λ (columns : Columns). length columns.values) same ∙ view_width (columns_of l) l.views c.args.view v views c.view.ensures) in
    c.count_view.ensures ∙ (λ i. min (2 ^ 64 - 1) (keys i + values i))

pub returns-else-view-views : goal.returns-else-view-views
returns-else-view-views c = λ s is.
    let l = c.args.evolving.now in
    let same = is ∙ ap (columns_seen (columns_of l)) (slice_get_past l.views c.args.view (omega arith)) in
    ap (λ (columns : Columns). min (2 ^ 64 - 1) (length columns.keys + length columns.values)) (sym same)
