use Rattle.std.proofs.Common.{◌≡◌, ◌≤◌, ◌+◌, ◌-◌, ◌∙◌, ap, arith, length, take}
use Rattle.std.specs.Prelude.{min, slice_index_or}
use Rattle.std.proofs.lemmas.List.{take_min}
use Rattle.mesa_store_spec.specs.mesa_columns.Changes.{columns_after}
use Rattle.mesa_schema.specs.Changes.{columns_at, epoch_of}
use Rattle.mesa_store_spec.specs.mesa_columns.Columns.{Columns}
use Rattle.mesa_catalog_table.proofs.Counts.{width_at, width_there}
use Rattle.mesa_catalog_table.proofs.recording.count_columns.Goals as goal

pub bounds-widths-epoch : goal.bounds-widths-epoch
bounds-widths-epoch c =
    let l = c.args.evolving.now in
    let there = width_there l c.min-epoch.result (omega (arith, c.min-epoch.ensures, c.epoch.ensures.count)) in
    omega (arith, there, ap length c.requires)

pub returns : goal.returns
returns c =
    let l = c.args.evolving.now in
    let old : c.min-epoch.result ≤ epoch_of l = omega (arith, c.min-epoch.ensures, c.epoch.ensures.count) in
    let since : min c.args.epoch (l.begins + length l.changes) - l.begins ≡ min (c.args.epoch - l.begins) (length l.changes) = omega arith in
    let same : columns_at l c.min-epoch.result ≡ columns_at l c.args.epoch =
    ap (columns_at l) (c.min-epoch.ensures ∙ ap (min c.args.epoch) c.epoch.ensures.count) ∙ ap (columns_after l.first) (ap (λ n. take n l.changes) since ∙ take_min (c.args.epoch - l.begins) l.changes) in
    let keys = c.keys_at.ensures ∙ ap (λ (s : Columns). length s.keys) same in
    let values = ap (λ ws. slice_index_or ws c.min-epoch.result 0) c.requires ∙ width_at l c.min-epoch.result old ∙ ap (λ (s : Columns). length s.values) same in
    omega (arith, c.saturating_add.ensures, keys, values)
