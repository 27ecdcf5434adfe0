use Rattle.std.proofs.Common.{◌≡◌, ◌+◌, ◌*◌, ◌<◌, ◌≤◌, ℕ, List, ◌∙◌, arith, ap, get_or, length, take}
use Rattle.std.proofs.lemmas.List.{length-map, length-take}
use Rattle.mesa_columns.specs.declared.columns.ValueColumn.{ValueColumn}
use Rattle.mesa_block.specs.Layout.{size_of, values_size, width_of, widths_in}
use Rattle.mesa_block.proofs.Alone.{few_columns}
use Rattle.mesa_block.proofs.Cells.{size_more, size_most, values_most}
use Rattle.mesa_block.proofs.layout.row_size.Goals as goal

-- the columns before one take few bytes
few_bytes : (n size : ℕ) → n ≤ 16 → size ≤ n * 16 → size < 1000
few_bytes n size few most = omega (arith, few, most)

pub overflow_add-size : goal.overflow_add-size
overflow_add-size c =
    let values = c.args.schema.now.values in
    let i = c.loop-column.column-index in
    let before = take i values in
    let count : length (widths_in c.args.format before) ≡ length before = length-map before (λ (v : ValueColumn). width_of c.args.format v.agg) in
    let some : length before ≤ length values = omega (arith, length-take i values) in
    let few : length values ≤ 16 = (few_columns c.args.schema.now c.keys-sound.ensures.sound).1 in
    let size : c.loop-column.size < 1000 = few_bytes (length before) c.loop-column.size (omega (arith, some, few)) (omega (arith, c.loop-column.invariant, values_most (widths_in c.args.format before), count)) in
    let more : c.size-size.result ≤ 16 = omega (arith, c.size-size.ensures, size_most c.of.result) in
    omega (arith, size, more)

pub loop-column-preserved : goal.loop-column-preserved
loop-column-preserved c =
    let values = c.args.schema.now.values in
    let i = c.loop-column.column-index in
    let item = c.column-item.result in
    let same : c.values-column-items.result.now ≡ values = c.values-column-items.ensures.same in
    let here : item ≡ get_or values i item = c.column-item.is ∙ ap (λ (l : List ValueColumn). get_or l i item) same in
    let more : i < length values = omega (arith, c.loop-column-test.true, ap length same) in
    let width : c.size-size.result ≡ size_of (width_of c.args.format (get_or values i item).agg) = c.size-size.ensures ∙ ap size_of (c.of.ensures ∙ ap (λ (v : ValueColumn). width_of c.args.format v.agg) here) in
    let next : c.loop-column.size + c.size-size.result ≡ values_size (widths_in c.args.format (take (i + 1) values)) = omega (arith, c.loop-column.invariant, width, size_more c.args.format values i item more) in
    next
