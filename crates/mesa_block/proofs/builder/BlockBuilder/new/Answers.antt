use Rattle.std.proofs.Common.{ap, sym, ◌∙◌}
use Rattle.mesa_columns.specs.Columns.{Columns, kinds_of}
use Rattle.mesa_block.specs.Layout.{values_size, widths_in}
use Rattle.mesa_block.proofs.Held.{held_none}
use Rattle.mesa_block.proofs.builder.BlockBuilder.new.Goals as goal

pub invariant_of-result : goal.invariant_of-result
invariant_of-result c =
    let same = sym c.in_ok-copy.ensures in
    rw (c.new.ensures, c.new-2.ensures.items) (held_none (record { format = c.args.format; columns = c.in_ok-copy.field-0 }) c.in_ok-kinds.field-0.items c.in_ok-widths.field-0.items c.row_size.result (c.in_ok-kinds.ensures ∙ ap kinds_of same)
    (c.in_ok-widths.ensures ∙ ap (λ (s : Columns). widths_in c.args.format s.values) same) (c.row_size.ensures ∙ ap (λ (s : Columns). values_size (widths_in c.args.format s.values)) same))
