use Rattle.std.proofs.Common.{List, length, sym, ap, ◌∙◌}
use Rattle.mesa_columns.specs.declared.rows.Row.{Row}
use Rattle.mesa_block.proofs.Held.{count_over}
use Rattle.mesa_block.proofs.flat.Block.len.Goals as goal

pub returns : goal.returns
returns c = c.len.ensures ∙ sym (count_over c.self.inside.count c.self.inside.keys c.self.inside.values.items) ∙ ap (λ (rows : List Row). length rows) c.self.view_is
