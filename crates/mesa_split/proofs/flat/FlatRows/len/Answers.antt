use Rattle.std.proofs.Common.{List, length, sym, ap, ◌∙◌}
use Rattle.mesa_compact.specs.mesa_columns.declared.rows.Row.{Row}
use Rattle.mesa_delta.proofs.mesa_block.Held.{count_over}
use Rattle.mesa_split.proofs.flat.FlatRows.len.Goals as goal

pub returns : goal.returns
returns c = c.len.ensures ∙ sym (count_over c.self.inside.count c.self.inside.keys c.self.inside.values.items) ∙ ap (λ (rows : List Row). length rows) c.self.view_is
