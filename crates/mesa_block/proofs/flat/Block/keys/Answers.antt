use Rattle.std.proofs.Common.{List, map, sym, ap, ◌∙◌}
use Rattle.mesa_columns.specs.declared.rows.Row.{Row}
use Rattle.mesa_block.specs.Spelling.{key_of}
use Rattle.mesa_block.proofs.Held.{keys_over}
use Rattle.mesa_block.proofs.flat.Block.keys.Goals as goal

pub returns : goal.returns
returns c = sym (keys_over c.self.inside.count c.self.inside.keys c.self.inside.values.items) ∙ ap (λ (rows : List Row). map key_of rows) c.self.view_is
