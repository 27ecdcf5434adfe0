use Rattle.std.proofs.Common.{◌∙◌, ap, sym, length}
use Rattle.mesa_batch.proofs.LoadedRows.{row_count}
use Rattle.mesa_batch.proofs.loading.LoadRows.len.Goals as goal

pub returns : goal.returns
returns c = ap length c.as_slice.ensures.value ∙ sym (row_count c.self.inside.words c.self.inside.ends.items) ∙ ap length c.self.view_is
