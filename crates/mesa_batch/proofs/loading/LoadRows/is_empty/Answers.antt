use Rattle.mesa_batch.proofs.LoadedRows.{no_rows}
use Rattle.mesa_batch.proofs.loading.LoadRows.is_empty.Goals as goal

pub returns : goal.returns
returns c = rw (c.is_empty.ensures, c.as_slice.ensures.value, ← c.self.view_is) (no_rows c.self.inside.words c.self.inside.ends.items)
