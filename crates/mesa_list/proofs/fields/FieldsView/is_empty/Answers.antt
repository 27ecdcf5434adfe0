use Rattle.mesa_list.proofs.Pieces.{no_pieces}
use Rattle.mesa_list.proofs.fields.FieldsView.is_empty.Goals as goal

pub returns : goal.returns
returns c = rw (c.is_empty.ensures, ← c.self.view_is) (no_pieces c.self.inside.bytes.now c.self.inside.start c.self.inside.ends.now)
