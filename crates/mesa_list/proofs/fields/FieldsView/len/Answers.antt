use Rattle.std.proofs.Common.{length, ap, arith}
use Rattle.mesa_list.proofs.Pieces.{count_of_pieces}
use Rattle.mesa_list.proofs.fields.FieldsView.len.Goals as goal

pub returns : goal.returns
returns c = omega (arith, ap length c.self.view_is, count_of_pieces c.self.inside.bytes.now c.self.inside.start c.self.inside.ends.now)
