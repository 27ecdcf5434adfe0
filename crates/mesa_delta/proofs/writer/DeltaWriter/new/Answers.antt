use Rattle.std.proofs.Common.{refl, rules}
use Rattle.mesa_delta.proofs.Taking.{none_taken}
use Rattle.mesa_delta.proofs.writer.DeltaWriter.new.Goals as goal

pub returns-clause-taken : goal.returns-clause-taken
returns-clause-taken g c = none_taken g.T.Draft.bytes _ c.requires (search rules) (search rules) (search rules) refl refl refl (search rules) (search rules) (search rules) (search rules)
