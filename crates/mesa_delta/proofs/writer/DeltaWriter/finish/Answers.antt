use Rattle.std.proofs.Common.{ap, sym, ◌∙◌, rules}
use Rattle.mesa_delta.proofs.Taking.{open_some, file_of, reference_of}
use Rattle.mesa_delta.proofs.writer.DeltaWriter.finish.Goals as goal

pub seal-requires-clause-some : goal.seal-requires-clause-some
seal-requires-clause-some g c κs within = open_some g.T.Draft.bytes c.args.self c.requires.0 c.requires.1 c.requires.2

pub returns-in-Ok-finish-clause-file : goal.returns-in-Ok-finish-clause-file
returns-in-Ok-finish-clause-file g c = λ rows h bytes at.
    file_of g.T.Draft.bytes c.args.self c.seal.new.self.draft c.in-Ok.sealed bytes c.requires.0 rows c.requires.1 c.requires.2 h c.in-Ok.ensures.sealed
    (ap g.T.Draft.bytes (sym c.into_draft-2.ensures) ∙ sym c.in-Ok-finish.ensures.bytes ∙ at)

pub returns-in-Ok-finish-clause-reference : goal.returns-in-Ok-finish-clause-reference
returns-in-Ok-finish-clause-reference g c = λ rows h.
    let r = c.reference-file.ensures in
    reference_of g.T.Draft.bytes c.args.self c.seal.new.self.draft c.in-Ok.sealed c.reference-file.result rows h c.in-Ok.ensures.sealed r.format r.id r.len r.rows (search rules) r.first r.last r.aggregates r.digest
