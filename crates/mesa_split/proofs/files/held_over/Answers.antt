use Rattle.std.proofs.Common.{◌∙◌, [], ap, sym}
use Rattle.mesa_split.specs.Held.{sent_bytes}
use Rattle.mesa_split.proofs.files.held_over.Goals as goal

pub returns-clause-taken : goal.returns-clause-taken
returns-clause-taken g c = c.over.ensures.taken [] c.requires (c.of-held.ensures.bytes ∙ ap g.D.Draft.bytes c.draft.ensures)

pub returns-clause-sent : goal.returns-clause-sent
returns-clause-sent g c = ap (sent_bytes g.D.Draft.bytes) c.over.ensures.draft ∙ c.of-held.ensures.sent ∙ ap g.D.Draft.bytes (c.draft.ensures ∙ sym c.over.ensures.given_back)
