use Rattle.std.proofs.Common.{◌∙◌, length, length-append, sym}
use Rattle.std.specs.List.{concat}
use Rattle.mesa_list.proofs.Joined.{last_joined, pieces_joined, rise_joined}
use Rattle.mesa_list.proofs.fields.Fields.push_all.Goals as goal

pub invariant_of-self-in_default : goal.invariant_of-self-in_default
invariant_of-self-in_default g c =
    let words = g.W.Words.words c.args.words.now in
    let bytes = c.self.inside.bytes.items in
    let ends = c.self.inside.ends.items in
    rw (c.in_default.ensures.bytes, c.in_default.ensures.ends) (
      rise_joined 0 ends (length bytes) words c.self.invariant.0 c.self.invariant.1,
      last_joined 0 ends (length bytes) words c.self.invariant.1 ∙ sym (length-append bytes (concat words)),
      rw c.in_default.ensures.bytes at c.in_default.ensures.few,
    )

pub returns-clause-ok : goal.returns-clause-ok
returns-clause-ok g c =
    rw (c.in_default.ensures.bytes, c.in_default.ensures.ends, ← c.self.view_is)
    (pieces_joined c.self.inside.bytes.items 0 c.self.inside.ends.items (g.W.Words.words c.args.words.now) c.self.invariant.0 c.self.invariant.1)
