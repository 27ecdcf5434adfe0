use Rattle.std.proofs.Common.{sym, ◌∙◌}
use Rattle.std.proofs.lemmas.Bool.Decides.{Decides-eqb}
use Rattle.mesa_delta.proofs.Waiting.{all_taken, none_waits}
use Rattle.mesa_delta.proofs.ahead.Ahead.is_empty.Goals as goal

pub returns : goal.returns
returns c =
    let a = c.self.inside in
    let le = c.self.invariant in
    let same = Decides-eqb a.taken a.filled in
    (λ is. sym c.self.view_is ∙ none_waits a.slots.items a.taken a.filled le.1 (same.0 is), λ none. same.1 (all_taken a.slots.items a.taken a.filled le.0 le.1 (c.self.view_is ∙ none)))
