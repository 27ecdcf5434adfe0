use Rattle.std.proofs.Common.{◌≡◌, ◌∙◌, ◌+◌, ◌≤◌, sym, arith, length, length-append}
use Rattle.mesa_list.specs.Pieces.{last_end}
use Rattle.mesa_list.proofs.Pieces.{last_end_push, rise_push}
use Rattle.mesa_batch.proofs.LoadedRows.{row_pushed}
use Rattle.mesa_batch.proofs.loading.LoadRows.push.Goals as goal

pub invariant_of-self-in_default : goal.invariant_of-self-in_default
invariant_of-self-in_default g c =
    let end : c.saturating_add-end.result ≡ length c.self.inside.words + length (g.W.Words.words c.args.words.now) = omega arith in
    let within : last_end 0 c.self.inside.ends.items ≤ c.saturating_add-end.result = omega (arith, c.self.invariant.1) in
    rw (c.in_ok-push.ensures.items, c.in_default.ensures.ok) (
      rise_push 0 c.self.inside.ends.items c.saturating_add-end.result c.self.invariant.0 within,
      last_end_push 0 c.self.inside.ends.items c.saturating_add-end.result ∙ end ∙ sym (length-append c.self.inside.words (g.W.Words.words c.args.words.now)),
    )

pub returns-clause-ok : goal.returns-clause-ok
returns-clause-ok g c =
    let end : c.saturating_add-end.result ≡ length c.self.inside.words + length (g.W.Words.words c.args.words.now) = omega arith in
    rw (c.in_ok-push.ensures.items, c.in_default.ensures.ok, ← c.self.view_is)
    (row_pushed c.self.inside.words (g.W.Words.words c.args.words.now) c.self.inside.ends.items c.saturating_add-end.result c.self.invariant.0 c.self.invariant.1 end)
