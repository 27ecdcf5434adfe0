use Rattle.std.proofs.Common.{◌≡◌, ◌∙◌, inl, refl, sym, ap, subst, arith, None, true}
use Rattle.std.proofs.lemmas.Result.{on_ok_weaker}
use Rattle.mesa_core.specs.Handing.{AllAreRested, IsRecastHeld}
use Rattle.mesa_core.specs.Recasts.{KnownRecast}
use Rattle.mesa_session_turns.proofs.Rewriting.{claim_known, claim_longer, rest_closes}
use Rattle.mesa_session_turns.proofs.outside.regrouped_now.Goals as goal

-- what was rewritten before is a front of it
pub regrouped_more-made-requires-clause-begun : goal.regrouped_more-made-requires-clause-begun
regrouped_more-made-requires-clause-begun g c κs within = c.in-Ok.ensures.begun c.args.made c.requires.made

pub returns-in-Ok-clause-claim : goal.returns-in-Ok-clause-claim
returns-in-Ok-clause-claim g c =
    let read = g.D.Reader.FileReader.bytes in
    claim_known read c.in-Ok.task c.regrouped_more-made.new.task c.regrouped_more-made.ensures.known ∙ claim_longer read c.args.task c.in-Ok.task c.in-Ok.ensures.longer

pub returns-in-Err-clause-claim : goal.returns-in-Err-clause-claim
returns-in-Err-clause-claim g c = claim_longer g.D.Reader.FileReader.bytes c.args.task c.in-Err.task c.in-Err.ensures.longer

pub returns-in-Ok-clause-held : goal.returns-in-Ok-clause-held
returns-in-Ok-clause-held g c =
    let N = g.N.Naming in
    subst (IsRecastHeld g.D.Reader.FileReader.bytes N.script N.start N.origin N.sound c.rest.new.self.shown.history) (sym c.regrouped_more-made.ensures.known) c.in-Ok.ensures.held

pub returns-in-Ok-clause-rested : goal.returns-in-Ok-clause-rested
returns-in-Ok-clause-rested g c =
    let read = g.D.Reader.FileReader.bytes in
    let known = c.regrouped_more-made.ensures.known in
    on_ok_weaker c.regrouped_more-made.result
    (λ (none : c.regrouped_more-made.new.task.damage ≡ None) (runs : c.rest.new.self.shown.running ≡ true).
    subst (AllAreRested read c.rest.new.self.state) (sym known) (c.in-Ok.ensures.rested runs (sym (ap (λ (k : KnownRecast). k.damage) known) ∙ none)))
    c.regrouped_more-made.ensures.whole

pub returns-in-Ok-clause-made : goal.returns-in-Ok-clause-made
returns-in-Ok-clause-made g c = inl c.regrouped_more-made.ensures.made

pub returns-in-Err-clause-made : goal.returns-in-Err-clause-made
returns-in-Err-clause-made g c = rest_closes g.D.Reader.FileReader.bytes g.M.Made.bytes g.M.Made.id_of g.D.Reader.FileReader.faults c.in-Err.task c.in-Err.error c.in-Err.ensures.sort c.in-Err.ensures.unpaid

pub returns-in-Err-clause-owes : goal.returns-in-Err-clause-owes
returns-in-Err-clause-owes g c = λ low. omega arith

pub returns-in-Err-clause-ids : goal.returns-in-Err-clause-ids
returns-in-Err-clause-ids g c = (0, refl)
