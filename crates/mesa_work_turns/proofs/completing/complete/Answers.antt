use Rattle.std.proofs.Common.{sym, subst}
use Rattle.mesa_write_turns.specs.mesa_history_spec.Rows.{no_rows}
use Rattle.mesa_write_turns.specs.mesa_invariant_spec.Turns.{AnswersDisk, Shown, SomeRose}
use Rattle.mesa_write_turns.proofs.mesa_invariant_spec.Faulting.{disk_also, rose_still}
use Rattle.mesa_work_turns.specs.Swept.{HasStood, IsSwept}
use Rattle.mesa_work_turns.proofs.completing.complete.Goals as goal

pub returns-clause-disk : goal.returns-clause-disk
returns-clause-disk g c =
    let N = g.N.Naming in
    let old = c.args.engine.now in
    let met = c.close.new.engine in
    let now = c.give_back.new.engine in
    subst (λ (x : Shown). AnswersDisk N.script (N.start no_rows) old.shown x (SomeRose old.faults now.faults)) (sym c.give_back.ensures.shown)
    (disk_also N.script (N.start no_rows) old.shown met.shown (λ (rose : SomeRose old.faults met.faults). rose_still old.faults met.faults now.faults rose c.give_back.ensures.faults) c.close.ensures.disk)

pub returns-clause-swept : goal.returns-clause-swept
returns-clause-swept g c = λ stood holds.
    let met = c.close.new.engine in
    let now = c.give_back.new.engine in
    subst (λ (x : Shown). IsSwept now.told now.state x.history) (sym c.give_back.ensures.shown)
    (subst (λ l. IsSwept now.told l met.shown.history) (sym c.give_back.ensures.state)
    (subst (λ t. IsSwept t met.state met.shown.history) (sym c.give_back.ensures.told)
    (c.close.ensures.swept (subst (λ (x : Shown). HasStood c.args.engine.now.shown x c.args.who.session c.args.who.command) c.give_back.ensures.shown stood) holds)))
