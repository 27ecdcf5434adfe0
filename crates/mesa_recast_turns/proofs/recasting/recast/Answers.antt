use Rattle.std.proofs.Common.{◌≡◌, inl, sym, ◌∙◌, ap, subst, Err}
use Rattle.std.specs.Prelude.{◌⊎◌}
use Rattle.std.proofs.Math.Logic.{⊎_map}
use Rattle.mesa_delta.specs.declared.error.FileError.TheVariants as file_error
use Rattle.mesa_work_turns.specs.mesa_history_spec.Run.{Finished}
use Rattle.mesa_model.specs.declared.entries.Kind.TheVariants as kind
use Rattle.mesa_work_turns.specs.mesa_history_spec.Rows.{no_rows}
use Rattle.mesa_open_files.specs.declared.merging.CompactError.TheVariants as compact
use Rattle.mesa_work_turns.specs.mesa_invariant_spec.Turns.{AnswersDisk, AnswersDraft, Shown, SomeRose, Takes}
use Rattle.mesa_work_turns.proofs.mesa_invariant_spec.Faulting.{disk_also, rose_still}
use Rattle.mesa_work_turns.specs.Swept.{HasStood, IsSwept}
use Rattle.mesa_recast_turns.proofs.recasting.recast.Goals as goal

-- ---- its ranges were rewritten

pub close-requires-clause-due : goal.close-requires-clause-due
close-requires-clause-due g c κs within = (c.args.words.now, rw c.in-Ok.is at c.requires.renewed)

pub close-requires-clause-rested : goal.close-requires-clause-rested
close-requires-clause-rested g c κs within = rw c.in-Ok.is at c.requires.rested

pub returns-in-Ok-clause-turn : goal.returns-in-Ok-clause-turn
returns-in-Ok-clause-turn g c =
    let N = g.N.Naming in
    subst (λ (x : Shown). Takes N.script (N.start no_rows) c.args.engine.now.shown x c.args.who.session c.args.who.command kind.Close Finished) (sym c.give_back_recast.ensures.shown) c.close.ensures.turn

pub returns-in-Ok-clause-draft : goal.returns-in-Ok-clause-draft
returns-in-Ok-clause-draft g c =
    let N = g.N.Naming in
    subst (λ (x : Shown). AnswersDraft N.script (N.start no_rows) c.args.engine.now.shown x c.args.who.session (c.args.made ≡ Err compact.Draft)) (sym c.give_back_recast.ensures.shown) (λ low e grew is. absurd (c.close.ensures.draft low e grew is))

pub returns-in-Ok-clause-disk : goal.returns-in-Ok-clause-disk
returns-in-Ok-clause-disk g c =
    let N = g.N.Naming in
    let old = c.args.engine.now in
    let met = c.close.new.engine in
    let now = c.give_back_recast.new.engine in
    subst (λ (x : Shown). AnswersDisk N.script (N.start no_rows) old.shown x (SomeRose old.faults now.faults ⊎ (c.args.made ≡ Err (compact.File file_error.Read)))) (sym c.give_back_recast.ensures.shown)
    (disk_also N.script (N.start no_rows) old.shown met.shown (λ (rose : SomeRose old.faults met.faults). inl (rose_still old.faults met.faults now.faults rose c.give_back_recast.ensures.faults)) c.close.ensures.disk)

pub returns-in-Ok-clause-swept : goal.returns-in-Ok-clause-swept
returns-in-Ok-clause-swept g c =
    let old = c.args.engine.now.shown in
    let met = c.close.new.engine in
    let now = c.give_back_recast.new.engine in
    rw c.in-Ok.is (λ stood holds still.
    subst (λ (x : Shown). IsSwept now.told now.state x.history) (sym c.give_back_recast.ensures.shown)
    (subst (λ l. IsSwept now.told l met.shown.history) (sym c.give_back_recast.ensures.state)
    (subst (λ t. IsSwept t met.state met.shown.history) (sym c.give_back_recast.ensures.told)
    (c.close.ensures.swept (subst (λ (x : Shown). HasStood old x c.args.who.session c.args.who.command) c.give_back_recast.ensures.shown stood) holds still))))

-- ---- they weren't

pub abandon-requires-clause-due : goal.abandon-requires-clause-due
abandon-requires-clause-due g c κs within = (c.args.words.now, c.requires.due.0, c.requires.due.1)

pub returns-in-Err-clause-draft : goal.returns-in-Err-clause-draft
returns-in-Err-clause-draft g c = λ low e grew is. c.in-Err.is ∙ ap Err (c.abandon.ensures.draft low e grew is)

-- a read that it met is the one that its argument tells
pub returns-in-Err-clause-disk : goal.returns-in-Err-clause-disk
returns-in-Err-clause-disk g c =
    let N = g.N.Naming in
    let old = c.args.engine.now in
    let now = c.abandon.new.engine in
    disk_also N.script (N.start no_rows) old.shown now.shown (λ (met : SomeRose old.faults now.faults ⊎ (c.in-Err.error ≡ compact.File file_error.Read)). ⊎_map (λ rose. rose) (λ is. c.in-Err.is ∙ ap Err is) met) c.abandon.ensures.disk

pub returns-in-Err-clause-state : goal.returns-in-Err-clause-state
returns-in-Err-clause-state g c = rw c.in-Err.is c.abandon.ensures.state

pub returns-in-Err-clause-outcome : goal.returns-in-Err-clause-outcome
returns-in-Err-clause-outcome g c = rw c.in-Err.is c.abandon.ensures.outcome

pub returns-in-Err-clause-prints : goal.returns-in-Err-clause-prints
returns-in-Err-clause-prints g c = rw c.in-Err.is c.abandon.ensures.prints

pub returns-in-Err-clause-swept : goal.returns-in-Err-clause-swept
returns-in-Err-clause-swept g c = rw c.in-Err.is tt
