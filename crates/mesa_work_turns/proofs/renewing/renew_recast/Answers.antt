use Rattle.std.proofs.Common.{refl, sym, subst}
use Rattle.mesa_write_turns.specs.mesa_history_spec.Machine.{Recasts}
use Rattle.mesa_write_turns.specs.mesa_history_spec.Run.{Finished}
use Rattle.mesa_model.specs.declared.commands.Command.TheVariants as command
use Rattle.mesa_model.specs.declared.entries.Kind.TheVariants as kind
use Rattle.mesa_write_turns.specs.mesa_history_spec.Rows.{no_rows}
use Rattle.mesa_write_turns.specs.mesa_invariant_spec.Turns.{AnswersDisk, Shown, SomeRose, Takes}
use Rattle.mesa_write_turns.proofs.mesa_invariant_spec.Faulting.{disk_also}
use Rattle.mesa_open_files.specs.Recasts.{recast_in}
use Rattle.mesa_work_turns.proofs.renewing.renew_recast.Goals as goal

pub renew_lease-requires-clause-due : goal.renew_lease-requires-clause-due
renew_lease-requires-clause-due g c κs within = (command.Recast c.args.words.now, Recasts c.args.task.epoch (recast_in c.args.task), refl, c.requires.due)

pub returns-in-Some-clause-turn : goal.returns-in-Some-clause-turn
returns-in-Some-clause-turn g c = c.in-Some.ensures.turn (command.Recast c.args.words.now) (Recasts c.args.task.epoch (recast_in c.args.task)) refl c.requires.due

pub returns-in-None-clause-turn : goal.returns-in-None-clause-turn
returns-in-None-clause-turn g c =
    let N = g.N.Naming in
    subst (λ (x : Shown). Takes N.script (N.start no_rows) c.args.engine.now.shown x c.args.who.session c.args.who.command kind.Renew Finished) (sym c.give_back_recast.ensures.shown)
    (c.in-None.ensures.turn (command.Recast c.args.words.now) (Recasts c.args.task.epoch (recast_in c.args.task)) refl c.requires.due)

pub returns-in-Some-clause-disk : goal.returns-in-Some-clause-disk
returns-in-Some-clause-disk g c =
    let N = g.N.Naming in
    disk_also N.script (N.start no_rows) c.args.engine.now.shown c.renew_lease.new.engine.shown (λ (no : ⊥). absurd no) c.renew_lease.ensures.disk

pub returns-in-None-clause-disk : goal.returns-in-None-clause-disk
returns-in-None-clause-disk g c =
    let N = g.N.Naming in
    subst (λ (x : Shown). AnswersDisk N.script (N.start no_rows) c.args.engine.now.shown x (SomeRose c.args.engine.now.faults c.give_back_recast.new.engine.faults)) (sym c.give_back_recast.ensures.shown)
    (disk_also N.script (N.start no_rows) c.args.engine.now.shown c.renew_lease.new.engine.shown (λ (no : ⊥). absurd no) c.renew_lease.ensures.disk)
