use Rattle.std.proofs.Common.{◌∙◌, length, not, false, refl, sym, ap, subst}
use Rattle.mesa_work_turns.specs.mesa_history_spec.Machine.{still_checked}
use Rattle.mesa_work_turns.specs.mesa_history_spec.Run.{Renewed}
use Rattle.mesa_work_turns.specs.mesa_history_spec.Turns.{IsDue}
use Rattle.mesa_model.specs.Warehouse.{Table}
use Rattle.mesa_model.specs.declared.commands.Command.TheVariants as command
use Rattle.mesa_engine.specs.EngineState.{books_of}
use Rattle.mesa_engine.specs.Vault.{Starts, outset_of}
use Rattle.mesa_work_turns.specs.mesa_invariant_spec.Causes.{outcome_of}
use Rattle.mesa_work_turns.specs.mesa_invariant_spec.Invariant.{run_at}
use Rattle.mesa_engine.specs.Engine.{Standing, starts_of}
use Rattle.mesa_work_turns.specs.mesa_history_spec.Rows.{no_rows}
use Rattle.mesa_open_files.specs.Recasts.{claim_of_recast, recast_in}
use Rattle.mesa_work_turns.proofs.Sweeping.{stood_as}
use Rattle.mesa_recast_turns.specs.Unfit.{HasNotRecast, cause_unfit}
use Rattle.mesa_recast_turns.proofs.Dues.{recast_is_there}
use Rattle.mesa_recast_turns.proofs.Regroups.{table_is}
use Rattle.mesa_recast_turns.proofs.Unfits.{not_done}
use Rattle.mesa_recast_turns.proofs.recasting.close.Goals as goal

pub check_recast-requires-clause-there : goal.check_recast-requires-clause-there
check_recast-requires-clause-there g c =
    let N = g.N.Naming in
    let n : Starts = starts_of N.script N.start N.sound N.origin N.since N.counted N.at_start in
    let i = c.engine.inside in
    let h = i.log.history.items in
    let claim = claim_of_recast c.args.task.now in
    let due = subst (λ (x : Standing). IsDue N.script (run_at N.script (N.start no_rows) x.shown.history) c.args.who.session c.args.who.command (command.Recast c.requires.due.0) (Renewed claim)) (sym c.engine.view_is) c.requires.due.1 in
    recast_is_there (outset_of n no_rows) (n.origin no_rows) i.metadata.state (g.D.Disk.story i.disk) (g.K.Sink.held i.log.printer.sink) h (not i.log.printer.broken) i.log.refused (c.engine.invariant.vault no_rows false (λ is. absurd cc))
    c.args.who.session c.args.who.command c.requires.due.0 claim c.args.task.now.epoch (recast_in c.args.task.now) refl due

-- nothing is asked of the disk where it isn't done
pub returns-in-Err-clause-disk : goal.returns-in-Err-clause-disk
returns-in-Err-clause-disk g c = λ low e grew is. absurd (c.refuse.ensures.disk low e grew is)

-- a refusal that stands is one of the claim, or of the rules
pub returns-in-Err-clause-swept : goal.returns-in-Err-clause-swept
returns-in-Err-clause-swept g c stood holds still =
    let t = c.args.task.now in
    let i = c.engine.inside in
    let why = c.in-Err.why in
    let l = c.args.engine.now.state in
    let at = length c.args.engine.now.shown.history in
    let claim = claim_of_recast t in
    let here : HasNotRecast (books_of no_rows i.metadata.state) (length i.log.history.items) claim t.epoch (recast_in t) why =
    subst (λ p. HasNotRecast (books_of no_rows i.metadata.state) p claim t.epoch (recast_in t) why) c.position-at.ensures c.in-Err.ensures.refused in
    let has : HasNotRecast (books_of no_rows l) at claim t.epoch (recast_in t) why =
    subst (λ (x : Standing). HasNotRecast (books_of no_rows x.state) (length x.shown.history) claim t.epoch (recast_in t) why) c.engine.view_is here in
    let stands = stood_as c.args.engine.now.shown c.refuse.new.engine.shown c.args.who.session c.args.who.command (outcome_of (cause_unfit why)) _ c.refuse.ensures.outcome stood in
    let allowed = ap (λ (u : Table). still_checked u.lineage t.epoch (recast_in t)) (table_is l t.table) ∙ still in
    absurd (not_done (books_of no_rows l) at claim t.epoch (recast_in t) why has stands holds allowed)
