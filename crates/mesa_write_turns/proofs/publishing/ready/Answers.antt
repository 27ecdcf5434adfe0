use Rattle.std.proofs.Common.{refl, sym, subst}
use Rattle.mesa_engine.specs.mesa_catalog.Lookups.{sight_of}
use Rattle.mesa_model.specs.declared.commands.Command.TheVariants as command
use Rattle.mesa_file_records.specs.mesa_history_spec.Rows.{no_rows}
use Rattle.mesa_engine.specs.mesa_invariant_spec.Changes.{HasFailed}
use Rattle.mesa_engine.specs.EngineState.{books_of}
use Rattle.mesa_model.specs.Load.{load_batch}
use Rattle.mesa_file_records.specs.Bounds.{IsDue}
use Rattle.mesa_file_records.specs.Published.{bare_of}
use Rattle.mesa_write_turns.specs.Loading.{cause_of}
use Rattle.mesa_open_files.specs.Batches.{HasPrepared}
use Rattle.mesa_write_turns.proofs.Loads.{can_publish, read_so, unready_fails}
use Rattle.mesa_write_turns.proofs.publishing.ready.Goals as goal

pub returns-in-Ok-publish-clause-ready : goal.returns-in-Ok-publish-clause-ready
returns-in-Ok-publish-clause-ready g c =
    let l = c.args.metadata.now.state in
    let rows = c.args.rows.now in
    let opened = c.in_ok-check_open.ensures.opened in
    let pre = subst (λ m. HasPrepared g.M.Made.bytes g.M.Made.id_of (sight_of l.catalogue) rows m) c.in-Ok.is c.requires.made in
    let read = read_so l rows pre.0 pre.1 in
    can_publish l rows g.M.Made.bytes pre.0 c.in-Ok-publish.field-0 c.in-Ok-publish.field-0.version c.len.result opened c.requires.room read (c.in-Ok-publish.ensures.published rows pre.0 read pre.2) (c.in-Ok-publish.ensures.loaded rows pre.0 read pre.2)
    c.in-Ok-publish.ensures.version c.len.ensures

pub returns-in-Err-Refused-clause-refused : goal.returns-in-Err-Refused-clause-refused
returns-in-Err-Refused-clause-refused g c =
    let l = c.args.metadata.now.state in
    let rows = c.args.rows.now in
    let opened = c.in_ok-check_open.ensures.opened in
    let pre = subst (λ m. HasPrepared g.M.Made.bytes g.M.Made.id_of (sight_of l.catalogue) rows m) c.in-Ok.is c.requires.made in
    let read = read_so l rows pre.0 pre.1 in
    (c.in-Err-Refused.refusal, subst (λ e. IsDue (load_batch (bare_of l) rows) e) c.in-Err-Refused.field-0-is (c.in-Err-Refused.ensures.refused rows pre.0 opened read pre.2), refl)

pub returns-in-Err-clause-refused : goal.returns-in-Err-clause-refused
returns-in-Err-clause-refused g c =
    let l = c.args.metadata.now.state in
    let rows = c.args.rows.now in
    subst (λ e. HasFailed (books_of no_rows l) (command.Load rows) (λ w. load_batch w rows) (cause_of e)) (sym c.unprepared.ensures)
    (unready_fails l rows c.in_ok-check_open.ensures.opened c.in-Err.error (subst (λ m. HasPrepared g.M.Made.bytes g.M.Made.id_of (sight_of l.catalogue) rows m) c.in-Err.is c.requires.made))
